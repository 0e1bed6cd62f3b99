-- How many rounds each of the two ciphers has.
use Rattle.std.specs.Prelude.{◌≡◌, ◌≢◌, ℕ, Result, Ok, Err}
use Rattle.skinny.specs.declared.UnknownRounds.{UnknownRounds}
use Rattle.skinny.specs.declared.Rounds.{Rounds}
use Rattle.skinny.specs.declared.Rounds.TheVariants.{Forty, FiftySix}

-- The number of rounds: 40 is what Romulus 1.3 runs on, 56 what Romulus 1.2 ran on.
abbrev pub round_count : Rounds → ℕ
round_count Forty = 40
round_count FiftySix = 56

-- What a number of rounds names: the rounds that have it, or none, and then the number comes back.
-- 40 names Forty, and 48 comes back.
abbrev pub Named : ℕ → Result Rounds UnknownRounds → Type 0
Named n (Ok r) = round_count r ≡ n
Named n (Err e) = (e.0 ≡ n) × (n ≢ 40) × (n ≢ 56)
