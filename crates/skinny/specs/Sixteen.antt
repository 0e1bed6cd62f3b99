-- An answer has 16 bytes, with 40 rounds and with 56.
use Rattle.std.specs.Prelude.{◌≡◌, ℕ, suc, List, length, refl}
use Rattle.skinny.specs.Skinny.{round, mix_columns, rounds, skinny}
use Rattle.skinny.specs.RoundCount.{round_count}
use Rattle.skinny.specs.declared.Rounds.{Rounds}
use Rattle.skinny.specs.declared.Rounds.TheVariants.{Forty, FiftySix}

-- a round gives 16 bytes
round_long : (c : ℕ) (k s : List ℕ) → length (round c k s) ≡ 16
unfolding round mix_columns
round_long c k s = refl

long : (n : ℕ) (T b : List ℕ) → length (skinny (suc n) T b) ≡ 16
unfolding skinny rounds
long n T b = round_long _ _ _

pub answer_long : (r : Rounds) (T b : List ℕ) → length (skinny (round_count r) T b) ≡ 16
answer_long Forty = long 39
answer_long FiftySix = long 55
