-- What a nonce source means: the list of nonces still to come, without repeats.
use Rattle.std.specs.Prelude.{◌≡◌, ℕ, ◌<◌, List, length, take, drop, ◌≢◌, slice_index_or}
use Rattle.std.specs.List.{AllByRecursion}
use Rattle.std.specs.Int.Digits.{number_from_digits}

-- No two places of a list hold the same: 1 ∷ 2 ∷ [] is such a list, and 1 ∷ 2 ∷ 1 ∷ [] is not.
abbrev pub NoRepeats : {X : Type 0} → List X → Type 0
NoRepeats {X} xs = (i j : ℕ) → (i < j) × (j < length xs) → (d : X) → slice_index_or xs i d ≢ slice_index_or xs j d

-- A nonce (a value that is to be used once) has 16 bytes. Sixteen zeros are one.
pub record Nonce (n : List ℕ) : Type 0 where
  pub sixteen : length n ≡ 16
  pub bytes : AllByRecursion (λ b. b < 256) n

-- What every source owes of its list: these are nonces, and none comes twice.
-- The empty list is such a list; one that holds sixteen zeros twice is not.
pub record NoncesProper (ns : List (List ℕ)) : Type 0 where
  pub nonces : AllByRecursion Nonce ns
  pub no_repeats : NoRepeats ns

-- A nonce as two numbers of eight bytes each, the highest byte first.
-- words of seven zeros, 1, six zeros, 1 and 2 is (1, 258).
abbrev pub words : List ℕ → ℕ × ℕ
words n = (number_from_digits 256 (take 8 n), number_from_digits 256 (drop 8 n))
