-- The nonces of a counting source and of a sheet, and the questions before one is made.
use Rattle.std.specs.Prelude.{◌≡◌, ℕ, ◌+◌, ◌-◌, ◌/◌, ◌%◌, ◌^◌, ◌≤◌, ◌⊎◌, List, [], ◌∷◌, ◌++◌, length, map, slice_index, Option, nat_le}
use Rattle.std.specs.List.{range_with_len}
use Rattle.std.specs.Simd.{first_chunks}
use Rattle.std.specs.declared.ops.Range.{Range}
use Rattle.refusals.specs.declared.Refusal.{Refusal}
use Rattle.refusals.specs.declared.Refusal.TheVariants.{CountRange, SheetSize, SheetRepeats}
use Rattle.refusals.specs.Refusals.{ask, first_no}
use Rattle.nonces.specs.Nonces.{NoRepeats}

-- A number below 2 ^ 64 as eight bytes, the highest first: of 258 six zeros, 1 and 2.
abbrev pub big_endian : ℕ → List ℕ
big_endian n =
    (n / 2 ^ 56 % 256) ∷ (n / 2 ^ 48 % 256) ∷ (n / 2 ^ 40 % 256) ∷ (n / 2 ^ 32 % 256) ∷ (n / 2 ^ 24 % 256) ∷ (n / 2 ^ 16 % 256) ∷ (n / 2 ^ 8 % 256) ∷ (n % 256) ∷ []

-- The nonces of a counting source: the prefix, then a count from first on, as many as the amount.
-- With the prefix p, from 1 on and the amount 2: p with seven zeros and 1, then p with seven zeros and 2.
abbrev pub counted : (prefix : List ℕ) → (first amount : ℕ) → List (List ℕ)
counted prefix first amount = map (λ count. prefix ++ big_endian count) (range_with_len first amount)

-- The same with the counts of a range: those of 1..3 are 1 and 2.
abbrev pub counted_in : (prefix : List ℕ) → Range ℕ → List (List ℕ)
counted_in prefix counts = counted prefix counts.start (counts.end - counts.start)

-- The question before a counting source is made: does the count, which stands at first + amount once all nonces are taken, stay within 64 bits?
-- count_refusal (2 ^ 64 - 1) 1 is Some CountRange, and with the amount 0 it is None.
abbrev pub count_refusal : (first amount : ℕ) → Option Refusal
count_refusal first amount = first_no (ask CountRange (nat_le (first + amount) (2 ^ 64 - 1)) ∷ [])

-- The nonce of a pair of numbers: of 1, 2 seven zeros and 1, seven zeros and 2.
abbrev pub nonce_of : List ℕ → List ℕ
nonce_of pair = big_endian (slice_index pair 0) ++ big_endian (slice_index pair 1)

-- A sheet is a list of nonces that somebody else made, as 64-bit numbers, two for each nonce. Its nonces, in order:
-- sheet_nonces (1 ∷ 2 ∷ 3 ∷ []) is one nonce, seven zeros and 1, seven zeros and 2; a number left over makes none.
abbrev pub sheet_nonces : List ℕ → List (List ℕ)
sheet_nonces entries = map nonce_of (first_chunks 2 (length entries / 2) entries)

-- A sheet has an even number of entries, at most 8,192. None at all is lawful, and three are not.
abbrev pub SheetSized : List ℕ → Type 0
SheetSized entries = (length entries % 2 ≡ 0) × (length entries ≤ 8192)

-- Why a sheet is refused: its size; or, where that is lawful, a nonce that stands on it twice.
-- The entries 1, 2, 1 are refused with SheetSize (2), and 1, 2, 1, 2 with SheetRepeats (3).
abbrev pub SheetRefused : List ℕ → Refusal → Type 0
SheetRefused entries e =
    ((e ≡ SheetSize) × (SheetSized entries → ⊥)) ⊎ ((e ≡ SheetRepeats) × SheetSized entries × (NoRepeats (sheet_nonces entries) → ⊥))
