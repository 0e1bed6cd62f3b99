-- What the loading of a sheet answers.
use Rattle.std.specs.Prelude.{◌≡◌, List, ◌⊎◌, ℕ}
use Rattle.refusals.specs.declared.Refusal.{Refusal}
use Rattle.refusals.specs.Refusals.{number_of}
use Rattle.nonces.specs.Nonces.{NoRepeats}
use Rattle.nonces.specs.Sources.{sheet_nonces, SheetSized, SheetRefused}

-- 0 for a sheet of lawful size without repeats; else the number of the refusal.
-- The entries 1, 2 are answered 0, 1, 2, 1 are answered 2, and 1, 2, 1, 2 are answered 3.
abbrev pub SheetAnswered : (entries : List ℕ) → (number : ℕ) → Type 0
SheetAnswered entries number =
    ((number ≡ 0) × SheetSized entries × NoRepeats (sheet_nonces entries))
    ⊎ ((e : Refusal) × (number ≡ number_of e) × SheetRefused entries e)
