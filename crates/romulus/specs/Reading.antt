-- Lines, as they are taken from what was read.
use Rattle.std.specs.Prelude.{◌≡◌, ℕ, ◌+◌, ◌-◌, Bool, List, [], ◌++◌, length, take, drop, Ok, Err, Result, ◌==◌, nat_lt}
use Rattle.std.specs.List.{before_first}
use Rattle.std.specs.declared.alloc.AllocError.{AllocError}

-- What was read and not yet handed on: the bytes that wait, and how many bytes of the room before them were handed on.
-- With a, b, c read and a handed on, 1, and b and c.
pub record Rest : Type 0 where
  pub handed_on : ℕ
  pub waiting : List ℕ

-- The characters before the first newline, or all where there is none: of a, b, newline, c it is a, b.
abbrev pub first_line : List ℕ → List ℕ
first_line bytes = before_first (λ c. c == 0x0a) bytes

-- Something is waiting, or the input has ended and nothing is; after an error nothing is.
abbrev pub Filled : {E : Type 0} → Result Bool E → (ahead : List ℕ) → Type 0
Filled (Ok more) ahead = more ≡ nat_lt 0 (length ahead)
Filled (Err e) ahead = ahead ≡ []

-- What was waiting goes to a line up to the newline, which is dropped; of the line 8,193 characters are kept, enough to tell that it is too long.
-- With a, b, newline, c waiting and an empty line, the newline came, c is left waiting, and the line is a, b. Without memory nothing changes.
abbrev pub Taken : (ahead line : List ℕ) → Result Bool AllocError → (ahead' line' : List ℕ) → Type 0
Taken ahead line (Ok came) ahead' line' =
    (came ≡ nat_lt (length (first_line ahead)) (length ahead)) × (ahead' ≡ drop (length (first_line ahead) + 1) ahead) × (line' ≡ line ++ take (8193 - length line) (first_line ahead))
Taken ahead line (Err e) ahead' line' = (ahead' ≡ ahead) × (line' ≡ line)
