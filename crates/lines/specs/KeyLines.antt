-- Key lines: lines that may hold a key, and are cleared once they are answered.
use Rattle.std.specs.Prelude.{ℕ, Bool, false, cond, ◌&&◌, ◌||◌, List, [], ◌∷◌, ◌==◌}
use Rattle.mode.specs.Mode.{zeros}

-- A key line is any line that begins with 4b or 4B, the letter K, whatever follows: 4bxyz is one, and 4c is none.
abbrev pub is_key_line : List ℕ → Bool
is_key_line [] = false
is_key_line (c ∷ []) = false
is_key_line (c ∷ d ∷ rest) = c == 0x34 && (d == 0x62 || d == 0x42)

-- A line after it was answered: a key line is zeros, any other is as it was. Of 4b00 four zeros are left.
abbrev pub line_after : List ℕ → List ℕ
line_after line = cond (is_key_line line) (zeros line) line
