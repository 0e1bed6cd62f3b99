-- A line read into a buffer. What a buffer holds is a list of bytes.
use Rattle.std.specs.Prelude.{◌≡◌, ℕ, ◌≤◌, List, take, Ok, Err, Result}
use Rattle.hex_lines.specs.declared.fault.LineFault.{LineFault}
use Rattle.hex_lines.specs.Digits.{line_check, bytes_of}

-- A line read into a buffer with so much room: it then holds the line's bytes, as many as there is room for, and 4,096 are enough for any line;
-- or there is a fault, and it is as it was.
-- After 4b00 it holds 0x4b ∷ 0x00 ∷ []; 4g leaves it as it was.
abbrev pub Decoded : (room : ℕ) → (line held : List ℕ) → Result (Unit {0}) LineFault → (held' : List ℕ) → Type 0
Decoded room line held (Ok done) held' = (line_check line ≡ Ok tt) × (held' ≡ take room (bytes_of line)) × (4096 ≤ room → held' ≡ bytes_of line)
Decoded room line held (Err fault) held' = (line_check line ≡ Err fault) × (held' ≡ held)
