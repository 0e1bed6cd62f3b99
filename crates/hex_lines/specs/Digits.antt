-- Hexadecimal: a character is a byte, two digits spell a byte.
use Rattle.std.specs.Prelude.{◌≡◌, ℕ, ◌+◌, ◌-◌, ◌*◌, ◌/◌, ◌%◌, ◌<◌, ◌≤◌, Bool, cond, ◌&&◌, List, [], ◌∷◌, length, position, is_none, Some, None, Ok, Err, Option, Result, ◌==◌, nat_le, nat_lt, slice_index}
use Rattle.std.specs.Option.{unwrap_or}
use Rattle.hex_lines.specs.declared.fault.LineFault.{LineFault}
use Rattle.hex_lines.specs.declared.fault.LineFault.TheVariants.{BadDigit, OddDigits, LongLine}

-- Whether a character lies between two others, the ends included: within 0x30 0x39 0x35 is true.
abbrev pub within : (from to character : ℕ) → Bool
within from to character = nat_le from character && nat_le character to

-- The value of a digit: 0 to 9 are the characters 30 to 39, a to f are 61 to 66, and A to F are 41 to 46 (in hexadecimal).
-- digit_value 0x62 (b) is Some 11, and digit_value 0x67 (g) is None.
abbrev pub digit_value : ℕ → Option ℕ
digit_value c =
    cond (within 0x30 0x39 c) (Some (c - 0x30))
    (cond (within 0x61 0x66 c) (Some (c - 0x61 + 10)) (cond (within 0x41 0x46 c) (Some (c - 0x41 + 10)) None))

-- The place of the first character that is no digit, counted from 0: first_bad of 4g is Some 1, and of 4b None.
abbrev pub first_bad : List ℕ → Option ℕ
first_bad line = position (λ c. is_none (digit_value c)) line

-- The last two questions on a line, by the place of its first bad character and the count of all: are there only digits, and evenly many?
-- digits_check None 3 is Err OddDigits.
abbrev pub digits_check : (bad : Option ℕ) → (count : ℕ) → Result (Unit {0}) LineFault
digits_check (Some place) count = Err (BadDigit place)
digits_check None count = cond (count % 2 == 1) (Err OddDigits) (Ok tt)

-- The questions on a line, in their order: has it at most 8,192 characters, only digits, evenly many?
-- 4g and 4g0 are refused for the character at place 1, and 4 for being odd.
abbrev pub line_check : List ℕ → Result (Unit {0}) LineFault
line_check line = cond (nat_lt 8192 (length line)) (Err LongLine) (digits_check (first_bad line) (length line))

-- The byte that two digits spell: 4 and b (0x34 and 0x62) spell 0x4b.
abbrev pub byte_of : (high low : ℕ) → ℕ
byte_of high low = unwrap_or (digit_value high) 0 * 16 + unwrap_or (digit_value low) 0

-- The bytes that a line spells: 4b00 spells 0x4b ∷ 0x00 ∷ [].
abbrev pub bytes_of : List ℕ → List ℕ
bytes_of [] = []
bytes_of (c ∷ []) = []
bytes_of (high ∷ low ∷ rest) = byte_of high low ∷ bytes_of rest

-- The small digit of a value below 16: digit_of 11 is 0x62 (b).
abbrev pub digit_of : ℕ → ℕ
digit_of v = cond (nat_lt v 10) (0x30 + v) (0x61 + (v - 10))

-- Two small digits for each byte, the higher half first: digits_of (0x4b ∷ []) is 4b.
abbrev pub digits_of : List ℕ → List ℕ
digits_of [] = []
digits_of (b ∷ bs) = digit_of (b / 16) ∷ digit_of (b % 16) ∷ digits_of bs

-- Each is a byte: 0 ∷ 255 ∷ [] are bytes, and 256 ∷ [] is not.
abbrev pub Bytes : List ℕ → Type 0
Bytes xs = (i : ℕ) → slice_index xs i < 256

-- What is written in digits is a good line, where it is not too long, and spells the same bytes.
-- 0x4b ∷ [] is written 4b, a good line, which spells 0x4b ∷ [].
pub record ReadBack (bytes : List ℕ) : Type 0 where
  pub good : length bytes ≤ 4096 → line_check (digits_of bytes) ≡ Ok tt
  pub same : bytes_of (digits_of bytes) ≡ bytes
