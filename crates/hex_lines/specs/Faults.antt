-- What a refused line is told: a number, the letter of the layer that refused it, and a place.
use Rattle.std.specs.Prelude.{ℕ, ◌/◌, ◌%◌, List, [], ◌∷◌}
use Rattle.refusals.specs.Refusals.{number_of}
use Rattle.hex_lines.specs.declared.fault.LineFault.TheVariants.{BadDigit, OddDigits, LongLine}
use Rattle.hex_lines.specs.declared.fault.FrameFault.TheVariants.{UnknownLetter, FrameLength, NoKey, UnknownCipher}
use Rattle.hex_lines.specs.declared.fault.Fault.{Fault}
use Rattle.hex_lines.specs.declared.fault.Fault.TheVariants.{Line, Frame, Mode}

-- The number of each fault; a mode's refusal keeps its own: fault_number (Mode WrongFrame) is 13.
abbrev pub fault_number : Fault → ℕ
fault_number (Line (BadDigit place)) = 16
fault_number (Line OddDigits) = 17
fault_number (Line LongLine) = 18
fault_number (Frame UnknownLetter) = 19
fault_number (Frame (FrameLength len)) = 20
fault_number (Frame NoKey) = 21
fault_number (Frame UnknownCipher) = 22
fault_number (Mode refusal) = number_of refusal

-- The letter of the layer: L (4c) for the line, F (46) for the frame, M (4d) for the mode.
abbrev pub fault_layer : Fault → ℕ
fault_layer (Line fault) = 0x4c
fault_layer (Frame fault) = 0x46
fault_layer (Mode refusal) = 0x4d

-- The place: the first bad character's, or the length in bytes of a frame that does not fit; else 0. fault_place (Frame (FrameLength 3)) is 3.
abbrev pub fault_place : Fault → ℕ
fault_place (Line (BadDigit place)) = place
fault_place (Line OddDigits) = 0
fault_place (Line LongLine) = 0
fault_place (Frame UnknownLetter) = 0
fault_place (Frame (FrameLength len)) = len
fault_place (Frame NoKey) = 0
fault_place (Frame UnknownCipher) = 0
fault_place (Mode refusal) = 0

-- A number in two bytes, the highest first: two_bytes 258 is 1 ∷ 2 ∷ [].
abbrev pub two_bytes : ℕ → List ℕ
two_bytes n = (n / 256 % 256) ∷ (n % 256) ∷ []

-- The four bytes of a refusal: number, layer, and the place in two bytes, the highest first.
-- report_of (Line (BadDigit 1)) is 0x10 ∷ 0x4c ∷ 0x00 ∷ 0x01 ∷ [].
abbrev pub report_of : Fault → List ℕ
report_of fault = fault_number fault ∷ fault_layer fault ∷ two_bytes (fault_place fault)
