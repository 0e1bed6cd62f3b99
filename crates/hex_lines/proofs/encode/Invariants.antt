use Rattle.std.proofs.Common.{◌≡◌, ◌++◌, take}
use Rattle.hex_lines.specs.Digits.{digits_of}
use Rattle.hex_lines.proofs.encode.Given as goal

abbrev pub invariant-loop-byte : goal.invariant-loop-byte
invariant-loop-byte g l = l.text ≡ take g.row.ROOM (l.initial.text ++ digits_of (take l.byte-index l.bytes))
