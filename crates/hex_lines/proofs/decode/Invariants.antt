use Rattle.std.proofs.Common.{◌≡◌, map, take}
use Rattle.hex_lines.proofs.Spelling.{pair_byte}
use Rattle.hex_lines.proofs.decode.Given as goal

abbrev pub invariant-loop-high : goal.invariant-loop-high
invariant-loop-high g l = l.bytes ≡ take g.row.ROOM (map pair_byte (take l.high-index l.high-items))
