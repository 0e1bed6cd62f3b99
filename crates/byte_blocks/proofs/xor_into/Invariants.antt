use Rattle.std.proofs.Common.{◌≡◌, ◌++◌, take, drop}
use Rattle.byte_blocks.specs.Bytes.{xors}
use Rattle.byte_blocks.proofs.xor_into.Given as goal

abbrev pub invariant-loop-i : goal.invariant-loop-i
invariant-loop-i l = take l.i l.s ++ xors (drop l.i l.s) (drop l.i l.x) ≡ xors l.initial.s l.x
