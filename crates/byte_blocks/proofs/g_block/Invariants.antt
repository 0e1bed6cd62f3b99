use Rattle.std.proofs.Common.{◌≡◌, ◌++◌, map, take, drop}
use Rattle.byte_blocks.specs.Bytes.{g_byte}
use Rattle.byte_blocks.proofs.g_block.Given as goal

abbrev pub invariant-loop-x : goal.invariant-loop-x
invariant-loop-x l = l.x-items ≡ map g_byte (take l.x-index l.initial.x-items) ++ drop l.x-index l.initial.x-items
