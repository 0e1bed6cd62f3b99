use Rattle.std.proofs.Common.{◌≡◌, ◌++◌, map, take, drop}
use Rattle.skinny.specs.Skinny.{s8}
use Rattle.skinny.proofs.round.substituted.Given as goal

abbrev pub invariant-loop-x : goal.invariant-loop-x
invariant-loop-x l = l.x-items ≡ map s8 (take l.x-index l.initial.x-items) ++ drop l.x-index l.initial.x-items
