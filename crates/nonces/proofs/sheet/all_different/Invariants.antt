use Rattle.std.proofs.Common.{◌↔◌, length}
use Rattle.nonces.specs.Nonces.{NoRepeats}
use Rattle.nonces.proofs.sheet.all_different.Given as goal

-- the pairs left are all different exactly when all are
abbrev pub invariant-loop-pair : goal.invariant-loop-pair
invariant-loop-pair l = NoRepeats l.left ↔ NoRepeats l.pairs

abbrev pub decreases-loop-pair : goal.decreases-loop-pair
decreases-loop-pair l = length l.left
