-- After i turns: the thirds and the state of round 4 i.
use Rattle.std.proofs.Common.{◌≡◌, ◌*◌}
use Rattle.skinny.specs.Schedule.{InRound}
use Rattle.skinny.specs.Skinny.{rounds}
use Rattle.skinny.proofs.encryption.answer.Given as goal

abbrev pub invariant-loop-constants : goal.invariant-loop-constants
invariant-loop-constants l = InRound l.tweakey (4 * l.constants-index) l.thirds × (l.s ≡ rounds l.tweakey l.block (4 * l.constants-index))
