use Rattle.std.proofs.Common.{◌∙◌, arith}
use Rattle.side_by_side.proofs.Served.{one_more}
use Rattle.side_by_side.proofs.turns.serve.Goals as goal

pub loop-turn-preserved : goal.loop-turn-preserved
loop-turn-preserved g c = (
  c.handle.ensures.mode ∙ c.loop-turn.invariant.0,
  one_more g.M.Mode.scheme _ _ c.loop-turn.turns c.loop-turn.turn-index _ _ c.turn-item.result c.handle.new.turn c.loop-turn.invariant.1 (omega arith) c.loop-turn.auto.turns c.handle.ensures.step c.handle.ensures.kept,
)
