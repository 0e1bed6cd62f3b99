use native.Mathlib.Omega.{arith}
use Rattle.bench_edge.proofs.SealedOver.{one_more}
use Rattle.bench_edge.proofs.posts.seal_over.Goals as goal

pub loop-number-preserved : goal.loop-number-preserved
loop-number-preserved g c =
    one_more g.M.Mode.scheme _ _ _ _ _ _ _ _ _ _ _ _ c.seal.result c.loop-number.invariant (omega arith) c.seal.ensures.stepped c.number.ensures
