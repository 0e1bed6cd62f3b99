use Rattle.std.proofs.Common.{◌≡◌, true}
use Rattle.nonces.proofs.Repeats.{rest_apart, more_apart, again}
use Rattle.nonces.proofs.sheet.all_different.Goals as goal

pub returns-then-stands : goal.returns-then-stands
returns-then-stands c =
    ((λ e. cc), (λ n. absurd (again _ _ (c.stands.ensures.0 c.if-stands.true) (rw c.in-Some.ensures.cases.0 at c.loop-pair.invariant.1 n))))

pub loop-pair-preserved : goal.loop-pair-preserved
loop-pair-preserved c = (
  (λ n. c.loop-pair.invariant.0 (rw c.in-Some.ensures.cases.0 (more_apart _ _ (λ w. let k : c.stands.result ≡ true = c.stands.ensures.1 w in cc) n))),
  (λ n. rest_apart _ _ (rw c.in-Some.ensures.cases.0 at c.loop-pair.invariant.1 n)),
)
