use Rattle.nonces.proofs.Repeats.{rest_apart}
use Rattle.nonces.proofs.sheet.SheetNonceSource.next.Goals as goal

pub invariant_of-self : goal.invariant_of-self
invariant_of-self c = record { different = rest_apart _ _ (rw c.in_ok-high.ensures.cases.0 at c.args.self.now.different) }
