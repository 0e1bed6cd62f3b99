use Rattle.romulus_m.specs.ModeM.{tag_domain}
use Rattle.romulus_m.proofs.domain.Goals as goal

pub returns : goal.returns
unfolding tag_domain
returns c = rw (c.if_short.ensures, c.if_short-2.ensures, c.even.ensures, c.even-2.ensures)
