use Rattle.romulus_h.specs.Hash.{left_of, right_of}
use Rattle.romulus_h.proofs.Digest.compress.Goals as goal

pub returns-clause-left : goal.returns-clause-left
unfolding left_of
returns-clause-left g c = rw (c.thirds-tweakey.ensures, c.fed_forward-right.ensures.called.same) at c.fed_forward-self.ensures.value

pub returns-clause-right : goal.returns-clause-right
unfolding left_of right_of
returns-clause-right g c = rw (c.thirds-tweakey.ensures, c.mark.ensures) at c.fed_forward-right.ensures.value
