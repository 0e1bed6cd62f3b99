-- The worked examples of the definitions hold.
use Rattle.std.proofs.Common.{refl}
use Rattle.skinny.specs.Skinny.{s8, rc}
use Rattle.skinny.specs.Examples.{Examples}

pub examples : Examples
unfolding s8 rc
examples = (refl, refl)
