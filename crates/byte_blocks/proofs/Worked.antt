-- The worked examples, computed.
use Rattle.std.proofs.Common.{refl}
use Rattle.byte_blocks.specs.Block.{padded, ipad, ipad_star}
use Rattle.byte_blocks.specs.Examples.{Examples}

pub worked : Examples
unfolding padded ipad ipad_star
worked = record { counter_8 = refl; counter_56 = refl; pad_ab = refl; ipad_star_16 = refl; g_0f = refl; g_80 = refl }
