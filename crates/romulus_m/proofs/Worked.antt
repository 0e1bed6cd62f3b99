-- The worked examples, computed.
use Rattle.std.proofs.Common.{refl}
use Rattle.byte_blocks.specs.Block.{padded, parts, tweakey_of}
use Rattle.cipher.specs.Cipher.{enciphered}
use Rattle.romulus_m.specs.ModeM.{tag_domain, gathered}
use Rattle.romulus_m.specs.Examples.{Examples}

pub worked : Examples
unfolding padded parts tweakey_of enciphered tag_domain gathered
worked = record { empty_tag = refl; empty_cost = refl }
