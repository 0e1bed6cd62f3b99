-- The worked examples, computed.
use Rattle.std.proofs.Common.{refl}
use Rattle.byte_blocks.specs.Block.{padded, parts, tweakey_of}
use Rattle.cipher.specs.Cipher.{enciphered}
use Rattle.romulus_n.specs.ModeN.{started}
use Rattle.romulus_n.specs.Examples.{Examples}

pub worked : Examples
unfolding padded parts tweakey_of enciphered started
worked = record { empty_tag = refl; empty_cost = refl; one_block_each = refl; two_and_three_blocks = refl }
