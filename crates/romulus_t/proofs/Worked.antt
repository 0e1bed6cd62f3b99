-- The worked examples, computed.
use Rattle.std.proofs.Common.{refl}
use Rattle.byte_blocks.specs.Block.{parts, ipad, ipad_star, tweakey_of}
use Rattle.cipher.specs.Cipher.{enciphered}
use Rattle.romulus_h.specs.Hash.{left_of, right_of, digest_from}
use Rattle.romulus_t.specs.ModeT.{tag_input, tag_of}
use Rattle.romulus_t.specs.Examples.{Examples}

pub worked : Examples
unfolding parts ipad ipad_star tweakey_of enciphered left_of right_of digest_from tag_input tag_of
worked = record { empty_tag = refl; empty_cost = refl; one_block = refl }
