-- Worked examples of Romulus-N, on the bench stand-in with a key and a nonce of zeros.
use Rattle.std.specs.Prelude.{◌≡◌, [], ◌∷◌}
use Rattle.byte_blocks.specs.Block.{zero_block}
use Rattle.cipher.specs.Cipher.{stand_in}
use Rattle.romulus_n.specs.ModeN.{tag_of, n_cost}

pub record Examples : Type 0 where
  pub empty_tag : tag_of stand_in zero_block zero_block [] [] ≡ 0 ∷ 0 ∷ 0 ∷ 0 ∷ 0 ∷ 0 ∷ 0 ∷ 0x87 ∷ 0 ∷ 0 ∷ 0 ∷ 0 ∷ 0 ∷ 0 ∷ 0 ∷ 0 ∷ []
  pub empty_cost : n_cost 0 0 ≡ 2
  pub one_block_each : n_cost 16 16 ≡ 2
  pub two_and_three_blocks : n_cost 17 33 ≡ 5
