-- Worked examples of Romulus-M, on the bench stand-in with a key and a nonce of zeros.
use Rattle.std.specs.Prelude.{◌≡◌, [], ◌∷◌}
use Rattle.byte_blocks.specs.Block.{zero_block}
use Rattle.cipher.specs.Cipher.{stand_in}
use Rattle.romulus_m.specs.ModeM.{tag_of, m_cost}

pub record Examples : Type 0 where
  pub empty_tag : tag_of stand_in zero_block zero_block [] [] ≡ 3 ∷ 0 ∷ 0 ∷ 0 ∷ 0 ∷ 0 ∷ 0 ∷ 0x8f ∷ 0 ∷ 0 ∷ 0 ∷ 0 ∷ 0 ∷ 0 ∷ 0 ∷ 0 ∷ []
  pub empty_cost : m_cost 0 0 ≡ 2
