-- Worked examples of Romulus-T, on the bench stand-in with a key and a nonce of zeros.
use Rattle.std.specs.Prelude.{◌≡◌, [], ◌∷◌}
use Rattle.byte_blocks.specs.Block.{zero_block}
use Rattle.cipher.specs.Cipher.{stand_in}
use Rattle.romulus_t.specs.ModeT.{tag_of, t_cost}

pub record Examples : Type 0 where
  pub empty_tag : tag_of stand_in zero_block zero_block [] [] ≡ 0 ∷ 0 ∷ 0 ∷ 0 ∷ 0 ∷ 0 ∷ 0 ∷ 0x44 ∷ 0 ∷ 0 ∷ 0 ∷ 0 ∷ 0 ∷ 0 ∷ 0 ∷ 0 ∷ []
  pub empty_cost : t_cost 0 0 ≡ 3
  pub one_block : t_cost 0 16 ≡ 7
