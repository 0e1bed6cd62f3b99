-- Worked examples of the counter, the padding and the map G.
use Rattle.std.specs.Prelude.{◌≡◌, [], ◌∷◌, ◌++◌}
use Rattle.byte_blocks.specs.Bytes.{g_byte}
use Rattle.byte_blocks.specs.Counter.{counter, counter_bytes}
use Rattle.byte_blocks.specs.Block.{padded, ipad_star, zero_block}

pub record Examples : Type 0 where
  pub counter_8 : counter_bytes (counter 8) ≡ 0x00 ∷ 0x01 ∷ 0x00 ∷ 0x00 ∷ 0x00 ∷ 0x00 ∷ 0x00 ∷ []
  pub counter_56 : counter_bytes (counter 56) ≡ 0x95 ∷ 0x00 ∷ 0x00 ∷ 0x00 ∷ 0x00 ∷ 0x00 ∷ 0x00 ∷ []
  pub pad_ab : padded (0xab ∷ []) ≡ 0xab ∷ 0 ∷ 0 ∷ 0 ∷ 0 ∷ 0 ∷ 0 ∷ 0 ∷ 0 ∷ 0 ∷ 0 ∷ 0 ∷ 0 ∷ 0 ∷ 0 ∷ 0x01 ∷ []
  pub ipad_star_16 : ipad_star zero_block ≡ zero_block ++ zero_block
  pub g_0f : g_byte 0x0f ≡ 0x87
  pub g_80 : g_byte 0x80 ≡ 0xc0
