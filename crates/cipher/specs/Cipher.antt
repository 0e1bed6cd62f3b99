-- What a cipher means: one answer for each tweakey and block.
use Rattle.std.specs.Prelude.{◌≡◌, ℕ, ◌+◌, ◌%◌, ◌^◌, List, map, length, bit_xor, slice_index}
use Rattle.std.specs.List.{range_with_len}
use Rattle.byte_blocks.specs.Block.{tweakey_of}

-- What a cipher answers: a block, from a tweakey (48 bytes) and a block (16 bytes). The stand-in below is one.
abbrev pub Answer : Type 0
Answer = List ℕ → List ℕ → List ℕ

-- Every answer has 16 bytes, whatever the cipher is handed: the stand-in has this.
abbrev pub Sixteen : Answer → Type 0
Sixteen f = (tweakey block : List ℕ) → length (f tweakey block) ≡ 16

-- The answer for the block s under the key k, with the tweak t, the domain byte d and the counter c.
-- On the stand-in, with zeros for k, t and s, the domain byte 26 and the counter 2 give 2, six zeros, 26 and eight zeros.
unfoldable pub enciphered : Answer → (k t : List ℕ) → (d c : ℕ) → (s : List ℕ) → List ℕ
enciphered f k t d c s = f (tweakey_of k t d c) s

-- A cipher that was called j times: its answers are the same, and its count rose by j modulo 2 ^ 64. Three calls lead from the count 5 to 8.
pub record Called (f : Answer) (n : ℕ) (j : ℕ) (f' : Answer) (n' : ℕ) : Type 0 where
  pub same : f' ≡ f
  pub counted : n' ≡ (n + j) % 2 ^ 64

-- Byte i of the bench stand-in's answer: block ⊕ TK1 ⊕ TK2 ⊕ TK3, the thirds of the tweakey.
-- Of 8 in the block and 1, 2 and 4 in the thirds it is 15.
abbrev pub stand_in_at : (tweakey block : List ℕ) → ℕ → ℕ
stand_in_at tweakey block i = bit_xor (bit_xor (bit_xor (slice_index block i) (slice_index tweakey i)) (slice_index tweakey (16 + i))) (slice_index tweakey (32 + i))

-- The bench stand-in: a cipher for results that can be worked out by hand; it protects nothing.
-- Of a block of zeros under a tweakey of zeros it answers zeros.
abbrev pub stand_in : Answer
stand_in tweakey block = map (stand_in_at tweakey block) (range_with_len 0 16)
