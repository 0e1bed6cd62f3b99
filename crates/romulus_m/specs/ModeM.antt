-- Romulus-M over any cipher: f is the cipher's answers, k the key, n the nonce, ad the associated data. It stands repeated nonces.
-- The examples are on the bench stand-in, with zeros for key and nonce and without data.
use Rattle.std.specs.Prelude.{ℕ, zero, suc, ◌+◌, ◌/◌, ◌%◌, cond, List, [], ◌∷◌, ◌++◌, map, length, ◌==◌, bit_xor}
use Rattle.byte_blocks.specs.Bytes.{xors, g_of}
use Rattle.byte_blocks.specs.Counter.{stepped, counter}
use Rattle.byte_blocks.specs.Block.{padded, blocks, block_count, if_short, zero_block}
use Rattle.cipher.specs.Cipher.{Answer, enciphered}
use Rattle.passes.specs.declared.Direction.TheVariants.{Sealing}
use Rattle.passes.specs.Passes.{walked}
use Rattle.mode.specs.Mode.{Scheme}

-- The number w where a count is even, else 0. if_even 2 8 is 8, and if_even 3 8 is 0.
abbrev pub if_even : (count w : ℕ) → ℕ
if_even count w = cond (count % 2 == 0) w 0

-- The domain of the call that makes the tag, from the lengths of data and message: 48, ⊕ 2 where the last block of data is short,
-- ⊕ 1 where the message's is, ⊕ 8 for an even number of blocks of data, ⊕ 4 for an even number of blocks of message.
-- tag_domain 0 0 is 51, and tag_domain 32 16 is 56.
unfoldable pub tag_domain : (ad message : ℕ) → ℕ
tag_domain ad message =
    bit_xor (bit_xor (bit_xor (bit_xor 48 (if_short ad 2 0)) (if_short message 1 0)) (if_even (block_count ad) 8)) (if_even (block_count message) 4)

module _ (f : Answer) (k : List ℕ) where
  -- Padded blocks in pairs, one added (⊕) to the state and the next as tweak of a call: the first h pairs with the domain 40, the others with 44.
  -- A block left over is only added. c is the counter of the first block. With h = 1, four blocks make a call with 40 and then one with 44.
  abbrev pub paired : (h c : ℕ) → (s : List ℕ) → List (List ℕ) → List ℕ
  paired h c s [] = s
  paired h c s (x ∷ []) = xors s x
  paired zero c s (x ∷ (y ∷ rest)) = paired zero (stepped (stepped c)) (enciphered f k y 44 c (xors s x)) rest
  paired (suc h) c s (x ∷ (y ∷ rest)) = paired h (stepped (stepped c)) (enciphered f k y 40 c (xors s x)) rest

  -- The state that the blocks of data and then those of the message leave; the pairs that lie within the data have the domain 40.
  -- Example: the empty message, a pair of two blocks of zeros, leaves 2, six zeros, 44 and eight zeros.
  unfoldable pub gathered : (ad message : List ℕ) → List ℕ
  gathered ad message = paired (block_count (length ad) / 2) (counter 1) zero_block (map padded (blocks ad) ++ map padded (blocks message))

  module _ (n : List ℕ) where
    -- The tag: G of the answer to a last call, with the nonce as tweak. Example: of the empty message 3, six zeros, 0x8f and eight zeros.
    abbrev pub tag_of : (ad message : List ℕ) → List ℕ
    tag_of ad message = g_of (enciphered f k n (tag_domain (length ad) (length message)) (counter (block_count (length ad) + block_count (length message))) (gathered ad message))

    -- The state from which a text is sealed or opened under a tag. Example: from a tag of zeros 1, six zeros, 36 and eight zeros.
    unfoldable pub seeded : (tag : List ℕ) → List ℕ
    seeded tag = enciphered f k n 36 (counter 0) tag

    -- The ciphertext: the message walked from the seeded state, with the domain 36 between two parts.
    -- An empty message has an empty ciphertext, whatever the state. Example: 0xab becomes 0x00.
    abbrev pub ciphertext_of : (ad message : List ℕ) → List ℕ
    ciphertext_of ad message = walked f k n 36 Sealing (counter 1) (seeded (tag_of ad message)) (blocks message)

-- The calls that make the ciphertext: one for each block, and none for an empty message.
-- text_calls 0 is 0, and text_calls 17 is 2.
abbrev pub text_calls : ℕ → ℕ
text_calls message = cond (message == 0) 0 (block_count message)

-- The calls of one seal or one opening, from the lengths of data and message. m_cost 0 0 is 2, and m_cost 17 33 is 6.
abbrev pub m_cost : (ad message : ℕ) → ℕ
m_cost ad message = (block_count ad + block_count message) / 2 + 1 + text_calls message

-- Romulus-M. All three costs are the same: for 17 bytes of data and 33 of message 6 each.
abbrev pub m_scheme : Scheme
m_scheme =
    record {
      frame = λ f k n ad message. (ciphertext_of f k n ad message, tag_of f k n ad message);
      costs = λ ad message. record { seal = m_cost ad message; right = m_cost ad message; wrong = m_cost ad message };
    }
