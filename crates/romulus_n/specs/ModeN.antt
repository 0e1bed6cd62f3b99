-- Romulus-N over any cipher: f is the cipher's answers, k the key, n the nonce, ad the associated data. Its nonces must never repeat under a key.
-- The examples are on the bench stand-in, with zeros for key and nonce and without data.
use Rattle.std.specs.Prelude.{ℕ, ◌+◌, ◌/◌, List, map, length}
use Rattle.byte_blocks.specs.Bytes.{g_of}
use Rattle.byte_blocks.specs.Counter.{counter}
use Rattle.byte_blocks.specs.Block.{padded, blocks, block_count, if_short, zero_block}
use Rattle.cipher.specs.Cipher.{Answer, enciphered}
use Rattle.passes.specs.declared.Direction.TheVariants.{Sealing}
use Rattle.passes.specs.Passes.{absorbed, walked, left}
use Rattle.mode.specs.Mode.{Scheme}

module _ (f : Answer) (k n : List ℕ) where
  -- The state that the associated data and the nonce leave: the data's blocks in pairs with the domain 8,
  -- then a call with the nonce as tweak and the domain 26 where the last block is short, else 24.
  -- Example: 2, six zeros, 26 and eight zeros (the counter 2 and the domain 26).
  unfoldable pub started : List ℕ → List ℕ
  started ad =
      enciphered f k n (if_short (length ad) 26 24) (counter (block_count (length ad)))
      (absorbed f k 8 (counter 1) zero_block (map padded (blocks ad)))

  -- The tag of a message of len bytes that left the state s: G of the answer to a call with the domain 21 where the last block is short, else 20.
  -- Example: for len = 0 a state of zeros gives 1, six zeros, 0x8a and eight zeros.
  abbrev pub closed : (len : ℕ) → (s : List ℕ) → List ℕ
  closed len s = g_of (enciphered f k n (if_short len 21 20) (counter (block_count len)) s)

  -- The ciphertext: the message walked from the started state, with the domain 4 between two parts.
  -- Example: 0xab becomes 0xaa, since the started state begins with 2 and G of 2 is 1.
  abbrev pub ciphertext_of : (ad message : List ℕ) → List ℕ
  ciphertext_of ad message = walked f k n 4 Sealing (counter 1) (started ad) (blocks message)

  -- The tag: what closes the state that the walk leaves. Example: of the empty message seven zeros, 0x87 and eight zeros.
  abbrev pub tag_of : (ad message : List ℕ) → List ℕ
  tag_of ad message = closed (length message) (left f k n 4 Sealing (counter 1) (started ad) (blocks message))

-- The calls of one seal or one opening, from the lengths of data and message: ⌊a/2⌋ + 1 + m for a and m blocks.
-- n_cost 16 16 is 2, and n_cost 17 33 is 5.
abbrev pub n_cost : (ad message : ℕ) → ℕ
n_cost ad message = block_count ad / 2 + 1 + block_count message

-- Romulus-N. All three costs are the same: for 16 bytes of data and of message a seal, a right and a wrong opening cost 2 each.
abbrev pub n_scheme : Scheme
n_scheme =
    record {
      frame = λ f k n ad message. (ciphertext_of f k n ad message, tag_of f k n ad message);
      costs = λ ad message. record { seal = n_cost ad message; right = n_cost ad message; wrong = n_cost ad message };
    }
