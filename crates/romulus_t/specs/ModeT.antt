-- Romulus-T over any cipher: f is the cipher's answers, k the key, n the nonce, ad the associated data. Each block of the message has a key of its own.
-- The examples are on the bench stand-in, with zeros for key and nonce.
use Rattle.std.specs.Prelude.{ℕ, zero, suc, ◌+◌, ◌*◌, ◌/◌, List, [], ◌++◌, length, take, drop}
use Rattle.byte_blocks.specs.Bytes.{xors}
use Rattle.byte_blocks.specs.Counter.{stepped, counter, counter_bytes}
use Rattle.byte_blocks.specs.Block.{ipad_star, zero_block}
use Rattle.cipher.specs.Cipher.{Answer, enciphered}
use Rattle.romulus_h.specs.Hash.{digest_of, hash_calls}
use Rattle.mode.specs.Mode.{Scheme}

-- How many blocks a message of n bytes has. An empty one has none here: 0 for 0, 1 for n from 1 to 16.
abbrev pub message_blocks : ℕ → ℕ
message_blocks n = (n + 15) / 16

-- The text whose digest makes the tag: data and ciphertext, each padded where it is not empty,
-- the nonce, and the counter's value at the number of blocks of the ciphertext.
-- Example: without data and ciphertext it is the nonce, 1 and six zeros: 23 bytes.
unfoldable pub tag_input : (n ad text : List ℕ) → List ℕ
tag_input n ad text = ipad_star ad ++ (ipad_star text ++ (n ++ counter_bytes (counter (message_blocks (length text)))))

module _ (f : Answer) where
  -- The key stream of j blocks, from the counter's value c and the block key s on. The nonce is enciphered under each
  -- block key, with the domain 64 for a block of the stream and 65 for the next block key.
  -- Example: from the counter's value 1 and a block key of zeros, the first block is 1, six zeros, 64 and eight zeros.
  abbrev pub stream : (n : List ℕ) → (j c : ℕ) → (s : List ℕ) → List ℕ
  stream n zero c s = []
  stream n (suc j) c s = enciphered f s zero_block 64 c n ++ stream n j (stepped c) (enciphered f s zero_block 65 c n)

  -- The ciphertext: the message ⊕ the key stream. The first block key is the nonce enciphered under the key with the domain 66;
  -- that call has seven zero bytes in the place of the counter, and not the counter's first value.
  -- Example: 0xab becomes 0xaa.
  unfoldable pub ciphertext_of : (k n message : List ℕ) → List ℕ
  ciphertext_of k n message = xors message (stream n (message_blocks (length message)) (counter 0) (enciphered f k zero_block 66 0 n))

  -- The tag of a ciphertext: L enciphered under the key with the tweak R and the domain 68, where L and R are the halves of
  -- the digest. This call too has seven zero bytes in the place of the counter.
  -- Example: without data and ciphertext it is seven zeros, 0x44 and eight zeros.
  unfoldable pub tag_of : (k n ad text : List ℕ) → List ℕ
  tag_of k n ad text = let d = digest_of f (tag_input n ad text) in enciphered f k (drop 16 d) 68 0 (take 16 d)

-- How many blocks a text of n bytes has once it is padded: none for 0, 1 for n from 1 to 15, 2 for n from 16 to 31.
abbrev pub padded_blocks : ℕ → ℕ
padded_blocks zero = 0
padded_blocks (suc n) = suc n / 16 + 1

-- The calls for the tag, from the lengths of data and message: two for each 32-byte block of the text that is hashed, and one.
-- tag_cost 0 0 is 3, and tag_cost 0 16 is 5.
abbrev pub tag_cost : (ad message : ℕ) → ℕ
tag_cost ad message = hash_calls (16 * padded_blocks ad + 16 * padded_blocks message + 16 + 7) + 1

-- The calls of a seal or a right opening: two more for each block of the message.
-- t_cost 0 0 is 3, and t_cost 0 16 is 7.
abbrev pub t_cost : (ad message : ℕ) → ℕ
t_cost ad message = 2 * message_blocks message + tag_cost ad message

-- Romulus-T. A wrong opening stops at the tag: of 16 bytes without data it costs 5, where a seal and a right opening cost 7.
abbrev pub t_scheme : Scheme
t_scheme =
    record {
      frame = λ f k n ad message. (ciphertext_of f k n message, tag_of f k n ad (ciphertext_of f k n message));
      costs = λ ad message. record { seal = t_cost ad message; right = t_cost ad message; wrong = tag_cost ad message };
    }
