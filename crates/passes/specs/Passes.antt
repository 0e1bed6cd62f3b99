-- The two passes of Romulus-N and Romulus-M over a text: one that only authenticates, and one that enciphers as well.
-- Both carry a block of 16 bytes from call to call, the state s. f is the cipher's answers and k the key.
use Rattle.std.specs.Prelude.{ℕ, List, [], ◌∷◌, ◌++◌}
use Rattle.byte_blocks.specs.Bytes.{xors, g_of}
use Rattle.byte_blocks.specs.Counter.{stepped}
use Rattle.byte_blocks.specs.Block.{padded}
use Rattle.cipher.specs.Cipher.{Answer, enciphered}
use Rattle.passes.specs.declared.Direction.{Direction}
use Rattle.passes.specs.declared.Direction.TheVariants.{Sealing, Opening}

-- Padded blocks in pairs: the first of a pair is added (⊕) to the state, the second is the tweak of a call with the domain d.
-- A block left over is only added. c is the counter of the first block. Five blocks make two calls; one block makes none, and leaves s ⊕ it.
abbrev pub absorbed : Answer → (k : List ℕ) → (d c : ℕ) → (s : List ℕ) → List (List ℕ) → List ℕ
absorbed f k d c s [] = s
absorbed f k d c s (x ∷ []) = xors s x
absorbed f k d c s (x ∷ (y ∷ rest)) = absorbed f k d (stepped (stepped c)) (enciphered f k y d c (xors s x)) rest

-- Of a part x of the text handed in and the part y written for it, the message's.
-- message_part Sealing x y is x, since the message is what is handed in.
abbrev pub message_part : Direction → (x y : List ℕ) → List ℕ
message_part Sealing x y = x
message_part Opening x y = y

-- The state after a part x of the text handed in: the message's part, padded, is added to it.
-- Sealing 0xab alone from a state of zeros leaves 0xab, fourteen zeros and 1.
abbrev pub mixed : Direction → (s x : List ℕ) → List ℕ
mixed way s x = xors s (padded (message_part way x (xors x (g_of s))))

-- A text that is mixed into the state s part by part, with a call of the tweak n and the domain d between two parts.
-- Sealing, the text is the message, and what is written the ciphertext; opening, it is the other way round.
module _ (f : Answer) (k n : List ℕ) (d : ℕ) (way : Direction) where
  -- What is written: each part ⊕ the first bytes of G of the state. From a state of sixteen 0x80, whose G is 0xc0, the byte 0xab gives 0x6b.
  abbrev pub walked : (c : ℕ) → (s : List ℕ) → List (List ℕ) → List ℕ
  walked c s [] = []
  walked c s (x ∷ []) = xors x (g_of s)
  walked c s (x ∷ (y ∷ rest)) = xors x (g_of s) ++ walked (stepped c) (enciphered f k n d c (mixed way s x)) (y ∷ rest)

  -- The state that is left. Sealing 0xab alone from a state of zeros leaves 0xab, fourteen zeros and 1.
  abbrev pub left : (c : ℕ) → (s : List ℕ) → List (List ℕ) → List ℕ
  left c s [] = s
  left c s (x ∷ []) = mixed way s x
  left c s (x ∷ (y ∷ rest)) = left (stepped c) (enciphered f k n d c (mixed way s x)) (y ∷ rest)
