-- Texts in blocks of 16 bytes, padding, and the tweakey of a call.
use Rattle.std.specs.Prelude.{◌≡◌, ℕ, zero, suc, ◌+◌, ◌-◌, ◌*◌, ◌/◌, ◌%◌, cond, List, [], ◌∷◌, ◌++◌, length, take, drop, replicate, nat_lt}
use Rattle.byte_blocks.specs.Counter.{counter_bytes}

-- The block of zeros.
abbrev pub zero_block : List ℕ
zero_block = 0 ∷ 0 ∷ 0 ∷ 0 ∷ 0 ∷ 0 ∷ 0 ∷ 0 ∷ 0 ∷ 0 ∷ 0 ∷ 0 ∷ 0 ∷ 0 ∷ 0 ∷ 0 ∷ []

-- A block that ends a text: what is left of the text, at most 15 bytes, then zeros, then a last byte.
-- ended (7 ∷ 9 ∷ []) 2 is 7, 9, thirteen zeros and 2.
unfoldable pub ended : List ℕ → ℕ → List ℕ
ended x last = take 15 x ++ (replicate (15 - length x) 0 ++ (last ∷ []))

-- A part of a text, of at most 16 bytes, as a whole block: 16 bytes stay as they are, fewer get zeros up to byte 15
-- and their number as the sixteenth byte. padded (0xab ∷ []) is 0xab, fourteen zeros and 0x01.
unfoldable pub padded : List ℕ → List ℕ
padded x = cond (nat_lt (length x) 16) (x ++ (replicate (15 - length x) 0 ++ (length x ∷ []))) (take 16 x)

-- The first n bytes of a text, with zeros where the text is shorter. first_bytes 16 (0xab ∷ []) is 0xab and fifteen zeros.
unfoldable pub first_bytes : ℕ → List ℕ → List ℕ
first_bytes n x = take n x ++ replicate (n - length x) 0

-- A text extended to the smallest multiple of w above its length, by zeros and a last byte that holds its length modulo w.
-- A text whose length is a multiple of w gets w bytes more. ipad 4 adds 0 ∷ 0 ∷ 1 ∷ [] to five bytes, and four zeros to four.
unfoldable pub ipad : ℕ → List ℕ → List ℕ
ipad w xs = xs ++ (replicate (w - 1 - length xs % w) 0 ++ (length xs % w ∷ []))

-- ipad in blocks of 16 bytes, but an empty text stays empty. ipad_star of 16 bytes adds 16 zeros.
unfoldable pub ipad_star : List ℕ → List ℕ
ipad_star [] = []
ipad_star (x ∷ xs) = ipad 16 (x ∷ xs)

-- n parts of w bytes, then what is left. cut 2 1 of 1, 2, 3, 4, 5 is the parts 1, 2 and 3, 4, 5.
abbrev pub cut : ℕ → ℕ → List ℕ → List (List ℕ)
cut w zero xs = xs ∷ []
cut w (suc n) xs = take w xs ∷ cut w n (drop w xs)

-- A text in parts of w bytes, the last one perhaps shorter; an empty text is one empty part.
-- parts 2 of 1, 2, 3, 4, 5 is the parts 1, 2 and 3, 4 and 5.
unfoldable pub parts : ℕ → List ℕ → List (List ℕ)
parts w xs = cut w ((length xs - 1) / w) xs

-- A text in blocks of 16 bytes: 17 bytes are a block of 16 and one of 1.
abbrev pub blocks : List ℕ → List (List ℕ)
blocks xs = parts 16 xs

-- How many blocks a text of n bytes has: 1 for n from 0 to 16, 2 for n from 17 to 32.
abbrev pub block_count : ℕ → ℕ
block_count n = (n - 1) / 16 + 1

-- How many bytes the last block of a text of n bytes has: 0 for n = 0, 16 for n = 16, 1 for n = 17.
abbrev pub last_length : ℕ → ℕ
last_length n = n - (n - 1) / 16 * 16

-- One of two numbers: the first where the last block of a text of n bytes is short, else the second.
-- if_short 17 26 24 is 26, and if_short 16 26 24 is 24.
abbrev pub if_short : (n short full : ℕ) → ℕ
if_short n short full = cond (nat_lt (last_length n) 16) short full

-- A tweakey is what the cipher takes beside a block: 48 bytes in three thirds. Its first third, of a counter c and a domain byte d:
-- seven bytes of the counter, the domain byte, which tells the kinds of calls apart, and eight zeros.
-- tweakey_head 8 (counter 8) is 0, 1, five zeros, 8 and eight zeros.
abbrev pub tweakey_head : ℕ → ℕ → List ℕ
tweakey_head d c = counter_bytes c ++ (d ∷ (0 ∷ 0 ∷ 0 ∷ 0 ∷ 0 ∷ 0 ∷ 0 ∷ 0 ∷ []))

-- The tweakey of a call under the key k with the tweak t, the domain byte d and the counter c. The tweak is a block that alters the answer
-- and need not be secret, as a nonce or a block of data. With key and tweak of zeros all after the head are zeros.
unfoldable pub tweakey_of : (k t : List ℕ) → (d c : ℕ) → List ℕ
tweakey_of k t d c = tweakey_head d c ++ (t ++ k)

-- Parts joined again. joined ((1 ∷ 2 ∷ []) ∷ (3 ∷ []) ∷ []) is 1 ∷ 2 ∷ 3 ∷ [].
abbrev pub joined : List (List ℕ) → List ℕ
joined [] = []
joined (x ∷ xs) = x ++ joined xs

-- The last of some parts: of the blocks of 17 bytes the one of 1 byte.
abbrev pub last_of : List (List ℕ) → List ℕ
last_of [] = []
last_of (x ∷ []) = x
last_of (x ∷ (y ∷ rest)) = last_of (y ∷ rest)

-- Blocks are the text, cut: joined they give it back, there are as many as block_count says, and the last has last_length bytes.
-- 17 bytes are two blocks, the last of 1 byte, and joined they are the 17 bytes.
pub record BlocksCut (xs : List ℕ) : Type 0 where
  pub whole : joined (blocks xs) ≡ xs
  pub counted : length (blocks xs) ≡ block_count (length xs)
  pub last : length (last_of (blocks xs)) ≡ last_length (length xs)
