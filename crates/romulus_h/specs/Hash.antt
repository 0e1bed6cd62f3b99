-- Romulus-H: a digest of 32 bytes from a cipher's answers.
use Rattle.std.specs.Prelude.{ℕ, ◌+◌, ◌*◌, ◌/◌, List, [], ◌∷◌, ◌++◌, length, replicate, Ok, Err, Result, ◌==◌, bit_xor, nat_le}
use Rattle.refusals.specs.declared.Refusal.{Refusal}
use Rattle.refusals.specs.declared.Refusal.TheVariants.{HashLength, DigestLength}
use Rattle.refusals.specs.Refusals.{Question, ask}
use Rattle.byte_blocks.specs.Bytes.{xors}
use Rattle.byte_blocks.specs.Block.{parts, ipad, zero_block}
use Rattle.cipher.specs.Cipher.{Answer}

-- A block whose first byte took ⊕ b. marked 2 (1 ∷ 5 ∷ []) is 3 ∷ 5 ∷ [].
abbrev pub marked : ℕ → List ℕ → List ℕ
marked b [] = []
marked b (x ∷ xs) = bit_xor x b ∷ xs

module _ (f : Answer) where
  -- The new L from L, R and a block q of 32 bytes: the answer for L under the tweakey R then q, ⊕ L.
  -- On the stand-in L cancels out: R of sixteen 1s and q of sixteen 2s and sixteen 4s give sixteen 7s.
  unfoldable pub left_of : (l r q : List ℕ) → List ℕ
  left_of l r q = xors (f (r ++ q) l) l

  -- The new R: the same from L with ⊕ 1 in its first byte. On the stand-in it is the new L, since L cancels out.
  unfoldable pub right_of : (l r q : List ℕ) → List ℕ
  right_of l r q = left_of (marked 1 l) r q

  -- L then R after the blocks of a text, from L and R on. Before the last block the first byte of L takes ⊕ 2.
  -- Of one block, L is marked and both are renewed once; without any block L then R are left as they are.
  abbrev pub chained : (l r : List ℕ) → List (List ℕ) → List ℕ
  chained l r [] = l ++ r
  chained l r (q ∷ []) = left_of (marked 2 l) r q ++ right_of (marked 2 l) r q
  chained l r (q ∷ (p ∷ rest)) = chained (left_of l r q) (right_of l r q) (p ∷ rest)

  -- The digest of a text from L and R on: the text is padded, and cut into blocks of 32 bytes.
  -- Of 32 bytes there are two blocks, the second all padding.
  unfoldable pub digest_from : (l r text : List ℕ) → List ℕ
  digest_from l r text = chained l r (parts 32 (ipad 32 text))

  -- The digest of a text: L and R start as zeros. On the stand-in the byte 0xab has the digest 0xab, fourteen zeros and 1, and the same again.
  abbrev pub digest_of : List ℕ → List ℕ
  digest_of text = digest_from zero_block zero_block text

-- The calls for a text of n bytes: two for each 32-byte block of the padded text. hash_calls 31 is 2, and hash_calls 32 is 4.
abbrev pub hash_calls : ℕ → ℕ
hash_calls n = 2 * (n / 32 + 1)

-- The questions before a hash, from the lengths of its input and of the digest's place.
-- first_no (hash_questions 5 31) is Some DigestLength.
abbrev pub hash_questions : (input place : ℕ) → List Question
hash_questions input place = ask HashLength (nat_le input 1048576) ∷ ask DigestLength (place == 32) ∷ []

-- What the place holds after a hash: the digest of the input or, after a refusal, zeros: 31 of them in a place of 31 bytes.
abbrev pub hash_place : Answer → (input place : List ℕ) → Result (Unit {0}) Refusal → List ℕ
hash_place f input place (Ok done) = digest_of f input
hash_place f input place (Err r) = replicate (length place) 0

-- What a hash costs, in calls of the cipher: nothing where it is refused. hash_cost 32 (Ok tt) is 4.
abbrev pub hash_cost : (input : ℕ) → Result (Unit {0}) Refusal → ℕ
hash_cost input (Ok done) = hash_calls input
hash_cost input (Err r) = 0
