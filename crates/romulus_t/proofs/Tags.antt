-- The tag: the text that is hashed for it, and the digest's halves.
use Rattle.std.proofs.Common.{◌≡◌, ℕ, ◌+◌, ◌*◌, List, [], ◌∷◌, ◌++◌, length, refl, ◌∙◌, append_assoc, arith}
use Rattle.std.proofs.lemmas.List.{length-append, length-replicate, take_at, drop_at}
use Rattle.byte_blocks.specs.Counter.{counter, counter_bytes}
use Rattle.byte_blocks.specs.Block.{ipad, ipad_star}
use Rattle.cipher.specs.Cipher.{Answer, enciphered}
use Rattle.romulus_h.specs.Hash.{digest_of}
use Rattle.romulus_t.specs.ModeT.{message_blocks, padded_blocks, tag_input, tag_of}

-- ---- the length of what is hashed
length_star : (xs : List ℕ) → length (ipad_star xs) ≡ 16 * padded_blocks (length xs)
unfolding ipad_star ipad
length_star [] = refl
length_star (x ∷ xs) = simp (length-append, length-replicate) (omega arith)

pub length_input : (n ad text : List ℕ) → length n ≡ 16 → length (tag_input n ad text) ≡ 16 * padded_blocks (length ad) + 16 * padded_blocks (length text) + 16 + 7
unfolding tag_input
length_input n ad text l = simp (length-append, length_star, l) (omega arith)

-- the four parts that are taken in one after the other
pub input_parts : (n ad text t : List ℕ) → t ≡ counter_bytes (counter (message_blocks (length text))) → ((ipad_star ad ++ ipad_star text) ++ n) ++ t ≡ tag_input n ad text
unfolding tag_input
input_parts n ad text t e = append_assoc (ipad_star ad ++ ipad_star text) n t ∙ append_assoc (ipad_star ad) (ipad_star text) (n ++ t) ∙ rw e

-- ---- the tag from the digest's halves
pub tag_from : (f : Answer) (k n ad text l r t : List ℕ) → length l ≡ 16 → l ++ r ≡ digest_of f (tag_input n ad text) → t ≡ enciphered f k r 68 0 l → t ≡ tag_of f k n ad text
unfolding tag_of
tag_from f k n ad text l r t h e et = rw (← e, take_at l r 16 h, drop_at l r 16 h) et
