-- A mode whose ciphertext is the message, walked from a state that its tag may decide, finds the message by the walk back.
use Rattle.std.proofs.Common.{◌≡◌, ℕ, List, length}
use Rattle.byte_blocks.specs.Counter.{counter}
use Rattle.byte_blocks.specs.Block.{blocks}
use Rattle.cipher.specs.Cipher.{Answer}
use Rattle.passes.specs.declared.Direction.TheVariants.{Sealing, Opening}
use Rattle.passes.specs.Passes.{walked}
use Rattle.passes.proofs.Back.{length_walked, walked_back}

-- seed is the state that a tag leads to, and tag_of the tag of a message
module _ (f : Answer) (k n : List ℕ) (d : ℕ) (seed tag_of : List ℕ → List ℕ) where
  -- the message that has a ciphertext under a tag
  abbrev pub found : (text tag : List ℕ) → List ℕ
  found text tag = walked f k n d Opening (counter 1) (seed tag) (blocks text)

  pub sealed_again : (text tag : List ℕ) → tag_of (found text tag) ≡ tag → walked f k n d Sealing (counter 1) (seed (tag_of (found text tag))) (blocks (found text tag)) ≡ text
  sealed_again text tag e = rw e (walked_back f k n d Opening (counter 1) (seed tag) text)

  pub found_again : (message : List ℕ) → found (walked f k n d Sealing (counter 1) (seed (tag_of message)) (blocks message)) (tag_of message) ≡ message
  found_again message = walked_back f k n d Sealing (counter 1) (seed (tag_of message)) message

  pub length_found : (text tag : List ℕ) → length (found text tag) ≡ length text
  length_found text tag = length_walked f k n d Opening (counter 1) (seed tag) text
