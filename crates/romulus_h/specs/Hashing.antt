-- A hash under way: what is still to come decides the digest. Romulus-T hashes its parts one after the other so, without joining them.
use Rattle.std.specs.Prelude.{◌≡◌, ℕ, ◌+◌, List, [], ◌++◌, length, Some, None, Option}
use Rattle.byte_blocks.specs.Block.{zero_block}
use Rattle.cipher.specs.Cipher.{Answer, Called}
use Rattle.romulus_h.specs.Hash.{digest_from, hash_calls}
use Rattle.romulus_h.specs.declared.Hasher.{Hasher}

-- A hasher that has taken nothing in.
abbrev pub fresh : Hasher
fresh = record { chain = record { left = zero_block; right = zero_block }; half = None }

-- The bytes that wait for the other half of their block, if there are any.
-- waiting (Some x) is x.
abbrev pub waiting : Option (List ℕ) → List ℕ
waiting None = []
waiting (Some x) = x

-- What was taken in since the last whole block of 32 bytes: of the first block of 16 bytes all, and nothing once a second came.
abbrev pub pending : Hasher → List ℕ
pending s = waiting s.half

-- The digest if this text follows and is the end. digest_after f fresh text is digest_of f text.
abbrev pub digest_after : Answer → Hasher → List ℕ → List ℕ
digest_after f s text = digest_from f s.chain.left s.chain.right (pending s ++ text)

-- The calls still to be made if n bytes follow and are the end. calls_after fresh 32 is 4.
abbrev pub calls_after : Hasher → ℕ → ℕ
calls_after s n = hash_calls (length (pending s) + n)

-- A hasher that took in the text xs: whatever follows, the digest is that of xs and what follows,
-- and so are the calls, those made and those still to be made.
-- A fresh hasher that takes in a block of 16 bytes makes no call; with the next block it makes two.
pub record Absorbs (f : Answer) (n : ℕ) (s : Hasher) (xs : List ℕ) (f' : Answer) (n' : ℕ) (s' : Hasher) : Type 0 where
  pub digest : (ys : List ℕ) → digest_after f s' ys ≡ digest_after f s (xs ++ ys)
  -- how many calls were made
  pub made : ℕ
  pub called : Called f n made f' n'
  -- and with those still to come they are as many as a hash of it all in one makes
  pub all : (j : ℕ) → made + calls_after s' j ≡ calls_after s (length xs + j)
