-- What a mode means: what a message seals to, and three costs.
use Rattle.std.specs.Prelude.{◌≡◌, ℕ, ◌≤◌, Bool, true, false, List, length, replicate}
use Rattle.cipher.specs.Cipher.{Answer, Sixteen}
use Rattle.mode.specs.declared.Costs.{Costs}

-- A mode (of authenticated encryption), as two functions. Romulus-N, -M and -T are three; for 16 bytes of data and of message N costs 2 each.
pub record Scheme : Type 0 where
  -- ciphertext and tag, from the cipher's answers, the key, the nonce, the associated data (protected, and not hidden) and the message
  pub frame : Answer → (key nonce ad message : List ℕ) → List ℕ × List ℕ
  -- what a seal, a right and a wrong opening cost, in calls of the cipher, from the lengths of data and message
  pub costs : (ad message : ℕ) → Costs

-- This message seals to this ciphertext and tag. In Romulus-N on the stand-in, with zeros for key and nonce and no data,
-- the empty message seals to the empty ciphertext and the tag of seven zeros, 0x87 and eight zeros.
abbrev pub SealsTo : Scheme → Answer → (key nonce ad message text tag : List ℕ) → Type 0
SealsTo m f key nonce ad message text tag = ◌≡◌ {A = List ℕ × List ℕ} (m.frame f key nonce ad message) (text, tag)

-- A frame (nonce, data, ciphertext and tag) is right if some message seals to it, else wrong.
-- The frame of the example above is right, and with any other tag it is wrong.
abbrev pub Right : Scheme → Answer → (key nonce ad text tag : List ℕ) → Type 0
Right m f key nonce ad text tag = (message : List ℕ) × SealsTo m f key nonce ad message text tag

-- What every mode owes, on every cipher. Without it two messages could share a frame, and an opening would have to guess.
pub record Keeps (m : Scheme) : Type 0 where
  -- the ciphertext is as long as the message, and the tag has 16 bytes
  pub lengths : (f : Answer) (key nonce ad message : List ℕ) → Sixteen f →
      (length (m.frame f key nonce ad message).0 ≡ length message) × (length (m.frame f key nonce ad message).1 ≡ 16)
  -- two messages never share both under equal key, nonce and data
  pub one_message : (f : Answer) (key nonce ad one two : List ℕ) → m.frame f key nonce ad one ≡ m.frame f key nonce ad two → one ≡ two
  -- each cost is at least 1, and a wrong opening never costs more than a right one
  pub seal_costs : (ad message : ℕ) → 1 ≤ (m.costs ad message).seal
  pub wrong_costs : (ad message : ℕ) → 1 ≤ (m.costs ad message).wrong
  pub wrong_least : (ad message : ℕ) → (m.costs ad message).wrong ≤ (m.costs ad message).right

-- As many zeros as a place has bytes: of a place of two bytes 0 ∷ 0 ∷ [].
abbrev pub zeros : List ℕ → List ℕ
zeros place = replicate (length place) 0

-- An opening of a frame that wrote out: right, and out is the message that seals to it; or wrong, and out is zeros.
-- A wrong frame with a ciphertext of five bytes leaves five zeros.
abbrev pub Opened : Scheme → Answer → (key nonce ad text tag : List ℕ) → (right : Bool) → (out : List ℕ) → Type 0
Opened m f key nonce ad text tag true out = SealsTo m f key nonce ad out text tag
Opened m f key nonce ad text tag false out = (Right m f key nonce ad text tag → ⊥) × (out ≡ zeros text)
