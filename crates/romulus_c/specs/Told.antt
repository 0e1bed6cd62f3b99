-- What a C host is told by the direct calls: the library's answers as numbers.
use Rattle.std.specs.Prelude.{◌≡◌, ℕ, List, length}
use Rattle.refusals.specs.Refusals.{first_no, answer_number, after_asking}
use Rattle.cipher.specs.Cipher.{Answer}
use Rattle.mode.specs.declared.Outcome.{Outcome}
use Rattle.mode.specs.Mode.{Scheme}
use Rattle.mode.specs.Calls.{size_questions, SealAnswer, OpenAnswer}
use Rattle.romulus_h.specs.Hash.{hash_questions, hash_place}
use Rattle.romulus_c.specs.declared.direct.RomulusAnswer.{RomulusAnswer}

-- An outcome as number and cost: a taken call has the number 0, and a wrong frame that cost 2 has 13 and 2.
abbrev pub told : Outcome (Unit {0}) → RomulusAnswer
told o = record { number = answer_number o.answer; cost = o.cost }

module _ (m : Scheme) (f : Answer) where
  -- A seal from C: the mode's seal, with its questions in their order, told as number and cost.
  abbrev pub SealTold : (key nonce ad message out tag : List ℕ) → RomulusAnswer → (out' tag' : List ℕ) → Type 0
  SealTold key nonce ad message out tag r out' tag' =
      (o : Outcome (Unit {0})) × (r ≡ told o)
      × SealAnswer m f key nonce ad message out tag (first_no (size_questions (length key) (length ad) (length message) (length out) (length tag) (length nonce))) o out' tag'

  -- An opening from C: the mode's opening, with its questions in their order, told as number and cost.
  abbrev pub OpenTold : (key nonce ad text tag out : List ℕ) → RomulusAnswer → (out' : List ℕ) → Type 0
  OpenTold key nonce ad text tag out r out' =
      (o : Outcome (Unit {0})) × (r ≡ told o)
      × OpenAnswer m f key nonce ad text tag out (first_no (size_questions (length key) (length ad) (length text) (length out) (length tag) (length nonce))) o out'

-- A hash from C: the number of the first question answered no, or 0; and the digest, or zeros.
-- A digest's place of 31 bytes gives 15 and 31 zeros.
pub record HashTold (f : Answer) (input digest : List ℕ) (number : ℕ) (digest' : List ℕ) : Type 0 where
  pub number_is : number ≡ answer_number (after_asking (first_no (hash_questions (length input) (length digest))))
  pub digest_is : digest' ≡ hash_place f input digest (after_asking (first_no (hash_questions (length input) (length digest))))
