-- What the direct calls of a mode answer and write.
use Rattle.std.specs.Prelude.{◌≡◌, ℕ, Bool, true, false, List, [], ◌∷◌, ◌++◌, length, Some, None, Ok, Err, Option, ◌==◌, nat_le}
use Rattle.refusals.specs.declared.Refusal.{Refusal}
use Rattle.refusals.specs.declared.Refusal.TheVariants.{KeyLength, DataLength, TextLength, OutputLength, TagLength, NonceLength, WrongFrame}
use Rattle.refusals.specs.Refusals.{Question, ask}
use Rattle.cipher.specs.Cipher.{Answer}
use Rattle.mode.specs.declared.Costs.{Costs}
use Rattle.mode.specs.declared.Outcome.{Outcome}
use Rattle.mode.specs.Mode.{Scheme, SealsTo, Opened, zeros}

-- The questions on the sizes of a frame, from the lengths of data, text, output place and tag.
-- first_no (frame_questions 0 5 4 16) is Some OutputLength: a text of 5 bytes has a place of 4.
abbrev pub frame_questions : (ad text out tag : ℕ) → List Question
frame_questions ad text out tag = ask DataLength (nat_le ad 65535) ∷ ask TextLength (nat_le text 65535) ∷ ask OutputLength (out == text) ∷ ask TagLength (tag == 16) ∷ []

-- The question on the length of a nonce that is handed in: 16 is answered yes.
abbrev pub nonce_question : ℕ → Question
nonce_question nonce = ask NonceLength (nonce == 16)

-- The question on the length of a key: 15 is answered no.
abbrev pub key_question : ℕ → Question
key_question key = ask KeyLength (key == 16)

-- All questions of a direct call that are answered from sizes alone, in their order.
-- first_no (size_questions 15 0 0 0 16 15) is Some KeyLength: the nonce is wrong too, but is asked last.
abbrev pub size_questions : (key ad text out tag nonce : ℕ) → List Question
size_questions key ad text out tag nonce = key_question key ∷ (frame_questions ad text out tag ++ (nonce_question nonce ∷ []))

-- Costs of a mode where a seal, a right and a wrong opening cost the same: alike 2 has the costs 2, 2 and 2.
abbrev pub alike : ℕ → Costs
alike calls = record { seal = calls; right = calls; wrong = calls }

-- A taken call, with what it gives and what it cost: taken tt 2 has the number 0 and the cost 2.
abbrev pub taken : {T : Type 0} → T → ℕ → Outcome T
taken given cost = record { answer = Ok given; cost = cost }

-- A refused call, which cost nothing: refused KeyLength has the number 4 and the cost 0.
abbrev pub refused : {T : Type 0} → Refusal → Outcome T
refused r = record { answer = Err r; cost = 0 }

-- A wrong opening, the one refusal that costs: wrong 2 has the number 13 and the cost 2.
abbrev pub wrong : ℕ → Outcome (Unit {0})
wrong cost = record { answer = Err WrongFrame; cost = cost }

-- A seal: refused at the first question answered no, with zeros in both places; else taken, with the mode's ciphertext and tag in them.
-- With a place of 4 bytes for a message of 5 it is refused OutputLength, and 4 zeros and a tag place of zeros are left.
abbrev pub SealAnswer : Scheme → Answer → (key nonce ad message out tag : List ℕ) → (first : Option Refusal) → Outcome (Unit {0}) → (out' tag' : List ℕ) → Type 0
SealAnswer m f key nonce ad message out tag None r out' tag' = (r ≡ taken tt (m.costs (length ad) (length message)).seal) × SealsTo m f key nonce ad message out' tag'
SealAnswer m f key nonce ad message out tag (Some q) r out' tag' = (r ≡ refused q) × (out' ≡ zeros out) × (tag' ≡ zeros tag)

-- What an opening answers by its verdict. Of the costs 7, 7 and 5 a right frame gives taken tt 7, and a wrong one wrong 5.
abbrev pub verdict_outcome : Costs → Bool → Outcome (Unit {0})
verdict_outcome costs true = taken tt costs.right
verdict_outcome costs false = wrong costs.wrong

-- An opening: refused at the first question answered no, with zeros in the place; else judged, and out' is what Opened says.
-- With a tag of 15 bytes it is refused TagLength, whether the frame is right or not.
abbrev pub OpenAnswer : Scheme → Answer → (key nonce ad text tag out : List ℕ) → (first : Option Refusal) → Outcome (Unit {0}) → (out' : List ℕ) → Type 0
OpenAnswer m f key nonce ad text tag out None r out' =
    (right : Bool) × (r ≡ verdict_outcome (m.costs (length ad) (length text)) right) × Opened m f key nonce ad text tag right out'
OpenAnswer m f key nonce ad text tag out (Some q) r out' = (r ≡ refused q) × (out' ≡ zeros out)
