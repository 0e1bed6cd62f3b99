-- The calls of a post, what they answer, and transcripts. A post is a place that seals under nonces of its own: a mode, a cipher, a source
-- of nonces, a key, and an allowance, which is the number of cipher calls that it may spend.
use Rattle.std.specs.Prelude.{ℕ, ◌+◌, Bool, false, cond, List, [], ◌∷◌, ◌==◌}
use Rattle.refusals.specs.Refusals.{number_of}
use Rattle.refusals.specs.declared.Refusal.TheVariants.{WrongFrame}

-- A call with the bytes of all that it is handed; those of an output place are the ones that stand in it before the call.
-- Seal asks for a frame under the next nonce, Open for the message of a frame, Read for a reading of the counters.
pub data Call : Type 0 where
  Seal : (ad message out tag : List ℕ) → Call
  Open : (nonce ad text tag out : List ℕ) → Call
  Read : Call

-- The output places of a call: two of a seal, one of an opening, none of a reading.
abbrev pub places : Call → List (List ℕ)
places (Seal ad message out tag) = out ∷ tag ∷ []
places (Open nonce ad text tag out) = out ∷ []
places Read = []

-- What a call answers: number, nonce as two numbers, cost, and the bytes that then stand in its output places; or a reading.
-- A taken seal of cost 2 under the nonce (1, 258) gives Gave 0 (1, 258) 2 with ciphertext and tag.
pub data Reply : Type 0 where
  Gave : (number : ℕ) (nonce : ℕ × ℕ) (cost : ℕ) (written : List (List ℕ)) → Reply
  Told : (left sealed opened wrong : ℕ) → Reply

-- The number of an answer: 0 where the call was taken, and for a reading.
abbrev pub number_told : Reply → ℕ
number_told (Gave number nonce cost written) = number
number_told (Told left sealed opened wrong) = 0

-- The nonce of an answer, (0, 0) where there is none.
abbrev pub nonce_told : Reply → ℕ × ℕ
nonce_told (Gave number nonce cost written) = nonce
nonce_told (Told left sealed opened wrong) = (0, 0)

-- The cost of an answer. A reading costs nothing.
abbrev pub cost_told : Reply → ℕ
cost_told (Gave number nonce cost written) = cost
cost_told (Told left sealed opened wrong) = 0

-- A call with its answer. A list of these, in the order of the calls, is a transcript.
pub data Event : Type 0 where
  event : Call → Reply → Event

-- The call of an event.
abbrev pub call_of : Event → Call
call_of (event c a) = c

-- The answer of an event.
abbrev pub reply_of : Event → Reply
reply_of (event c a) = a

-- A seal that was answered 0.
abbrev pub taken_seal : Event → Bool
taken_seal (event (Seal ad message out tag) a) = number_told a == 0
taken_seal (event (Open nonce ad text tag out) a) = false
taken_seal (event Read a) = false

-- An opening that was answered 0.
abbrev pub taken_open : Event → Bool
taken_open (event (Seal ad message out tag) a) = false
taken_open (event (Open nonce ad text tag out) a) = number_told a == 0
taken_open (event Read a) = false

-- An opening that was answered 13.
abbrev pub wrong_open : Event → Bool
wrong_open (event (Seal ad message out tag) a) = false
wrong_open (event (Open nonce ad text tag out) a) = number_told a == number_of WrongFrame
wrong_open (event Read a) = false

-- 1 for yes, 0 for no.
abbrev pub tick : Bool → ℕ
tick b = cond b 1 0

-- How many events of a transcript are of a kind: after three taken seals and a refused one, how_many taken_seal is 3.
abbrev pub how_many : (Event → Bool) → List Event → ℕ
how_many kind [] = 0
how_many kind (e ∷ es) = tick (kind e) + how_many kind es

-- All costs answered: of two seals that cost 2 each and a refusal, 4.
abbrev pub costs_told : List Event → ℕ
costs_told [] = 0
costs_told (e ∷ es) = cost_told (reply_of e) + costs_told es

-- The nonces that taken seals answered, in their order: after three taken seals and a refused one there are three.
abbrev pub nonces_told : List Event → List (ℕ × ℕ)
nonces_told [] = []
nonces_told (e ∷ es) = cond (taken_seal e) (nonce_told (reply_of e) ∷ nonces_told es) (nonces_told es)
