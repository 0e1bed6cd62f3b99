-- Requests with their answers, seen as calls and replies. A turn is a request and its answer.
use Rattle.std.specs.Prelude.{ℕ, List, [], ◌∷◌, Some, None, Option, vec_items}
use Rattle.promise.specs.Calls.{Call, Seal, Open, Read, Reply, Gave, Event, event}
use Rattle.mode.specs.Mode.{Scheme}
use Rattle.promise.specs.Answers.{Standing, Fits}
use Rattle.post.specs.Post.{sealed, opened, told}
use Rattle.side_by_side.specs.declared.turns.Request.{Request}
use Rattle.side_by_side.specs.declared.turns.Request.TheVariants.{Seal as SealRequest, Open as OpenRequest, ReadOut}
use Rattle.side_by_side.specs.declared.turns.Answer.{Answer}
use Rattle.side_by_side.specs.declared.turns.Answer.TheVariants.{Sealed, Opened, Reading as ReadingAnswer}
use Rattle.side_by_side.specs.declared.turns.Turn.{Turn}

-- The call that a request asks for: its buffers as bytes.
abbrev pub call_of : Request → Call
call_of (SealRequest ad message out tag) = Seal (vec_items ad) (vec_items message) (vec_items out) (vec_items tag)
call_of (OpenRequest nonce ad text tag out) = Open (vec_items nonce) (vec_items ad) (vec_items text) (vec_items tag) (vec_items out)
call_of ReadOut = Read

-- The bytes that a request hands in: of a seal those of data and message.
abbrev pub inputs_of : Request → List (List ℕ)
inputs_of (SealRequest ad message out tag) = vec_items ad ∷ vec_items message ∷ []
inputs_of (OpenRequest nonce ad text tag out) = vec_items nonce ∷ vec_items ad ∷ vec_items text ∷ vec_items tag ∷ []
inputs_of ReadOut = []

-- An answer that fits no call: it has no output place, and is no reading.
abbrev pub unfit : Reply
unfit = Gave 0 (0, 0) 0 []

-- That no call of any post has this answer.
abbrev pub FitsNothing : Reply → Type 0
FitsNothing a = (m : Scheme) (s : Standing) (c : Call) → Fits m s c a → ⊥

-- What a request was answered, with the bytes that stand in its output places. A seal is answered as a seal, an opening as an opening and a reading
-- as a reading; what else there is, or that there is no answer yet, is told as what fits no call: a number, and no output place.
abbrev pub reply_to : Request → Option Answer → Reply
reply_to (SealRequest ad message out tag) (Some (Sealed o)) = sealed o (vec_items out ∷ vec_items tag ∷ [])
reply_to (SealRequest ad message out tag) (Some (Opened o)) = unfit
reply_to (SealRequest ad message out tag) (Some (ReadingAnswer r)) = unfit
reply_to (SealRequest ad message out tag) None = unfit
reply_to (OpenRequest nonce ad text tag out) (Some (Sealed o)) = unfit
reply_to (OpenRequest nonce ad text tag out) (Some (Opened o)) = opened o (vec_items out ∷ [])
reply_to (OpenRequest nonce ad text tag out) (Some (ReadingAnswer r)) = unfit
reply_to (OpenRequest nonce ad text tag out) None = unfit
reply_to ReadOut (Some (Sealed o)) = unfit
reply_to ReadOut (Some (Opened o)) = unfit
reply_to ReadOut (Some (ReadingAnswer r)) = told r
reply_to ReadOut None = unfit

-- The call that a turn asks for.
abbrev pub asked : Turn → Call
asked t = call_of t.request

-- What a turn was answered.
abbrev pub answered : Turn → Reply
answered t = reply_to t.request t.answer

-- What a turn hands in, which serving it leaves as it was.
abbrev pub given : Turn → List (List ℕ)
given t = inputs_of t.request

-- A turn before it is served: there is no answer.
abbrev pub unserved : Request → Turn
unserved request = record { request = request; answer = None }

-- The calls as they were handed in, each with the answer that stands there afterwards.
-- Two turns, once served, give two events, in the same order.
abbrev pub transcript : (before now : List Turn) → List Event
transcript [] us = []
transcript (t ∷ ts) [] = []
transcript (t ∷ ts) (u ∷ us) = event (asked t) (answered u) ∷ transcript ts us
