-- The promises of a post over whole runs, in terms of calls, answers, nonces, frames and readings.
use Rattle.std.specs.Prelude.{◌≡◌, ℕ, ◌-◌, ◌≤◌, ◌≢◌, ◌↔◌, List, [], ◌∷◌, ◌++◌, map, length, take, drop, None}
use Rattle.std.specs.List.{AllZip}
use Rattle.refusals.specs.declared.Refusal.TheVariants.{NoNonce, WrongFrame}
use Rattle.refusals.specs.Refusals.{number_of, first_no}
use Rattle.cipher.specs.Cipher.{Answer, Called}
use Rattle.mode.specs.Mode.{Scheme, Keeps, SealsTo, Right, zeros}
use Rattle.nonces.specs.Nonces.{NoRepeats, NoncesProper, words}
use Rattle.promise.specs.Calls.{Call, Seal, Open, Read, places, Reply, Gave, Told, number_told, cost_told, Event, event, call_of, taken_seal, taken_open, wrong_open, how_many, costs_told, nonces_told}
use Rattle.promise.specs.Answers.{Making, Standing, standing, fresh, size_questions, price, questions, Fits, Run}

-- The call c came after the events before, and was answered a: in a transcript of three events, the second call came after the first alone.
abbrev pub Came : List Event → (before : List Event) → Call → Reply → Type 0
Came es before c a = (after : List Event) × (es ≡ before ++ (event c a ∷ after))

-- The nonces of the making that no seal has taken yet: of three, after two taken seals and a refused one, the third.
abbrev pub nonces_to_come : Making → List Event → List (List ℕ)
nonces_to_come g before = drop (how_many taken_seal before) g.nonces

-- The sizes of a call are lawful, and the allowance is enough: what the making gave less all costs answered so far.
-- With the allowance 5, after a seal that cost 2, one that costs 3 is allowed and one that costs 4 is not.
pub record Allowed (m : Scheme) (g : Making) (before : List Event) (c : Call) : Type 0 where
  pub sizes : first_no (size_questions c) ≡ None
  pub enough : price m c ≤ g.allowance - costs_told before

-- Never twice: the nonces of taken seals are the first of the list that the post was made with, in order, and none comes twice.
-- After three taken seals and one refused one, the nonces told are the first three of the list.
pub record NeverTwice (m : Scheme) (g : Making) (es : List Event) : Type 0 where
  pub in_order : nonces_told es ≡ map words (take (how_many taken_seal es) g.nonces)
  pub once : NoRepeats (nonces_told es)

-- Every seal that can be is taken: where sizes are lawful, the allowance is enough and n is the next nonce, it is answered 0
-- with the mode's ciphertext and tag under n. That no nonce is left (12) is answered only where none is.
-- After a seal that was refused for its sizes, the next one, lawful, is sealed under the nonce that the refused one would have had.
pub record EverySealThatCanBeIsTaken (m : Scheme) (g : Making) (es : List Event) : Type 0 where
  pub taken : (before : List Event) (ad message out tag : List ℕ) (a : Reply) → Came es before (Seal ad message out tag) a → Allowed m g before (Seal ad message out tag) →
      (n : List ℕ) (later : List (List ℕ)) → nonces_to_come g before ≡ n ∷ later →
      a ≡ Gave 0 (words n) (m.costs (length ad) (length message)).seal ((m.frame g.cipher g.key n ad message).0 ∷ (m.frame g.cipher g.key n ad message).1 ∷ [])
  pub never_early : (before : List Event) (c : Call) (a : Reply) → Came es before c a → number_told a ≡ number_of NoNonce → nonces_to_come g before ≡ []

-- Opens exactly the right frames: where sizes are lawful and the allowance is enough, a frame is opened exactly when some message
-- seals to it under the post's key; that message is written, and no other seals to the same frame. Any other frame is answered 13, with zeros.
-- A post opens also what another post of the same mode, cipher and key sealed.
pub record OpensExactlyTheRightFrames (m : Scheme) (g : Making) (es : List Event) : Type 0 where
  pub right : (before : List Event) (nonce ad text tag out : List ℕ) (a : Reply) → Came es before (Open nonce ad text tag out) a → Allowed m g before (Open nonce ad text tag out) →
      (message : List ℕ) → SealsTo m g.cipher g.key nonce ad message text tag → a ≡ Gave 0 (0, 0) (m.costs (length ad) (length text)).right (message ∷ [])
  pub wrong : (before : List Event) (nonce ad text tag out : List ℕ) (a : Reply) → Came es before (Open nonce ad text tag out) a → Allowed m g before (Open nonce ad text tag out) →
      (Right m g.cipher g.key nonce ad text tag → ⊥) → a ≡ Gave (number_of WrongFrame) (0, 0) (m.costs (length ad) (length text)).wrong (zeros out ∷ [])
  pub only_right : (before : List Event) (nonce ad text tag out : List ℕ) (a : Reply) → Came es before (Open nonce ad text tag out) a → number_told a ≡ 0 →
      Right m g.cipher g.key nonce ad text tag
  pub one_message : (nonce ad text tag one two : List ℕ) → SealsTo m g.cipher g.key nonce ad one text tag → SealsTo m g.cipher g.key nonce ad two text tag → one ≡ two

-- Numbers, costs, readings: every answer fits its call by the questions in their order and by the history. A reading tells what the making gave
-- less all costs answered, and how many seals and openings were taken and how many frames were wrong. A refusal leaves zeros in every output place,
-- and of refusals only a wrong frame costs. All costs together stay within the allowance.
-- Made with the allowance 100, after a seal that cost 2 and a wrong frame that cost 2, a reading tells 96, 1, 0, 1.
pub record NumbersCostsReadings (m : Scheme) (g : Making) (es : List Event) : Type 0 where
  -- every answer fits its call; for a mode that keeps what it owes the other fields follow from this one, and are spelled out for the reader
  pub each : (before : List Event) (c : Call) (a : Reply) → Came es before c a → Fits m (standing g before) c a
  pub readings : (before : List Event) (a : Reply) → Came es before Read a →
      a ≡ Told (g.allowance - costs_told before) (how_many taken_seal before) (how_many taken_open before) (how_many wrong_open before)
  pub refusals : (before : List Event) (c : Call) (a : Reply) → Came es before c a → number_told a ≢ 0 → a ≡ Gave (number_told a) (0, 0) (cost_told a) (map zeros (places c))
  pub free : (before : List Event) (c : Call) (a : Reply) → Came es before c a → number_told a ≢ 0 → number_told a ≢ number_of WrongFrame → cost_told a ≡ 0
  pub within : costs_told es ≤ g.allowance

-- What is left of cipher and source: the cipher's answers and count, and the nonces to come.
-- Of three nonces, after two taken seals, one is left.
pub record Remains : Type 0 where
  pub cipher : Answer
  pub count : ℕ
  pub nonces : List (List ℕ)

-- All promises of one post. And what its making brought is left so: the cipher answers as before and was called as often as the costs say,
-- and the source has lost one nonce for each taken seal.
-- After two taken seals of cost 2 from the count 5, the count is 9.
pub record Promises (m : Scheme) (g : Making) (es : List Event) (r : Remains) : Type 0 where
  pub never_twice : NeverTwice m g es
  pub every_seal_that_can_be_is_taken : EverySealThatCanBeIsTaken m g es
  pub opens_exactly_the_right_frames : OpensExactlyTheRightFrames m g es
  pub numbers_costs_readings : NumbersCostsReadings m g es
  pub called : Called g.cipher g.count (costs_told es) r.cipher r.count
  pub nonces_left : r.nonces ≡ nonces_to_come g es

-- ---- two posts of one mode

-- Calls alike in kind and in the sizes of all that they are handed: two seals of five bytes each without data, with places of the same lengths.
abbrev pub SameSizes : Call → Call → Type 0
SameSizes (Seal ad message out tag) (Seal ad' message' out' tag') =
    (length ad ≡ length ad') × (length message ≡ length message') × (length out ≡ length out') × (length tag ≡ length tag')
SameSizes (Open nonce ad text tag out) (Open nonce' ad' text' tag' out') =
    (length nonce ≡ length nonce') × (length ad ≡ length ad') × (length text ≡ length text') × (length tag ≡ length tag') × (length out ≡ length out')
SameSizes Read Read = Unit {0}
SameSizes (Seal ad message out tag) (Open nonce' ad' text' tag' out') = ⊥
SameSizes (Seal ad message out tag) Read = ⊥
SameSizes (Open nonce ad text tag out) (Seal ad' message' out' tag') = ⊥
SameSizes (Open nonce ad text tag out) Read = ⊥
SameSizes Read (Seal ad' message' out' tag') = ⊥
SameSizes Read (Open nonce' ad' text' tag' out') = ⊥

-- The same of two events, whatever their answers.
abbrev pub AskedAlike : Event → Event → Type 0
AskedAlike (event c a) (event d b) = SameSizes c d

-- The verdict of an opening: the frame is right under the post's key and cipher. Other calls have none.
abbrev pub Verdict : Scheme → Making → Call → Type 0
Verdict m g (Seal ad message out tag) = Unit {0}
Verdict m g (Open nonce ad text tag out) = Right m g.cipher g.key nonce ad text tag
Verdict m g Read = Unit {0}

-- No question before the verdict refuses the call: sizes are lawful, the allowance is enough, and for a seal a nonce is left.
abbrev pub Unrefused : Scheme → Making → (before : List Event) → Call → Type 0
Unrefused m g before c = first_no (questions m (standing g before) c) ≡ None

-- Two transcripts are alike in the kind, order and sizes of their calls, and in verdicts where no question before refuses either frame.
-- One post opens a right frame of five bytes and the other another right frame of five bytes; or both a wrong one.
pub record Alike (m : Scheme) (g h : Making) (es ds : List Event) : Type 0 where
  pub sizes : AllZip AskedAlike es ds
  pub verdicts : (before : List Event) (c : Call) (a : Reply) (before' : List Event) (d : Call) (b : Reply) → Came es before c a → Came ds before' d b → length before ≡ length before' →
      Unrefused m g before c → Unrefused m h before' d → (Verdict m g c ↔ Verdict m h d)

-- Equal number, nonce, cost and reading, and equal bytes in the output places of a refusal.
-- Two seals of different messages, both answered 0 under the same nonce at the same cost, have the same outside.
abbrev pub SameOutside : Reply → Reply → Type 0
SameOutside (Gave number nonce cost written) (Gave number' nonce' cost' written') =
    (number ≡ number') × (nonce ≡ nonce') × (cost ≡ cost') × (number ≢ 0 → written ≡ written')
SameOutside (Told left sealed opened wrong) (Told left' sealed' opened' wrong') = (left ≡ left') × (sealed ≡ sealed') × (opened ≡ opened') × (wrong ≡ wrong')
SameOutside (Gave number nonce cost written) (Told left' sealed' opened' wrong') = ⊥
SameOutside (Told left sealed opened wrong) (Gave number' nonce' cost' written') = ⊥

-- The same of two events, whatever was asked.
abbrev pub AnsweredAlike : Event → Event → Type 0
AnsweredAlike (event c a) (event d b) = SameOutside a b

-- The outside sees only sizes and verdicts: two posts of one mode with equal allowance and equal nonces to come, asked alike, show the same outside.
-- One with a key of zeros and one with another key, each asked to seal five bytes, tell the same number, nonce and cost.
abbrev pub OutsideSeesOnlySizesAndVerdicts : Scheme → (g h : Making) → (es ds : List Event) → Type 0
OutsideSeesOnlySizesAndVerdicts m g h es ds = g.allowance ≡ h.allowance → g.nonces ≡ h.nonces → Alike m g h es ds → AllZip AnsweredAlike es ds

-- ---- for every list of calls

-- P holds of every mode, every making and every list of calls, answered one after the other as the contract of a single call says.
-- EveryRun NeverTwice says that no post, whatever it is asked, uses a nonce twice.
abbrev pub EveryRun : (Scheme → Making → List Event → Type 0) → Type 0
EveryRun P = (m : Scheme) → Keeps m → (g : Making) → NoncesProper g.nonces → (es : List Event) (t : Standing) → Run m (fresh g) es t → P m g es

-- A run leaves the cipher's answers as they were, and its count risen by all costs answered; and one nonce less for each taken seal.
abbrev pub EveryRunCounts : Type 0
EveryRunCounts =
    (m : Scheme) (g : Making) (es : List Event) (t : Standing) → Run m (fresh g) es t →
    Called g.cipher g.count (costs_told es) t.cipher t.count × (t.nonces ≡ nonces_to_come g es)

-- Of every two runs of one mode the outside sees only sizes and verdicts.
abbrev pub EveryTwoRuns : Type 0
EveryTwoRuns =
    (m : Scheme) (g h : Making) (es ds : List Event) (t u : Standing) → Run m (fresh g) es t → Run m (fresh h) ds u → OutsideSeesOnlySizesAndVerdicts m g h es ds

-- Nothing is left open: of one making and one list of calls, two transcripts whose every answer fits are the same.
-- Two seals of one message at posts made alike have the same ciphertext and tag, byte for byte.
abbrev pub NothingLeftOpen : Type 0
NothingLeftOpen =
    (m : Scheme) → Keeps m → (g : Making) (es ds : List Event) → NumbersCostsReadings m g es → NumbersCostsReadings m g ds → map call_of es ≡ map call_of ds → es ≡ ds
