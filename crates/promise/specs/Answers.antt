-- When an answer fits its call: what the making and the calls so far leave decides it.
use Rattle.std.specs.Prelude.{◌≡◌, ℕ, ◌+◌, ◌-◌, ◌%◌, ◌^◌, Bool, true, false, List, [], ◌∷◌, ◌++◌, map, length, drop, Some, None, Option, nat_le}
use Rattle.refusals.specs.declared.Refusal.{Refusal}
use Rattle.refusals.specs.declared.Refusal.TheVariants.{AllowanceSize, AllowanceSpent, NoNonce, WrongFrame}
use Rattle.refusals.specs.Refusals.{Question, ask, first_no, number_of}
use Rattle.cipher.specs.Cipher.{Answer}
use Rattle.mode.specs.declared.Costs.{Costs}
use Rattle.mode.specs.Mode.{Scheme, Opened, zeros}
use Rattle.mode.specs.Calls.{frame_questions, nonce_question, key_question}
use Rattle.nonces.specs.Nonces.{words}
use Rattle.promise.specs.Calls.{Call, Seal, Open, Read, Reply, Gave, Told, Event, event, reply_of, cost_told, taken_seal, taken_open, wrong_open, tick, how_many, costs_told}

-- What a post is made of beside its mode: the cipher's answers and count, the key, the nonces to come, and the allowance in calls of the cipher.
pub record Making : Type 0 where
  pub cipher : Answer
  pub count : ℕ
  pub key : List ℕ
  pub nonces : List (List ℕ)
  pub allowance : ℕ

-- The questions before a post is made, in their order. A key of 15 bytes is refused with 4, and the allowance 2 ^ 40 + 1 with 5.
abbrev pub making_questions : (key : List ℕ) → (allowance : ℕ) → List Question
making_questions key allowance = key_question (length key) ∷ ask AllowanceSize (nat_le allowance (2 ^ 40)) ∷ []

-- How a post stands: the cipher's answers and count, the key, the nonces to come, the allowance left, and how many seals and openings were taken
-- and how many frames were wrong.
pub record Standing : Type 0 where
  pub cipher : Answer
  pub count : ℕ
  pub key : List ℕ
  pub nonces : List (List ℕ)
  pub left : ℕ
  pub sealed : ℕ
  pub opened : ℕ
  pub wrong : ℕ

-- How a post stands after these events: one nonce is gone for each taken seal, and all costs answered are gone from the allowance and on the count.
-- Made with the allowance 100 and three nonces, after two taken seals of cost 2 it has 96 left, one nonce to come, and 2 sealed.
abbrev pub standing : Making → List Event → Standing
standing g es =
    record {
      cipher = g.cipher;
      count = (g.count + costs_told es) % 2 ^ 64;
      key = g.key;
      nonces = drop (how_many taken_seal es) g.nonces;
      left = g.allowance - costs_told es;
      sealed = how_many taken_seal es;
      opened = how_many taken_open es;
      wrong = how_many wrong_open es;
    }

-- How a post stands as it is made: all nonces to come, the whole allowance, and nothing counted.
abbrev pub fresh : Making → Standing
fresh g = standing g []

-- How a post stands one event further: a taken seal of cost 2 takes one nonce, takes 2 from what is left, and adds one to sealed.
abbrev pub onward : Standing → Event → Standing
onward s e =
    record {
      cipher = s.cipher;
      count = (s.count + cost_told (reply_of e)) % 2 ^ 64;
      key = s.key;
      nonces = drop (tick (taken_seal e)) s.nonces;
      left = s.left - cost_told (reply_of e);
      sealed = s.sealed + tick (taken_seal e);
      opened = s.opened + tick (taken_open e);
      wrong = s.wrong + tick (wrong_open e);
    }

-- The questions on the sizes of a call. Unlike a direct call, a post does not ask for its key again, nor a seal for a nonce.
-- A seal with a tag place of 15 bytes is refused with 9; a reading asks nothing.
abbrev pub size_questions : Call → List Question
size_questions (Seal ad message out tag) = frame_questions (length ad) (length message) (length out) (length tag)
size_questions (Open nonce ad text tag out) = frame_questions (length ad) (length text) (length out) (length tag) ++ (nonce_question (length nonce) ∷ [])
size_questions Read = []

-- What the allowance must hold: the cost of the seal, or of a right opening. In Romulus-N 16 bytes of data and of message need 2.
abbrev pub price : Scheme → Call → ℕ
price m (Seal ad message out tag) = (m.costs (length ad) (length message)).seal
price m (Open nonce ad text tag out) = (m.costs (length ad) (length text)).right
price m Read = 0

-- Whether a nonce is left: some_left [] is false.
abbrev pub some_left : List (List ℕ) → Bool
some_left [] = false
some_left (n ∷ ns) = true

-- The next nonce, the head of the list. (It is asked for only where one is left.)
abbrev pub next : List (List ℕ) → List ℕ
next [] = []
next (n ∷ ns) = n

-- The questions before work, in their order; whether a frame is right is asked after them.
-- A seal of cost 2 where 1 is left and no nonce either is refused with 11, which is asked before 12.
abbrev pub questions : Scheme → Standing → Call → List Question
questions m s (Seal ad message out tag) =
    size_questions (Seal ad message out tag) ++ (ask AllowanceSpent (nat_le (price m (Seal ad message out tag)) s.left) ∷ ask NoNonce (some_left s.nonces) ∷ [])
questions m s (Open nonce ad text tag out) =
    size_questions (Open nonce ad text tag out) ++ (ask AllowanceSpent (nat_le (price m (Open nonce ad text tag out)) s.left) ∷ [])
questions m s Read = []

-- A refusal answers its number, no nonce and no cost, and leaves zeros in every output place.
-- refusal_reply TagLength of a place of two bytes is Gave 9 (0, 0) 0 with 0 ∷ 0 ∷ [].
abbrev pub refusal_reply : Refusal → List (List ℕ) → Reply
refusal_reply r before = Gave (number_of r) (0, 0) 0 (map zeros before)

-- What a seal answers, by the first question answered no. A taken one answers 0, the next nonce and the cost,
-- and writes the mode's ciphertext and tag under that nonce.
abbrev pub seal_reply : Scheme → Standing → (ad message out tag : List ℕ) → Option Refusal → Reply
seal_reply m s ad message out tag None =
    Gave 0 (words (next s.nonces)) (m.costs (length ad) (length message)).seal
    ((m.frame s.cipher s.key (next s.nonces) ad message).0 ∷ (m.frame s.cipher s.key (next s.nonces) ad message).1 ∷ [])
seal_reply m s ad message out tag (Some r) = refusal_reply r (out ∷ tag ∷ [])

-- What an opening answers by its verdict: 0 and the cost of a right opening, or 13 and that of a wrong one.
abbrev pub verdict_reply : Costs → (right : Bool) → (written : List ℕ) → Reply
verdict_reply costs true written = Gave 0 (0, 0) costs.right (written ∷ [])
verdict_reply costs false written = Gave (number_of WrongFrame) (0, 0) costs.wrong (written ∷ [])

-- An opening is refused at the first question answered no; else it is judged, and writes what Opened says.
-- A right frame at a post with too little left is refused with 11, and leaves zeros.
abbrev pub OpenFits : Scheme → Standing → (nonce ad text tag out : List ℕ) → Option Refusal → Reply → Type 0
OpenFits m s nonce ad text tag out None a =
    (right : Bool) × (written : List ℕ) × (a ≡ verdict_reply (m.costs (length ad) (length text)) right written) × Opened m s.cipher s.key nonce ad text tag right written
OpenFits m s nonce ad text tag out (Some r) a = a ≡ refusal_reply r (out ∷ [])

-- An answer that fits its call at a post that stands so. Where 96 are left, 2 were sealed and nothing else was done, a reading tells 96, 2, 0, 0.
abbrev pub Fits : Scheme → Standing → Call → Reply → Type 0
Fits m s (Seal ad message out tag) a = a ≡ seal_reply m s ad message out tag (first_no (questions m s (Seal ad message out tag)))
Fits m s (Open nonce ad text tag out) a = OpenFits m s nonce ad text tag out (first_no (questions m s (Open nonce ad text tag out))) a
Fits m s Read a = a ≡ Told s.left s.sealed s.opened s.wrong

-- One call: the answer fits, and the post then stands one event further. A refused seal fits with zeros, and the post then stands as before.
pub record Stepped (m : Scheme) (s : Standing) (c : Call) (a : Reply) (t : Standing) : Type 0 where
  pub fits : Fits m s c a
  pub leaves : t ≡ onward s (event c a)

-- Calls one after the other, each as a single call goes. Without a call the post stands where it stood.
abbrev pub Run : Scheme → Standing → List Event → Standing → Type 0
Run m s [] t = t ≡ s
Run m s (event c a ∷ es) t = (u : Standing) × Stepped m s c a u × Run m u es t
