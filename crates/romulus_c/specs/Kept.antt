-- A post that a C host keeps as numbers and bytes, seen as a post of the library.
use Rattle.std.specs.Prelude.{◌≡◌, ℕ, ◌+◌, ◌-◌, ◌^◌, Bool, cond, ◌&&◌, ◌||◌, List, [], ◌∷◌, ◌++◌, Some, None, Option, ◌==◌, nat_le}
use Rattle.refusals.specs.declared.Refusal.{Refusal}
use Rattle.refusals.specs.declared.Refusal.TheVariants.{CountRange, AllowanceSize}
use Rattle.refusals.specs.Refusals.{Question, ask, first_no, number_of}
use Rattle.byte_blocks.specs.Block.{zero_block}
use Rattle.skinny.specs.Skinny.{skinny}
use Rattle.mode.specs.Mode.{Scheme}
use Rattle.romulus_n.specs.ModeN.{n_scheme}
use Rattle.romulus_m.specs.ModeM.{m_scheme}
use Rattle.romulus_t.specs.ModeT.{t_scheme}
use Rattle.nonces.specs.Sources.{big_endian, counted}
use Rattle.promise.specs.Calls.{Call, Read, places, Reply, Gave, Told, cost_told}
use Rattle.promise.specs.Answers.{Making, Standing, fresh, making_questions, refusal_reply, Stepped}
use Rattle.romulus_c.specs.declared.kept.RomulusPost.{RomulusPost}
use Rattle.romulus_c.specs.declared.kept.RomulusPostAnswer.{RomulusPostAnswer}
use Rattle.romulus_c.specs.declared.kept.RomulusReading.{RomulusReading}

-- ---- what is kept

-- The mode of a letter's code: 78 is N, 77 is M and 84 is T. (It is asked for only where the mode is known; any other number would be T.)
abbrev pub scheme_of : (mode : ℕ) → Scheme
scheme_of mode = cond (mode == 78) n_scheme (cond (mode == 77) m_scheme t_scheme)

-- Whether these are a mode and a number of rounds that the library has: known 78 40 is true, and known 78 48 is false.
abbrev pub known : (mode rounds : ℕ) → Bool
known mode rounds = (mode == 78 || (mode == 77 || mode == 84)) && (rounds == 40 || rounds == 56)

-- The key that is held: none, a key of no bytes, where mode or rounds are not known.
-- So such a post is refused with 4, as one made with a key of a wrong length.
abbrev pub held : (mode rounds : ℕ) → List ℕ → List ℕ
held mode rounds key = cond (known mode rounds) key []

-- How a kept post stands, as a post of the library. Its cipher was called as often as the post says.
abbrev pub standing_of : RomulusPost → Standing
standing_of p =
    record {
      cipher = skinny p.rounds;
      count = p.calls;
      key = p.key;
      nonces = counted (big_endian p.prefix) p.count p.amount;
      left = p.left;
      sealed = p.sealed;
      opened = p.opened;
      wrong = p.wrong;
    }

-- Nothing is kept: zeros in every field. No call takes it, since mode 0 is not known (4).
abbrev pub blank : RomulusPost
blank =
    record { mode = 0; rounds = 0; key = zero_block; prefix = 0; count = 0; amount = 0; left = 0; calls = 0; sealed = 0; opened = 0; wrong = 0 }

-- ---- the questions

-- The questions before a counting source and then a post with it are made, in their order.
-- A count of 2 ^ 64 - 1 with the amount 1 is refused with 1, whatever the key is.
abbrev pub all_questions : (count amount : ℕ) → (key : List ℕ) → (allowance : ℕ) → List Question
all_questions count amount key allowance = ask CountRange (nat_le (count + amount) (2 ^ 64 - 1)) ∷ making_questions key allowance

-- The same questions on what is kept, and one more. The allowance at the making was what is left and what the calls of the cipher took;
-- and each call of the post that is counted took at least one. A post that says 3 sealed and 2 calls is refused with 5.
abbrev pub kept_questions : RomulusPost → List Question
kept_questions p =
    all_questions p.count p.amount (held p.mode p.rounds p.key) (p.left + p.calls)
    ++ (ask AllowanceSize (nat_le (p.sealed + p.opened + p.wrong) p.calls) ∷ [])

-- ---- making

-- What is kept of a post as it is made: the whole allowance is left, and nothing is counted.
abbrev pub newly : (mode rounds : ℕ) → (key : List ℕ) → (prefix first amount allowance : ℕ) → RomulusPost
newly mode rounds key prefix first amount allowance =
    record { mode = mode; rounds = rounds; key = key; prefix = prefix; count = first; amount = amount; left = allowance; calls = 0; sealed = 0; opened = 0; wrong = 0 }

-- What it is made of: a cipher that was never called, the key, the nonces of a counting source, and the allowance.
abbrev pub making_of : RomulusPost → Making
making_of p =
    record { cipher = skinny p.rounds; count = 0; key = p.key; nonces = counted (big_endian p.prefix) p.count p.amount; allowance = p.left }

-- A post was made: it stands as its making says, and every question on what is kept is answered yes.
-- Made with the allowance 100 it has 100 left and 0 calls.
pub record Made (made p : RomulusPost) : Type 0 where
  pub is : p ≡ made
  pub stands : standing_of p ≡ fresh (making_of made)
  pub sound : first_no (kept_questions p) ≡ None

-- A making by its first question answered no: it answers 0; or the number, and nothing is kept. With a key of 15 bytes it answers 4.
abbrev pub MakeTold : (made : RomulusPost) → Option Refusal → (number : ℕ) → RomulusPost → Type 0
MakeTold made None number p = (number ≡ 0) × Made made p
MakeTold made (Some q) number p = (number ≡ number_of q) × (p ≡ blank)

-- ---- sealing and opening

-- What a seal or an opening answers C, with what it wrote, as an answer of a transcript.
abbrev pub reply : RomulusPostAnswer → (written : List (List ℕ)) → Reply
reply r written = Gave r.number (r.nonce_high, r.nonce_low) r.cost written

-- A call of the library's post that stands as p, after which p' is kept. p' stands one event further, and every question on it is answered yes;
-- a call that cost nothing altered nothing; and mode, rounds, prefix and last count never change.
-- A seal of cost 2 leaves 2 more calls, 2 less left, the count one higher and the amount one lower.
pub record Carried (m : Scheme) (p : RomulusPost) (c : Call) (a : Reply) (p' : RomulusPost) : Type 0 where
  pub stepped : Stepped m (standing_of p) c a (standing_of p')
  pub sound : first_no (kept_questions p') ≡ None
  pub free : cost_told a ≡ 0 → p' ≡ p
  pub mode_stays : p'.mode ≡ p.mode
  pub rounds_stay : p'.rounds ≡ p.rounds
  pub prefix_stays : p'.prefix ≡ p.prefix
  pub last_stays : p'.count + p'.amount ≡ p.count + p.amount

-- A call by the first question on what is kept that is answered no: a call of the library's post; or refused with that number, with zeros in every
-- output place and nothing altered. On a place full of zeros every call is refused with 4.
abbrev pub CallTold : RomulusPost → Call → Option Refusal → Reply → RomulusPost → Type 0
CallTold p c None a p' = Carried (scheme_of p.mode) p c a p'
CallTold p c (Some q) a p' = (a ≡ refusal_reply q (places c)) × (p' ≡ p)

-- ---- reading out

-- What a reading tells.
abbrev pub reading_of : RomulusPost → RomulusReading
reading_of p = record { number = 0; left = p.left; sealed = p.sealed; opened = p.opened; wrong = p.wrong }

-- A reading that was refused: the number, and zeros.
abbrev pub unread : Refusal → RomulusReading
unread r = record { number = number_of r; left = 0; sealed = 0; opened = 0; wrong = 0 }

-- What a reading tells C, as an answer of a transcript.
abbrev pub told : RomulusReading → Reply
told r = Told r.left r.sealed r.opened r.wrong

-- A reading by the first question on what is kept that is answered no: a reading of the library's post, which alters nothing; or refused with that number.
abbrev pub ReadTold : RomulusPost → Option Refusal → RomulusReading → Type 0
ReadTold p None r = (r ≡ reading_of p) × CallTold p Read None (told r) p
ReadTold p (Some q) r = r ≡ unread q
