-- How a call goes by a post of the library, and how its outcome is told. Inner functions speak of it, and the conversions of outcomes.
use Rattle.std.specs.Prelude.{◌≡◌, ℕ, ◌+◌, ◌-◌, ◌%◌, ◌^◌, ◌≤◌, true, false, List, Some, None, Ok, Err, Result}
use Rattle.cipher.specs.Cipher.{Answer}
use Rattle.cipher.specs.declared.Counted.{Counted}
use Rattle.skinny.specs.Skinny.{skinny}
use Rattle.skinny.specs.RoundCount.{round_count}
use Rattle.skinny.specs.declared.Skinny.{Skinny}
use Rattle.skinny.specs.declared.Rounds.{Rounds}
use Rattle.nonces.specs.declared.counting.Counting.{Counting}
use Rattle.nonces.specs.Sources.{big_endian, counted, counted_in}
use Rattle.promise.specs.Answers.{Standing}
use Rattle.refusals.specs.declared.Refusal.{Refusal}
use Rattle.refusals.specs.declared.Refusal.TheVariants.{KeyLength}
use Rattle.refusals.specs.Refusals.{first_no, answer_number}
use Rattle.mode.specs.declared.Outcome.{Outcome}
use Rattle.post.specs.Post.{nonce_given}
use Rattle.post.specs.declared.Reading.{Reading}
use Rattle.romulus_c.specs.declared.kept.Letter.{Letter}
use Rattle.romulus_c.specs.declared.kept.Letter.TheVariants.{N, M, T}
use Rattle.romulus_c.specs.declared.kept.RomulusPost.{RomulusPost}
use Rattle.romulus_c.specs.declared.kept.RomulusPostAnswer.{RomulusPostAnswer}
use Rattle.romulus_c.specs.Kept.{known, kept_questions}

-- The code of a mode's letter: that of N is 78.
abbrev pub code_of : Letter → ℕ
code_of N = 78
code_of M = 77
code_of T = 84

-- What two numbers name: a mode and rounds that are known; else the refusal of a post that holds no key.
abbrev pub Named : (mode rounds : ℕ) → Result (Letter × Rounds) Refusal → Type 0
Named mode rounds (Ok named) = (known mode rounds ≡ true) × (code_of named.0 ≡ mode) × (round_count named.1 ≡ rounds)
Named mode rounds (Err e) = (known mode rounds ≡ false) × (e ≡ KeyLength)

-- What asking a kept post gives: its mode and its rounds, where every question on it is answered yes; else the refusal of the first no.
abbrev pub Asked : RomulusPost → Result (Letter × Rounds) Refusal → Type 0
Asked p (Ok named) = (first_no (kept_questions p) ≡ None) × (code_of named.0 ≡ p.mode) × (round_count named.1 ≡ p.rounds)
Asked p (Err e) = first_no (kept_questions p) ≡ Some e

-- The answers of the cipher that a kept post works with.
abbrev pub answer_of : Counted Skinny → Answer
answer_of s = skinny (round_count s.cipher.rounds)

-- Its count of calls, modulo 2 ^ 64.
abbrev pub count_of : Counted Skinny → ℕ
count_of s = s.calls % 2 ^ 64

-- The nonces to come of the counting source that a kept post works with.
abbrev pub pending_of : Counting → List (List ℕ)
pending_of s = counted_in s.prefix s.counts

-- The post of the library that one call of a kept post is made by: it has the allowance left, and counts from 0, to be added afterwards.
abbrev pub loaded : RomulusPost → Standing
loaded p =
    record {
      cipher = skinny p.rounds;
      count = 0;
      key = p.key;
      nonces = counted (big_endian p.prefix) p.count p.amount;
      left = p.left;
      sealed = 0;
      opened = 0;
      wrong = 0;
    }

-- What is kept after a call of that post that left it at this reading. A taken seal of cost 2 (sealed 1) moves the count on by 1 and the calls by 2.
abbrev pub after : RomulusPost → Reading → (cost : ℕ) → RomulusPost
after p r cost =
    record {
      mode = p.mode;
      rounds = p.rounds;
      key = p.key;
      prefix = p.prefix;
      count = p.count + r.sealed;
      amount = p.amount - r.sealed;
      left = r.left;
      calls = p.calls + cost;
      sealed = p.sealed + r.sealed;
      opened = p.opened + r.opened;
      wrong = p.wrong + r.wrong;
    }

-- No number of it wraps: what the call adds has room in what is kept.
pub record Room (p : RomulusPost) (r : Reading) (cost : ℕ) : Type 0 where
  pub nonces : r.sealed ≤ p.amount
  pub counts : p.count + p.amount ≤ 2 ^ 64 - 1
  pub calls : p.calls + cost ≤ 2 ^ 40
  pub counters : p.sealed + p.opened + p.wrong + (r.sealed + r.opened + r.wrong) ≤ 2 ^ 40

-- A seal by the library's post as numbers for C: a taken one has the number 0, and a refused one the nonce 0 and 0.
abbrev pub sealed : Outcome (ℕ × ℕ) → RomulusPostAnswer
sealed o = record { number = answer_number o.answer; nonce_high = (nonce_given o.answer).0; nonce_low = (nonce_given o.answer).1; cost = o.cost }

-- An opening by the library's post as numbers for C. It has no nonce to tell.
abbrev pub opened : Outcome (Unit {0}) → RomulusPostAnswer
opened o = record { number = answer_number o.answer; nonce_high = 0; nonce_low = 0; cost = o.cost }
