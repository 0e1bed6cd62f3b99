-- A post of the code, seen as what its making and its calls leave.
use Rattle.std.specs.Prelude.{◌≡◌, ℕ, List, Some, None, Ok, Err, Result}
use Rattle.refusals.specs.declared.Refusal.{Refusal}
use Rattle.refusals.specs.Refusals.{answer_number, first_no}
use Rattle.cipher.specs.Cipher.{Answer}
use Rattle.mode.specs.declared.Outcome.{Outcome}
use Rattle.promise.specs.Calls.{Reply, Gave, Told}
use Rattle.promise.specs.Answers.{Making, Standing, fresh, making_questions}
use Rattle.post.specs.declared.Post.{Post}
use Rattle.post.specs.declared.Reading.{Reading}
use Rattle.post.specs.declared.Unmade.{Unmade}

-- How a post of the code stands. answer and count are what its cipher means, pending is what its source means: the nonces to come.
abbrev pub standing_of : {M C S : Type 0} → (C → Answer) → (C → ℕ) → (S → List (List ℕ)) → Post M C S → Standing
standing_of answer count pending p =
    record {
      cipher = answer p.cipher;
      count = count p.cipher;
      key = p.key;
      nonces = pending p.source;
      left = p.reading.left;
      sealed = p.reading.sealed;
      opened = p.reading.opened;
      wrong = p.reading.wrong;
    }

-- What a post is made of: the meanings of cipher and source, the key and the allowance.
abbrev pub making_of : {C S : Type 0} → (C → Answer) → (C → ℕ) → (S → List (List ℕ)) → C → S → (key : List ℕ) → (allowance : ℕ) → Making
making_of answer count pending c s key allowance = record { cipher = answer c; count = count c; key = key; nonces = pending s; allowance = allowance }

-- A post was made of these parts: every question was answered yes, and it stands as its making says.
-- Made with the allowance 100 it has 100 left and 0 sealed.
pub record Made {M C S : Type 0} (g : Making) (mode : M) (cipher : C) (source : S) (p : Post M C S) (s : Standing) : Type 0 where
  pub asked : first_no (making_questions g.key g.allowance) ≡ None
  pub stands : s ≡ fresh g
  pub mode_is : p.mode ≡ mode
  pub cipher_is : p.cipher ≡ cipher
  pub source_is : p.source ≡ source

-- A making was refused at the first question answered no, and its parts come back as they were.
-- With a key of 15 bytes the refusal is KeyLength, and the source has lost no nonce.
pub record NotMade {M C S : Type 0} (g : Making) (mode : M) (cipher : C) (source : S) (e : Unmade M C S) : Type 0 where
  pub asked : first_no (making_questions g.key g.allowance) ≡ Some e.refusal
  pub mode_back : e.mode ≡ mode
  pub cipher_back : e.cipher ≡ cipher
  pub source_back : e.source ≡ source

-- The nonce of a seal's answer, as two numbers: (0, 0) where it was refused.
abbrev pub nonce_given : Result (ℕ × ℕ) Refusal → ℕ × ℕ
nonce_given (Ok nonce) = nonce
nonce_given (Err r) = (0, 0)

-- What a seal of the code answers, with what it wrote, as an answer of a transcript: number, nonce, cost and bytes.
abbrev pub sealed : Outcome (ℕ × ℕ) → (written : List (List ℕ)) → Reply
sealed r written = Gave (answer_number r.answer) (nonce_given r.answer) r.cost written

-- The same of an opening, which has no nonce to tell: the two numbers are 0.
abbrev pub opened : Outcome (Unit {0}) → (written : List (List ℕ)) → Reply
opened r written = Gave (answer_number r.answer) (0, 0) r.cost written

-- What a reading of the code tells, as an answer of a transcript.
abbrev pub told : Reading → Reply
told r = Told r.left r.sealed r.opened r.wrong
