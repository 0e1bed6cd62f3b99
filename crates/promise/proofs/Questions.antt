-- What it says that every question is answered yes.
use Rattle.std.proofs.Common.{◌≡◌, ℕ, ◌<◌, ◌≤◌, Bool, true, false, eqb, leb, ◌≢◌, List, [], ◌∷◌, ◌++◌, length, Some, None, refl, ap, ◌∙◌, arith, lit<}
use Rattle.std.proofs.lemmas.Bool.{leb-true, le-leb, eqb-true}
use Rattle.refusals.specs.declared.Refusal.{Refusal}
use Rattle.refusals.specs.declared.Refusal.TheVariants.{CountRange, SheetSize, SheetRepeats, KeyLength, AllowanceSize, DataLength, TextLength, OutputLength, TagLength, NonceLength, AllowanceSpent, NoNonce, WrongFrame, HashLength, DigestLength}
use Rattle.refusals.specs.Refusals.{Question, ask, first_no, number_of}
use Rattle.refusals.proofs.Asking.{first_no_later}
use Rattle.mode.specs.Mode.{Scheme}
use Rattle.promise.specs.Calls.{Call, Seal, Open}
use Rattle.promise.specs.Answers.{Standing, size_questions, price, some_left, questions}

-- a refusal's number is not 0
pub number_positive : (r : Refusal) → 0 < number_of r
number_positive CountRange = lit< tt
number_positive SheetSize = lit< tt
number_positive SheetRepeats = lit< tt
number_positive KeyLength = lit< tt
number_positive AllowanceSize = lit< tt
number_positive DataLength = lit< tt
number_positive TextLength = lit< tt
number_positive OutputLength = lit< tt
number_positive TagLength = lit< tt
number_positive NonceLength = lit< tt
number_positive AllowanceSpent = lit< tt
number_positive NoNonce = lit< tt
number_positive WrongFrame = lit< tt
number_positive HashLength = lit< tt
number_positive DigestLength = lit< tt

-- no refusal has the number of an answer that was taken
pub number_not_0 : (r : Refusal) → number_of r ≢ 0
number_not_0 r e = let h : 0 < number_of r = number_positive r in omega arith

pub some_not_none : (r : Refusal) → Some r ≡ None → ⊥
some_not_none r e = let z : ◌≡◌ {A = ℕ} 0 1 = cc in omega arith

-- two lots answered yes throughout
pub both_yes : (xs ys : List Question) → first_no (xs ++ ys) ≡ None → (first_no xs ≡ None) × (first_no ys ≡ None)
both_yes [] ys e = (refl, e)
both_yes (ask r true ∷ xs) ys e = both_yes xs ys e
both_yes (ask r false ∷ xs) ys e = absurd (some_not_none r e)

-- a question answered yes, and the ones after it
pub first_yes : (r : Refusal) (b : Bool) (qs : List Question) → first_no (ask r b ∷ qs) ≡ None → (b ≡ true) × (first_no qs ≡ None)
first_yes r true qs e = (refl, e)
first_yes r false qs e = absurd (some_not_none r e)

pub yes_first : (r : Refusal) (b : Bool) (qs : List Question) → b ≡ true → first_no (ask r b ∷ qs) ≡ first_no qs
yes_first r b qs e = ap (λ (x : Bool). first_no (ask r x ∷ qs)) e

-- ---- a seal
pub record SealCanBe (m : Scheme) (s : Standing) (ad message out tag : List ℕ) : Type 0 where
  pub sizes : first_no (size_questions (Seal ad message out tag)) ≡ None
  pub enough : price m (Seal ad message out tag) ≤ s.left
  pub some : some_left s.nonces ≡ true

pub seal_can_be : (m : Scheme) (s : Standing) (ad message out tag : List ℕ) → first_no (questions m s (Seal ad message out tag)) ≡ None → SealCanBe m s ad message out tag
seal_can_be m s ad message out tag e =
    let c : Call = Seal ad message out tag in
    let p = both_yes (size_questions c) (ask AllowanceSpent (leb (price m c) s.left) ∷ ask NoNonce (some_left s.nonces) ∷ []) e in
    let q = first_yes AllowanceSpent (leb (price m c) s.left) (ask NoNonce (some_left s.nonces) ∷ []) p.1 in
    record { sizes = p.0; enough = leb-true (price m c) s.left q.0; some = (first_yes NoNonce (some_left s.nonces) [] q.1).0 }

pub seal_unrefused : (m : Scheme) (s : Standing) (ad message out tag : List ℕ) → SealCanBe m s ad message out tag → first_no (questions m s (Seal ad message out tag)) ≡ None
seal_unrefused m s ad message out tag h =
    let c : Call = Seal ad message out tag in
    first_no_later (size_questions c) (ask AllowanceSpent (leb (price m c) s.left) ∷ ask NoNonce (some_left s.nonces) ∷ []) h.sizes
    ∙ yes_first AllowanceSpent (leb (price m c) s.left) (ask NoNonce (some_left s.nonces) ∷ []) (le-leb (price m c) s.left h.enough)
    ∙ yes_first NoNonce (some_left s.nonces) [] h.some

-- ---- an opening
pub open_sizes : (m : Scheme) (s : Standing) (nonce ad text tag out : List ℕ) → first_no (questions m s (Open nonce ad text tag out)) ≡ None →
    (first_no (size_questions (Open nonce ad text tag out)) ≡ None) × (price m (Open nonce ad text tag out) ≤ s.left)
open_sizes m s nonce ad text tag out e =
    let c : Call = Open nonce ad text tag out in
    let p = both_yes (size_questions c) (ask AllowanceSpent (leb (price m c) s.left) ∷ []) e in
    (p.0, leb-true (price m c) s.left (first_yes AllowanceSpent (leb (price m c) s.left) [] p.1).0)

pub open_unrefused : (m : Scheme) (s : Standing) (nonce ad text tag out : List ℕ) → first_no (size_questions (Open nonce ad text tag out)) ≡ None →
    price m (Open nonce ad text tag out) ≤ s.left → first_no (questions m s (Open nonce ad text tag out)) ≡ None
open_unrefused m s nonce ad text tag out e h =
    let c : Call = Open nonce ad text tag out in
    first_no_later (size_questions c) (ask AllowanceSpent (leb (price m c) s.left) ∷ []) e
    ∙ yes_first AllowanceSpent (leb (price m c) s.left) [] (le-leb (price m c) s.left h)

-- the output place of an opening is as long as the text
pub open_out : (m : Scheme) (s : Standing) (nonce ad text tag out : List ℕ) → first_no (questions m s (Open nonce ad text tag out)) ≡ None → length out ≡ length text
open_out m s nonce ad text tag out e =
    let q1 = first_yes DataLength (leb (length ad) 65535) _ e in
    let q2 = first_yes TextLength (leb (length text) 65535) _ q1.1 in
    eqb-true (length out) (length text) (first_yes OutputLength (eqb (length out) (length text)) _ q2.1).0
