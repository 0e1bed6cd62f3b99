-- A call by a post of the library, carried over to what is kept.
use Rattle.std.proofs.Common.{◌≡◌, ℕ, zero, suc, ◌+◌, ◌-◌, ◌%◌, ◌^◌, ◌≤◌, Bool, true, false, eqb, leb, ◌≢◌, List, [], ◌∷◌, length, drop, Some, None, Option, sym, refl, ap, ◌∙◌, subst, add-zero, arith}
use native.Mathlib.Nat.{sub-zero}
use Rattle.std.proofs.lemmas.Bool.{leb-true, le-leb, ne_eqb}
use Rattle.refusals.specs.declared.Refusal.{Refusal}
use Rattle.refusals.specs.declared.Refusal.TheVariants.{CountRange, KeyLength, AllowanceSize}
use Rattle.refusals.specs.Refusals.{Question, ask, first_no, number_of}
use Rattle.mode.specs.Mode.{Scheme, Keeps}
use Rattle.nonces.specs.Sources.{big_endian, counted}
use Rattle.promise.specs.Calls.{Call, Seal, Open, Read, Reply, Told, cost_told, Event, event, taken_seal, taken_open, wrong_open, tick}
use Rattle.promise.specs.Answers.{Standing, questions, some_left, seal_reply, verdict_reply, refusal_reply, OpenFits, Fits, Stepped}
use Rattle.promise.proofs.Questions.{number_not_0, some_not_none, first_yes, seal_can_be, open_sizes}
use Rattle.post.specs.declared.Reading.{Reading}
use Rattle.romulus_c.specs.declared.kept.RomulusPost.{RomulusPost}
use Rattle.romulus_c.specs.Kept.{held, kept_questions, standing_of, Carried}
use Rattle.romulus_c.specs.Carry.{loaded, after, Room}

-- ---- what a fitting answer spends

-- The cost stays within the allowance left, pays for what is counted, and a taken seal had a nonce.
pub record Spends (s : Standing) (e : Event) (cost : ℕ) : Type 0 where
  pub pays : cost ≤ s.left
  pub counts : tick (taken_seal e) + tick (taken_open e) + tick (wrong_open e) ≤ cost
  pub some : tick (taken_seal e) ≤ length s.nonces

some_length : (ns : List (List ℕ)) → some_left ns ≡ true → 1 ≤ length ns
some_length [] e = let z : ◌≡◌ {A = ℕ} 0 1 = cc in absurd (omega arith)
some_length (n ∷ ns) e = omega arith

-- no question of the list has this number
abbrev Others : ℕ → List Question → Type 0
Others n [] = Unit {0}
Others n (ask r b ∷ qs) = (number_of r ≢ n) × Others n qs

others : (n : ℕ) (qs : List Question) (q : Refusal) → Others n qs → first_no qs ≡ Some q → number_of q ≢ n
others n [] q h e = absurd (some_not_none q (sym e))
others n (ask r true ∷ qs) q h e = others n qs q h.1 e
others n (ask r false ∷ qs) q h e = let w : r ≡ q = cc in λ z. h.0 (ap number_of w ∙ z)

-- no question before the verdict has its number
open_not_13 : (m : Scheme) (s : Standing) (nonce ad text tag out : List ℕ) (q : Refusal) → first_no (questions m s (Open nonce ad text tag out)) ≡ Some q → number_of q ≢ 13
open_not_13 m s nonce ad text tag out q =
    others 13 (questions m s (Open nonce ad text tag out)) q
    ((λ z. omega arith), ((λ z. omega arith), ((λ z. omega arith), ((λ z. omega arith), ((λ z. omega arith), ((λ z. omega arith), tt))))))

seal_spends : (m : Scheme) → Keeps m → (s : Standing) (ad message out tag : List ℕ) (o : Option Refusal) → first_no (questions m s (Seal ad message out tag)) ≡ o →
    Spends s (event (Seal ad message out tag) (seal_reply m s ad message out tag o)) (cost_told (seal_reply m s ad message out tag o))
seal_spends m ok s ad message out tag None e =
    let h = seal_can_be m s ad message out tag e in
    record { pays = h.enough; counts = ok.seal_costs (length ad) (length message); some = some_length s.nonces h.some }
seal_spends m ok s ad message out tag (Some r) e =
    let z : eqb (number_of r) 0 ≡ false = ne_eqb (number_of r) 0 (number_not_0 r) in
    record { pays = omega arith; counts = rw z (omega arith); some = rw z (omega arith) }

judged_spends : (m : Scheme) → Keeps m → (s : Standing) (nonce ad text tag out : List ℕ) → first_no (questions m s (Open nonce ad text tag out)) ≡ None → (right : Bool) (written : List ℕ) →
    Spends s (event (Open nonce ad text tag out) (verdict_reply (m.costs (length ad) (length text)) right written)) (cost_told (verdict_reply (m.costs (length ad) (length text)) right written))
judged_spends m ok s nonce ad text tag out e true written =
    let h : (m.costs (length ad) (length text)).right ≤ s.left = (open_sizes m s nonce ad text tag out e).1 in
    let w : 1 ≤ (m.costs (length ad) (length text)).wrong = ok.wrong_costs (length ad) (length text) in
    let l : (m.costs (length ad) (length text)).wrong ≤ (m.costs (length ad) (length text)).right = ok.wrong_least (length ad) (length text) in
    record { pays = h; counts = omega arith; some = omega arith }
judged_spends m ok s nonce ad text tag out e false written =
    let h : (m.costs (length ad) (length text)).right ≤ s.left = (open_sizes m s nonce ad text tag out e).1 in
    let w : 1 ≤ (m.costs (length ad) (length text)).wrong = ok.wrong_costs (length ad) (length text) in
    let l : (m.costs (length ad) (length text)).wrong ≤ (m.costs (length ad) (length text)).right = ok.wrong_least (length ad) (length text) in
    record { pays = omega arith; counts = omega arith; some = omega arith }

open_spends : (m : Scheme) → Keeps m → (s : Standing) (nonce ad text tag out : List ℕ) (o : Option Refusal) (a : Reply) → first_no (questions m s (Open nonce ad text tag out)) ≡ o →
    OpenFits m s nonce ad text tag out o a → Spends s (event (Open nonce ad text tag out) a) (cost_told a)
open_spends m ok s nonce ad text tag out None a e (right, written, q, op) =
    subst (λ (x : Reply). Spends s (event (Open nonce ad text tag out) x) (cost_told x)) (sym q) (judged_spends m ok s nonce ad text tag out e right written)
open_spends m ok s nonce ad text tag out (Some r) a e f =
    let z : eqb (number_of r) 0 ≡ false = ne_eqb (number_of r) 0 (number_not_0 r) in
    let w : eqb (number_of r) 13 ≡ false = ne_eqb (number_of r) 13 (open_not_13 m s nonce ad text tag out r e) in
    let k : Spends s (event (Open nonce ad text tag out) (refusal_reply r (out ∷ []))) 0 = record { pays = omega arith; counts = rw (z, w) (omega arith); some = omega arith } in
    subst (λ (x : Reply). Spends s (event (Open nonce ad text tag out) x) (cost_told x)) (sym f) k

pub spends : (m : Scheme) → Keeps m → (s : Standing) (c : Call) (a : Reply) → Fits m s c a → Spends s (event c a) (cost_told a)
spends m ok s (Seal ad message out tag) a f =
    subst (λ (x : Reply). Spends s (event (Seal ad message out tag) x) (cost_told x)) (sym f) (seal_spends m ok s ad message out tag (first_no (questions m s (Seal ad message out tag))) refl)
spends m ok s (Open nonce ad text tag out) a f = open_spends m ok s nonce ad text tag out (first_no (questions m s (Open nonce ad text tag out))) a refl f
spends m ok s Read a f =
    let k : Spends s (event Read (Told s.left s.sealed s.opened s.wrong)) 0 = record { pays = omega arith; counts = omega arith; some = omega arith } in
    subst (λ (x : Reply). Spends s (event Read x) (cost_told x)) (sym f) k

-- ---- what is kept

-- every question on what is kept, answered yes
pub record Sound (p : RomulusPost) : Type 0 where
  pub counts : p.count + p.amount ≤ 2 ^ 64 - 1
  pub key : eqb (length (held p.mode p.rounds p.key)) 16 ≡ true
  pub allowance : p.left + p.calls ≤ 2 ^ 40
  pub counters : p.sealed + p.opened + p.wrong ≤ p.calls

pub sound : (p : RomulusPost) → first_no (kept_questions p) ≡ None → Sound p
sound p e =
    let a = first_yes CountRange (leb (p.count + p.amount) (2 ^ 64 - 1)) _ e in
    let b = first_yes KeyLength (eqb (length (held p.mode p.rounds p.key)) 16) _ a.1 in
    let c = first_yes AllowanceSize (leb (p.left + p.calls) (2 ^ 40)) _ b.1 in
    let d = first_yes AllowanceSize (leb (p.sealed + p.opened + p.wrong) p.calls) _ c.1 in
    record { counts = leb-true _ _ a.0; key = b.0; allowance = leb-true _ _ c.0; counters = leb-true _ _ d.0 }

pub unsound : (p : RomulusPost) → Sound p → first_no (kept_questions p) ≡ None
unsound p s =
    let a : leb (p.count + p.amount) (2 ^ 64 - 1) ≡ true = le-leb _ _ s.counts in
    let b = s.key in
    let c : leb (p.left + p.calls) (2 ^ 40) ≡ true = le-leb _ _ s.allowance in
    let d : leb (p.sealed + p.opened + p.wrong) p.calls ≡ true = le-leb _ _ s.counters in
    rw (a, b, c, d) refl

length-counted : (prefix : List ℕ) (first amount : ℕ) → length (counted prefix first amount) ≡ amount
length-counted prefix first zero = refl
length-counted prefix first (suc amount) = ap suc (length-counted prefix (first + 1) amount)

-- a count, one nonce on or none
counted_on : (prefix : List ℕ) (first amount : ℕ) (b : Bool) → tick b ≤ amount → counted prefix (first + tick b) (amount - tick b) ≡ drop (tick b) (counted prefix first amount)
counted_on prefix first amount false h = rw (add-zero, sub-zero) refl
counted_on prefix first zero true h = absurd (omega arith)
counted_on prefix first (suc amount) true h = let e : suc amount - 1 ≡ amount = omega arith in ap (counted prefix (first + 1)) e

-- the reading of a post that stands so
abbrev pub reading : Standing → Reading
reading t = record { left = t.left; sealed = t.sealed; opened = t.opened; wrong = t.wrong }

-- a call leaves room
pub room : (m : Scheme) → Keeps m → (p : RomulusPost) (c : Call) (a : Reply) (t : Standing) → first_no (kept_questions p) ≡ None → Stepped m (loaded p) c a t → Room p (reading t) (cost_told a)
room m ok p c a t e s =
    let k = spends m ok (loaded p) c a s.fits in
    let h = sound p e in
    let l = s.leaves in
    let n : length (counted (big_endian p.prefix) p.count p.amount) ≡ p.amount = length-counted (big_endian p.prefix) p.count p.amount in
    let x : t.sealed ≡ 0 + tick (taken_seal (event c a)) = ap (λ (z : Standing). z.sealed) l in
    let y : t.opened ≡ 0 + tick (taken_open (event c a)) = ap (λ (z : Standing). z.opened) l in
    let w : t.wrong ≡ 0 + tick (wrong_open (event c a)) = ap (λ (z : Standing). z.wrong) l in
    record { nonces = omega arith; counts = h.counts; calls = omega arith; counters = omega arith }

-- a call that spent nothing leaves what is kept as it was
unspent : (p : RomulusPost) (t : Standing) (cost : ℕ) → cost ≡ 0 → t.left ≡ p.left → t.sealed ≡ 0 → t.opened ≡ 0 → t.wrong ≡ 0 → after p (reading t) cost ≡ p
unspent p t cost z l x y w =
    let a : p.count + t.sealed ≡ p.count = omega arith in
    let b : p.amount - t.sealed ≡ p.amount = omega arith in
    let c : p.calls + cost ≡ p.calls = omega arith in
    let d : p.sealed + t.sealed ≡ p.sealed = omega arith in
    let e : p.opened + t.opened ≡ p.opened = omega arith in
    let f : p.wrong + t.wrong ≡ p.wrong = omega arith in
    let k : after p (reading t) cost ≡ record { mode = p.mode; rounds = p.rounds; key = p.key; prefix = p.prefix; count = p.count; amount = p.amount; left = p.left; calls = p.calls; sealed = p.sealed; opened = p.opened; wrong = p.wrong } = cc in
    k

-- and what is then kept stands one event further
pub carried : (m : Scheme) → Keeps m → (p : RomulusPost) (c : Call) (a : Reply) (t : Standing) → first_no (kept_questions p) ≡ None → Stepped m (loaded p) c a t →
    Fits m (standing_of p) c a → Carried m p c a (after p (reading t) (cost_told a))
carried m ok p c a t e s f =
    let k = spends m ok (loaded p) c a s.fits in
    let h = sound p e in
    let l = s.leaves in
    let n : length (counted (big_endian p.prefix) p.count p.amount) ≡ p.amount = length-counted (big_endian p.prefix) p.count p.amount in
    let i : t.left ≡ p.left - cost_told a = ap (λ (z : Standing). z.left) l in
    let x : t.sealed ≡ tick (taken_seal (event c a)) = omega (arith, ap (λ (z : Standing). z.sealed) l) in
    let y : t.opened ≡ tick (taken_open (event c a)) = omega (arith, ap (λ (z : Standing). z.opened) l) in
    let w : t.wrong ≡ tick (wrong_open (event c a)) = omega (arith, ap (λ (z : Standing). z.wrong) l) in
    let b : p.calls + cost_told a ≡ (p.calls + cost_told a) % 2 ^ 64 = omega arith in
    let d : counted (big_endian p.prefix) (p.count + t.sealed) (p.amount - t.sealed) ≡ drop (tick (taken_seal (event c a))) (counted (big_endian p.prefix) p.count p.amount) =
    rw x (counted_on (big_endian p.prefix) p.count p.amount (taken_seal (event c a)) (omega arith)) in
    record {
      stepped = record { fits = f; leaves = cc };
      sound = unsound (after p (reading t) (cost_told a)) (record { counts = omega arith; key = h.key; allowance = omega arith; counters = omega arith });
      free = λ z. unspent p t (cost_told a) z (omega arith) (omega arith) (omega arith) (omega arith);
      mode_stays = refl;
      rounds_stay = refl;
      prefix_stays = refl;
      last_stays = omega arith;
    }

-- the answers of a call hang on no counter
pub fits_kept : (m : Scheme) (p : RomulusPost) (c : Call) (a : Reply) → (c ≡ Read → ⊥) → Fits m (loaded p) c a → Fits m (standing_of p) c a
fits_kept m p (Seal ad message out tag) a n f = f
fits_kept m p (Open nonce ad text tag out) a n f = f
fits_kept m p Read a n f = absurd (n refl)

-- ---- a call as the code makes it: by a loaded post, read out afterwards
module _ (m : Scheme) (ok : Keeps m) (p : RomulusPost) (c : Call) (a : Reply) (s t : Standing) (r : Reading)
    (e : first_no (kept_questions p) ≡ None) (q : s ≡ loaded p) (k : Stepped m s c a t) (f : Fits m t Read (Told r.left r.sealed r.opened r.wrong)) where
  from_loaded : Stepped m (loaded p) c a t
  from_loaded = subst (λ (z : Standing). Stepped m z c a t) q k

  read_out : reading t ≡ r
  read_out = let w : reading t ≡ record { left = r.left; sealed = r.sealed; opened = r.opened; wrong = r.wrong } = cc in w

  pub call_room : Room p r (cost_told a)
  call_room = subst (λ (z : Reading). Room p z (cost_told a)) read_out (room m ok p c a t e from_loaded)

  pub call_carried : (c ≡ Read → ⊥) → (p' : RomulusPost) → p' ≡ after p r (cost_told a) → Carried m p c a p'
  call_carried n p' w =
      let h : Carried m p c a (after p (reading t) (cost_told a)) = carried m ok p c a t e from_loaded (fits_kept m p c a n from_loaded.fits) in
      let v : after p (reading t) (cost_told a) ≡ p' = ap (λ (z : Reading). after p z (cost_told a)) read_out ∙ sym w in
      subst (λ (z : RomulusPost). Carried m p c a z) v h
