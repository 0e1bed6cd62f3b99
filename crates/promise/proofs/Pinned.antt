-- One making and one list of calls have one transcript.
use Rattle.std.proofs.Common.{◌≡◌, ℕ, true, false, List, [], ◌∷◌, ◌++◌, map, length, Some, None, Option, sym, refl, ap, ◌∙◌, subst, ap₂, arith}
use Rattle.refusals.specs.declared.Refusal.{Refusal}
use Rattle.refusals.specs.Refusals.{first_no}
use Rattle.mode.specs.Mode.{Scheme, Keeps}
use Rattle.promise.specs.Calls.{Call, Seal, Open, Read, Reply, Event, event, call_of}
use Rattle.promise.specs.Answers.{Making, Standing, standing, questions, verdict_reply, OpenFits, Fits}
use Rattle.promise.specs.Promises.{NothingLeftOpen}
use Rattle.promise.proofs.Runs.{Ran, each_ran}

one_opening : (m : Scheme) → Keeps m → (s : Standing) (nonce ad text tag out : List ℕ) (o : Option Refusal) (a b : Reply) → OpenFits m s nonce ad text tag out o a → OpenFits m s nonce ad text tag out o b → a ≡ b
one_opening m ok s nonce ad text tag out None a b (true, w, e, op) (true, w', e', op') =
    e ∙ ap (verdict_reply (m.costs (length ad) (length text)) true) (ok.one_message s.cipher s.key nonce ad w w' (op ∙ sym op')) ∙ sym e'
one_opening m ok s nonce ad text tag out None a b (true, w, e, op) (false, w', e', op') = absurd (op'.0 (w, op))
one_opening m ok s nonce ad text tag out None a b (false, w, e, op) (true, w', e', op') = absurd (op.0 (w', op'))
one_opening m ok s nonce ad text tag out None a b (false, w, e, op) (false, w', e', op') = e ∙ ap (verdict_reply (m.costs (length ad) (length text)) false) (op.1 ∙ sym op'.1) ∙ sym e'
one_opening m ok s nonce ad text tag out (Some r) a b e e' = e ∙ sym e'

one_answer : (m : Scheme) → Keeps m → (s : Standing) (c : Call) (a b : Reply) → Fits m s c a → Fits m s c b → a ≡ b
one_answer m ok s (Seal ad message out tag) a b f g = f ∙ sym g
one_answer m ok s (Open nonce ad text tag out) a b f g = one_opening m ok s nonce ad text tag out (first_no (questions m s (Open nonce ad text tag out))) a b f g
one_answer m ok s Read a b f g = f ∙ sym g

one_run : (m : Scheme) → Keeps m → (g : Making) (b es ds : List Event) → Ran m g b es → Ran m g b ds → map call_of es ≡ map call_of ds → es ≡ ds
one_run m ok g b [] [] r q e = refl
one_run m ok g b [] (d ∷ ds) r q e = let z : ◌≡◌ {A = ℕ} 0 1 = cc in absurd (omega arith)
one_run m ok g b (d ∷ ds) [] r q e = let z : ◌≡◌ {A = ℕ} 0 1 = cc in absurd (omega arith)
one_run m ok g b (event c a ∷ es) (event d x ∷ ds) r q e =
    let k : d ≡ c = cc in
    let l : map call_of es ≡ map call_of ds = cc in
    let f : Fits m (standing g b) c x = subst (λ (y : Call). Fits m (standing g b) y x) k q.0 in
    let w : a ≡ x = one_answer m ok (standing g b) c a x r.0 f in
    let h : event d x ≡ event c a = ap₂ (λ (y : Call) (z : Reply). event y z) k (sym w) in
    ap₂ (λ (y : Event) (z : List Event). y ∷ z) (sym h) (one_run m ok g (b ++ (event c a ∷ [])) es ds r.1 (subst (λ (y : Event). Ran m g (b ++ (y ∷ [])) ds) h q.1) l)

pub pinned : NothingLeftOpen
pinned m ok g es ds w v e = one_run m ok g [] es ds (each_ran m g es w.each [] es refl) (each_ran m g ds v.each [] ds refl) e
