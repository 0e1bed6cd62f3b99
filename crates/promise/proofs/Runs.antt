-- Transcripts, event by event.
use Rattle.std.proofs.Common.{◌≡◌, ℕ, ◌+◌, ◌-◌, ◌%◌, ◌^◌, Bool, List, [], ◌∷◌, ◌++◌, drop, sym, refl, ap, ◌∙◌, subst, append_assoc, append-nil, arith}
use native.Mathlib.Nat.{mod-add-mod}
use Rattle.std.proofs.lemmas.List.{drop-drop}
use Rattle.mode.specs.Mode.{Scheme}
use Rattle.promise.specs.Calls.{Call, Reply, Event, event, reply_of, cost_told, taken_seal, taken_open, wrong_open, tick, how_many, costs_told}
use Rattle.promise.specs.Answers.{Making, Standing, standing, fresh, onward, Fits, Stepped, Run}
use Rattle.promise.specs.Promises.{Came}

pub how_many_push : (kind : Event → Bool) (es : List Event) (e : Event) → how_many kind (es ++ (e ∷ [])) ≡ how_many kind es + tick (kind e)
how_many_push kind [] e = omega arith
how_many_push kind (x ∷ es) e = let h = how_many_push kind es e in omega arith

pub costs_push : (es : List Event) (e : Event) → costs_told (es ++ (e ∷ [])) ≡ costs_told es + cost_told (reply_of e)
costs_push [] e = omega arith
costs_push (x ∷ es) e = let h = costs_push es e in omega arith

-- one event more leaves the post one event further
pub standing_push : (g : Making) (es : List Event) (e : Event) → standing g (es ++ (e ∷ [])) ≡ onward (standing g es) e
standing_push g es e =
    let a = how_many_push taken_seal es e in
    let b = how_many_push taken_open es e in
    let c = how_many_push wrong_open es e in
    let d = costs_push es e in
    let n : drop (how_many taken_seal (es ++ (e ∷ []))) g.nonces ≡ drop (tick (taken_seal e)) (drop (how_many taken_seal es) g.nonces) =
    ap (λ (k : ℕ). drop k g.nonces) a ∙ sym (drop-drop (tick (taken_seal e)) (how_many taken_seal es) g.nonces) in
    let l : g.allowance - costs_told (es ++ (e ∷ [])) ≡ g.allowance - costs_told es - cost_told (reply_of e) = omega arith in
    let s : g.count + costs_told (es ++ (e ∷ [])) ≡ g.count + costs_told es + cost_told (reply_of e) = omega arith in
    let k : (g.count + costs_told (es ++ (e ∷ []))) % 2 ^ 64 ≡ ((g.count + costs_told es) % 2 ^ 64 + cost_told (reply_of e)) % 2 ^ 64 =
    ap (λ (x : ℕ). x % 2 ^ 64) s ∙ sym (mod-add-mod (g.count + costs_told es) (2 ^ 64) (cost_told (reply_of e))) in
    cc

-- after the events b, the answers of es fit
abbrev pub Ran : Scheme → Making → List Event → List Event → Type 0
Ran m g b [] = Unit {0}
Ran m g b (event c a ∷ es) = Fits m (standing g b) c a × Ran m g (b ++ (event c a ∷ [])) es

ran_at : (m : Scheme) (g : Making) (b before : List Event) (c : Call) (a : Reply) (after : List Event) → Ran m g b (before ++ (event c a ∷ after)) → Fits m (standing g (b ++ before)) c a
ran_at m g b [] c a after r = subst (λ (l : List Event). Fits m (standing g l) c a) (sym (append-nil b)) r.0
ran_at m g b (event d x ∷ before) c a after r =
    subst (λ (l : List Event). Fits m (standing g l) c a) (append_assoc b (event d x ∷ []) before) (ran_at m g (b ++ (event d x ∷ [])) before c a after r.1)

-- wherever a transcript is cut, the answer there fits
pub ran_each : (m : Scheme) (g : Making) (es : List Event) → Ran m g [] es → (before : List Event) (c : Call) (a : Reply) → Came es before c a → Fits m (standing g before) c a
ran_each m g es r before c a (after, e) = ran_at m g [] before c a after (subst (λ (l : List Event). Ran m g [] l) e r)

pub each_ran : (m : Scheme) (g : Making) (all : List Event) → ((before : List Event) (c : Call) (a : Reply) → Came all before c a → Fits m (standing g before) c a) →
    (b es : List Event) → all ≡ b ++ es → Ran m g b es
each_ran m g all w b [] e = tt
each_ran m g all w b (event c a ∷ es) e = (w b c a (es, e), each_ran m g all w (b ++ (event c a ∷ [])) es (e ∙ sym (append_assoc b (event c a ∷ []) es)))

-- single calls one after the other
run_from : (m : Scheme) (g : Making) (b es : List Event) (s t : Standing) → s ≡ standing g b → Run m s es t → Ran m g b es × (t ≡ standing g (b ++ es))
run_from m g b [] s t q r = (tt, r ∙ q ∙ ap (λ (l : List Event). standing g l) (sym (append-nil b)))
run_from m g b (event c a ∷ es) s t q (u, p, r) =
    let v : u ≡ standing g (b ++ (event c a ∷ [])) = p.leaves ∙ ap (λ (z : Standing). onward z (event c a)) q ∙ sym (standing_push g b (event c a)) in
    let w = run_from m g (b ++ (event c a ∷ [])) es u t v r in
    ((subst (λ (z : Standing). Fits m z c a) q p.fits, w.0), w.1 ∙ ap (λ (l : List Event). standing g l) (append_assoc b (event c a ∷ []) es))

pub run_ran : (m : Scheme) (g : Making) (es : List Event) (t : Standing) → Run m (fresh g) es t → Ran m g [] es
run_ran m g es t r = (run_from m g [] es (fresh g) t refl r).0

pub run_stands : (m : Scheme) (g : Making) (es : List Event) (t : Standing) → Run m (fresh g) es t → t ≡ standing g es
run_stands m g es t r = (run_from m g [] es (fresh g) t refl r).1

-- one call more
pub run_push : (m : Scheme) (s : Standing) (es : List Event) (t u : Standing) (c : Call) (a : Reply) → Run m s es t → Stepped m t c a u → Run m s (es ++ (event c a ∷ [])) u
run_push m s [] t u c a r p = (u, subst (λ (z : Standing). Stepped m z c a u) r p, refl)
run_push m s (event d x ∷ es) t u c a (v, q, r) p = (v, q, run_push m v es t u c a r p)
