-- Two runs that are alike show the same outside.
use Rattle.std.proofs.Common.{◌≡◌, ℕ, ◌+◌, ◌-◌, Bool, true, false, eqb, ◌≢◌, ◌↔◌, List, [], ◌∷◌, ◌++◌, length, drop, Some, None, Option, sym, refl, ap, ◌∙◌, subst, ap₂, subst₂, append_assoc, arith, length-append}
use Rattle.std.specs.List.{AllZip}
use Rattle.refusals.specs.declared.Refusal.{Refusal}
use Rattle.refusals.specs.Refusals.{first_no}
use Rattle.mode.specs.declared.Costs.{Costs}
use Rattle.mode.specs.Mode.{Scheme, Right, Opened, zeros}
use Rattle.nonces.specs.Nonces.{words}
use Rattle.promise.specs.Calls.{Call, Seal, Open, Read, Reply, Gave, Told, number_told, cost_told, Event, event, taken_seal, taken_open, wrong_open, tick}
use Rattle.promise.specs.Answers.{Making, Standing, standing, fresh, onward, next, questions, seal_reply, verdict_reply, OpenFits, Fits, Run}
use Rattle.promise.specs.Promises.{SameSizes, AskedAlike, Verdict, Alike, SameOutside, AnsweredAlike, OutsideSeesOnlySizesAndVerdicts}
use Rattle.promise.proofs.Runs.{Ran, standing_push, run_ran}

-- two posts that show the same
record Same (p q : Standing) : Type 0 where
  nonces : p.nonces ≡ q.nonces
  left : p.left ≡ q.left
  sealed : p.sealed ≡ q.sealed
  opened : p.opened ≡ q.opened
  wrong : p.wrong ≡ q.wrong

same_number : (a b : Reply) → SameOutside a b → number_told a ≡ number_told b
same_number (Gave number nonce cost written) (Gave number' nonce' cost' written') h = h.0
same_number (Told left sealed opened wrong) (Told left' sealed' opened' wrong') h = refl
same_number (Gave number nonce cost written) (Told left' sealed' opened' wrong') h = absurd h
same_number (Told left sealed opened wrong) (Gave number' nonce' cost' written') h = absurd h

same_cost : (a b : Reply) → SameOutside a b → cost_told a ≡ cost_told b
same_cost (Gave number nonce cost written) (Gave number' nonce' cost' written') h = h.2
same_cost (Told left sealed opened wrong) (Told left' sealed' opened' wrong') h = refl
same_cost (Gave number nonce cost written) (Told left' sealed' opened' wrong') h = absurd h
same_cost (Told left sealed opened wrong) (Gave number' nonce' cost' written') h = absurd h

-- what two events of one kind count
record Kinds (e e' : Event) : Type 0 where
  seals : taken_seal e ≡ taken_seal e'
  opens : taken_open e ≡ taken_open e'
  wrongs : wrong_open e ≡ wrong_open e'

same_kinds : (c d : Call) (a b : Reply) → SameSizes c d → number_told a ≡ number_told b → Kinds (event c a) (event d b)
same_kinds (Seal ad message out tag) (Seal ad' message' out' tag') a b z n = record { seals = ap (λ k. eqb k 0) n; opens = refl; wrongs = refl }
same_kinds (Open nonce ad text tag out) (Open nonce' ad' text' tag' out') a b z n = record { seals = refl; opens = ap (λ k. eqb k 0) n; wrongs = ap (λ k. eqb k 13) n }
same_kinds Read Read a b z n = record { seals = refl; opens = refl; wrongs = refl }
same_kinds (Seal ad message out tag) (Open nonce' ad' text' tag' out') a b z n = absurd z
same_kinds (Seal ad message out tag) Read a b z n = absurd z
same_kinds (Open nonce ad text tag out) (Seal ad' message' out' tag') a b z n = absurd z
same_kinds (Open nonce ad text tag out) Read a b z n = absurd z
same_kinds Read (Seal ad' message' out' tag') a b z n = absurd z
same_kinds Read (Open nonce' ad' text' tag' out') a b z n = absurd z

same_onward : (p q : Standing) (c d : Call) (a b : Reply) → Same p q → SameSizes c d → SameOutside a b → Same (onward p (event c a)) (onward q (event d b))
same_onward p q c d a b s z h =
    let k : Kinds (event c a) (event d b) = same_kinds c d a b z (same_number a b h) in
    record {
      nonces = ap₂ (λ (t : Bool) (ns : List (List ℕ)). drop (tick t) ns) k.seals s.nonces;
      left = ap₂ (λ (u v : ℕ). u - v) s.left (same_cost a b h);
      sealed = ap₂ (λ (u : ℕ) (t : Bool). u + tick t) s.sealed k.seals;
      opened = ap₂ (λ (u : ℕ) (t : Bool). u + tick t) s.opened k.opens;
      wrong = ap₂ (λ (u : ℕ) (t : Bool). u + tick t) s.wrong k.wrongs;
    }

-- ---- a seal
module _ (m : Scheme) (p q : Standing) (ad message out tag ad' message' out' tag' : List ℕ) (s : Same p q)
    (la : length ad ≡ length ad') (lm : length message ≡ length message') (lo : length out ≡ length out') (lt : length tag ≡ length tag') where
  same_seal_costs : m.costs (length ad) (length message) ≡ m.costs (length ad') (length message')
  same_seal_costs = cc

  same_seal_questions : first_no (questions m p (Seal ad message out tag)) ≡ first_no (questions m q (Seal ad' message' out' tag'))
  same_seal_questions =
      let k : (m.costs (length ad) (length message)).seal ≡ (m.costs (length ad') (length message')).seal = ap (λ (c : Costs). c.seal) same_seal_costs in
      let n : p.nonces ≡ q.nonces = s.nonces in
      let l : p.left ≡ q.left = s.left in
      cc

  same_seal : (o : Option Refusal) → SameOutside (seal_reply m p ad message out tag o) (seal_reply m q ad' message' out' tag' o)
  same_seal None = (refl, ap (λ (ns : List (List ℕ)). words (next ns)) s.nonces, ap (λ (c : Costs). c.seal) same_seal_costs, λ (z : ◌≢◌ {A = ℕ} 0 0). absurd (z refl))
  same_seal (Some r) =
      let y : ◌≡◌ {A = List (List ℕ)} (zeros out ∷ zeros tag ∷ []) (zeros out' ∷ zeros tag' ∷ []) = cc in
      (refl, refl, refl, λ _. y)

-- ---- an opening
module _ (m : Scheme) (p q : Standing) (nonce ad text tag out nonce' ad' text' tag' out' : List ℕ) (s : Same p q)
    (ln : length nonce ≡ length nonce') (la : length ad ≡ length ad') (lx : length text ≡ length text') (lt : length tag ≡ length tag') (lo : length out ≡ length out') where
  same_open_costs : m.costs (length ad) (length text) ≡ m.costs (length ad') (length text')
  same_open_costs = cc

  same_open_questions : first_no (questions m p (Open nonce ad text tag out)) ≡ first_no (questions m q (Open nonce' ad' text' tag' out'))
  same_open_questions =
      let k : (m.costs (length ad) (length text)).right ≡ (m.costs (length ad') (length text')).right = ap (λ (c : Costs). c.right) same_open_costs in
      let l : p.left ≡ q.left = s.left in
      cc

  same_judged : (right right' : Bool) (written written' : List ℕ) → Opened m p.cipher p.key nonce ad text tag right written → Opened m q.cipher q.key nonce' ad' text' tag' right' written' →
      (Right m p.cipher p.key nonce ad text tag ↔ Right m q.cipher q.key nonce' ad' text' tag') →
      SameOutside (verdict_reply (m.costs (length ad) (length text)) right written) (verdict_reply (m.costs (length ad') (length text')) right' written')
  same_judged true true w w' o o' v = (refl, refl, ap (λ (c : Costs). c.right) same_open_costs, λ (z : ◌≢◌ {A = ℕ} 0 0). absurd (z refl))
  same_judged true false w w' o o' v = absurd (o'.0 (v.0 (w, o)))
  same_judged false true w w' o o' v = absurd (o.0 (v.1 (w', o')))
  same_judged false false w w' o o' v =
      let x : w ≡ zeros text = o.1 in
      let x' : w' ≡ zeros text' = o'.1 in
      let y : ◌≡◌ {A = List (List ℕ)} (w ∷ []) (w' ∷ []) = cc in
      (refl, refl, ap (λ (c : Costs). c.wrong) same_open_costs, λ _. y)

  same_open : (o : Option Refusal) (a b : Reply) → OpenFits m p nonce ad text tag out o a → OpenFits m q nonce' ad' text' tag' out' o b →
      (o ≡ None → (Right m p.cipher p.key nonce ad text tag ↔ Right m q.cipher q.key nonce' ad' text' tag')) → SameOutside a b
  same_open None a b (right, written, e, op) (right', written', e', op') v = subst₂ SameOutside (sym e) (sym e') (same_judged right right' written written' op op' (v refl))
  same_open (Some r) a b e e' v =
      let y : ◌≡◌ {A = List (List ℕ)} (zeros out ∷ []) (zeros out' ∷ []) = cc in
      subst₂ SameOutside (sym e) (sym e') (refl, refl, refl, λ _. y)

-- ---- any call

-- the verdict at a post that stands so
abbrev At : Scheme → Standing → Call → Type 0
At m s (Seal ad message out tag) = Unit {0}
At m s (Open nonce ad text tag out) = Right m s.cipher s.key nonce ad text tag
At m s Read = Unit {0}

call_same : (m : Scheme) (p q : Standing) → Same p q → (c d : Call) (a b : Reply) → Fits m p c a → Fits m q d b → SameSizes c d →
    (first_no (questions m p c) ≡ None → first_no (questions m q d) ≡ None → (At m p c ↔ At m q d)) → SameOutside a b
call_same m p q s (Seal ad message out tag) (Seal ad' message' out' tag') a b f f' (la, lm, lo, lt) v =
    let e = same_seal_questions m p q ad message out tag ad' message' out' tag' s la lm lo lt in
    subst₂ SameOutside (sym f) (ap (seal_reply m q ad' message' out' tag') e ∙ sym f')
    (same_seal m p q ad message out tag ad' message' out' tag' s la lm lo lt (first_no (questions m p (Seal ad message out tag))))
call_same m p q s (Open nonce ad text tag out) (Open nonce' ad' text' tag' out') a b f f' (ln, la, lx, lt, lo) v =
    let e = same_open_questions m p q nonce ad text tag out nonce' ad' text' tag' out' s ln la lx lt lo in
    same_open m p q nonce ad text tag out nonce' ad' text' tag' out' s ln la lx lt lo (first_no (questions m p (Open nonce ad text tag out))) a b f
    (subst (λ (o : Option Refusal). OpenFits m q nonce' ad' text' tag' out' o b) (sym e) f') (λ n. v n (sym e ∙ n))
call_same m p q s Read Read a b f f' z v = subst₂ SameOutside (sym f) (sym f') (s.left, s.sealed, s.opened, s.wrong)
call_same m p q s (Seal ad message out tag) (Open nonce' ad' text' tag' out') a b f f' z v = absurd z
call_same m p q s (Seal ad message out tag) Read a b f f' z v = absurd z
call_same m p q s (Open nonce ad text tag out) (Seal ad' message' out' tag') a b f f' z v = absurd z
call_same m p q s (Open nonce ad text tag out) Read a b f f' z v = absurd z
call_same m p q s Read (Seal ad' message' out' tag') a b f f' z v = absurd z
call_same m p q s Read (Open nonce' ad' text' tag' out') a b f f' z v = absurd z

-- the verdict under a making is that at the post as it stands
at_verdict : (m : Scheme) (g : Making) (b : List Event) (c : Call) → At m (standing g b) c ≡ Verdict m g c
at_verdict m g b (Seal ad message out tag) = refl
at_verdict m g b (Open nonce ad text tag out) = refl
at_verdict m g b Read = refl

module _ (m : Scheme) (g h : Making) (all all' : List Event) (alike : Alike m g h all all') where
  both : (b b' es ds : List Event) → all ≡ b ++ es → all' ≡ b' ++ ds → length b ≡ length b' → Same (standing g b) (standing h b') → Ran m g b es → Ran m h b' ds → AllZip AskedAlike es ds → AllZip AnsweredAlike es ds
  both b b' [] [] ea eb l s r r' z = tt
  both b b' [] (d ∷ ds) ea eb l s r r' z = z
  both b b' (c ∷ cs) [] ea eb l s r r' z = z
  both b b' (event c x ∷ es) (event d y ∷ ds) ea eb l s r r' z =
      let o : SameOutside x y =
      call_same m (standing g b) (standing h b') s c d x y r.0 r'.0 z.0
      (λ p q. subst₂ (λ (u v : Type 0). u ↔ v) (sym (at_verdict m g b c)) (sym (at_verdict m h b' d)) (alike.verdicts b c x b' d y (es, ea) (ds, eb) l p q)) in
      let n : Same (standing g (b ++ (event c x ∷ []))) (standing h (b' ++ (event d y ∷ []))) =
      subst₂ Same (sym (standing_push g b (event c x))) (sym (standing_push h b' (event d y))) (same_onward (standing g b) (standing h b') c d x y s z.0 o) in (
        o,
        both (b ++ (event c x ∷ [])) (b' ++ (event d y ∷ [])) es ds (ea ∙ sym (append_assoc b (event c x ∷ []) es)) (eb ∙ sym (append_assoc b' (event d y ∷ []) ds))
            (simp length-append (omega arith)) n r.1 r'.1 z.1,
      )

pub outside : (m : Scheme) (g h : Making) (es ds : List Event) (t u : Standing) → Run m (fresh g) es t → Run m (fresh h) ds u → OutsideSeesOnlySizesAndVerdicts m g h es ds
outside m g h es ds t u r r' e n alike =
    both m g h es ds alike [] [] es ds refl refl refl
    (record { nonces = n; left = ap (λ (k : ℕ). k - 0) e; sealed = refl; opened = refl; wrong = refl }) (run_ran m g es t r) (run_ran m h ds u r') alike.sizes
