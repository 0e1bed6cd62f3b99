-- One turn more.
use Rattle.std.proofs.Common.{◌≡◌, ℕ, ◌+◌, ◌<◌, ◌≤◌, min, List, [], ◌∷◌, ◌++◌, map, length, get_or, take, drop, set, sym, refl, ap, ◌∙◌, subst, ap₂, add-zero, arith, length-take}
use Rattle.std.proofs.lemmas.List.{map-append, take_more, take_more_set, drop-set-lt, drop-drop, get_or-drop}
use Rattle.mode.specs.Mode.{Scheme}
use Rattle.promise.specs.Calls.{Event, event}
use Rattle.promise.specs.Answers.{Standing, Stepped, Run}
use Rattle.promise.proofs.Runs.{run_push}
use Rattle.side_by_side.specs.declared.turns.Turn.{Turn}
use Rattle.side_by_side.specs.Turns.{asked, answered, given, transcript}

transcript_push : (xs ys : List Turn) (x y : Turn) → length xs ≡ length ys → transcript (xs ++ (x ∷ [])) (ys ++ (y ∷ [])) ≡ transcript xs ys ++ (event (asked x) (answered y) ∷ [])
transcript_push [] [] x y l = refl
transcript_push [] (v ∷ ys) x y l = absurd (omega arith)
transcript_push (u ∷ xs) [] x y l = absurd (omega arith)
transcript_push (u ∷ xs) (v ∷ ys) x y l = ap (λ (t : List Event). event (asked u) (answered v) ∷ t) (transcript_push xs ys x y (omega arith))

-- the first i turns were answered, and the others stand as they were
pub record Upto (m : Scheme) (s : Standing) (before now : List Turn) (i : ℕ) (t : Standing) : Type 0 where
  pub within : i ≤ length before
  pub served : Run m s (transcript (take i before) (take i now)) t
  pub rest : drop i now ≡ drop i before
  pub kept : map given (take i now) ≡ map given (take i before)

pub one_more : (m : Scheme) (s : Standing) (before now : List Turn) (i : ℕ) (t u : Standing) (d y : Turn) → Upto m s before now i t → i < length now → length now ≡ length before →
    Stepped m t (asked (get_or now i d)) (answered y) u → given y ≡ given (get_or now i d) → Upto m s before (set now i y) (i + 1) u
one_more m s before now i t u d y up h l st same =
    let x : Turn = get_or now i d in
    let hb : i < length before = omega arith in
    let e₁ : get_or now (i + 0) d ≡ get_or before (i + 0) d = sym (get_or-drop i now 0 d) ∙ (ap (λ (t : List Turn). get_or t 0 d) up.rest ∙ get_or-drop i before 0 d) in
    let e₂ : get_or now i d ≡ get_or before i d = rw add-zero at e₁ in
    let e₃ : take (i + 1) before ≡ take i before ++ (x ∷ []) = take_more before i d hb ∙ ap (λ (t : Turn). take i before ++ (t ∷ [])) (sym e₂) in
    let e₄ : take (i + 1) (set now i y) ≡ take i now ++ (y ∷ []) = take_more_set now i y h in
    let gb : map given (take (i + 1) before) ≡ map given (take i before) ++ (given x ∷ []) = ap (λ (t : List Turn). map given t) e₃ ∙ map-append given (take i before) (x ∷ []) in
    let gn : map given (take (i + 1) (set now i y)) ≡ map given (take i now) ++ (given y ∷ []) = ap (λ (t : List Turn). map given t) e₄ ∙ map-append given (take i now) (y ∷ []) in
    let ll : length (take i before) ≡ length (take i now) = length-take i before ∙ (ap (λ (n : ℕ). min i n) (sym l) ∙ sym (length-take i now)) in
    let e₅ : transcript (take (i + 1) before) (take (i + 1) (set now i y)) ≡ transcript (take i before) (take i now) ++ (event (asked x) (answered y) ∷ []) =
    ap₂ (λ (a b : List Turn). transcript a b) e₃ e₄ ∙ transcript_push (take i before) (take i now) x y ll in
    record {
      within = omega arith;
      served = subst (λ (es : List Event). Run m s es u) (sym e₅) (run_push m s (transcript (take i before) (take i now)) t u (asked x) (answered y) up.served st);
      kept = gn ∙ (ap₂ (λ (s : List (List (List ℕ))) (z : List (List ℕ)). s ++ (z ∷ [])) up.kept same ∙ sym gb);
      rest = drop-set-lt (i + 1) now i y (omega arith) ∙ (sym (drop-drop 1 i now) ∙ (ap (λ (t : List Turn). drop 1 t) up.rest ∙ drop-drop 1 i before));
    }
