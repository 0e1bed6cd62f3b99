-- The laws of whole runs.
use Rattle.std.proofs.Common.{◌≡◌, ℕ, List, [], ◌∷◌, ◌++◌, sym, refl, ap, subst, arith}
use Rattle.lines.specs.declared.session.Held.{Held}
use Rattle.lines.specs.Sessions.{line_order, held_after, Answers}
use Rattle.lines.specs.Laws.{Refused, Exchange, lines_of, Run, RunLaws}
use Rattle.lines.proofs.Lawfulness.{one_answer, refused_keeps}

none_some : {line : List ℕ} {rest : List (List ℕ)} → ◌≡◌ {A = List (List ℕ)} [] (line ∷ rest) → ⊥
none_some p = let z : ◌≡◌ {A = ℕ} 0 1 = cc in omega arith

settled : (s : Held) (es es' : List Exchange) (t t' : Held) → Run s es t → Run s es' t' → lines_of es ≡ lines_of es' → es ≡ es'
settled s [] [] t t' r r' p = refl
settled s [] (e ∷ es) t t' r r' p = absurd (none_some p)
settled s (e ∷ es) [] t t' r r' p = absurd (none_some (sym p))
settled s (e ∷ es) (e' ∷ es') t t' r r' p =
    let line : e.0 ≡ e'.0 = cc in
    let lines : lines_of es ≡ lines_of es' = cc in
    let text : e.1 ≡ e'.1 = one_answer s e'.0 e'.1 e.1 r'.0 (subst (λ (l : List ℕ). Answers s l e.1) line r.0) in
    let later : es ≡ es' = settled (held_after s (line_order s e'.0)) es es' t t' (subst (λ (l : List ℕ). Run (held_after s (line_order s l)) es t) line r.1) r'.1 lines in
    let first : ◌≡◌ {A = Exchange} (e.0, e.1) (e'.0, e'.1) = cc in
    let whole : ◌≡◌ {A = List Exchange} ((e.0, e.1) ∷ es) ((e'.0, e'.1) ∷ es') = cc in
    whole

struck_out : (s : Held) (before later : List Exchange) (line text : List ℕ) (t : Held) → Refused text → Run s (before ++ (line, text) ∷ later) t → Run s (before ++ later) t
struck_out s [] later line text t refused r = subst (λ (x : Held). Run x later t) (refused_keeps s line text r.0 refused) r.1
struck_out s (e ∷ before) later line text t refused r = (r.0, struck_out (held_after s (line_order s e.0)) before later line text t refused r.1)

same_behind : (before later later' : List Exchange) → before ++ later ≡ before ++ later' → later ≡ later'
same_behind [] later later' p = p
same_behind (e ∷ before) later later' p = let q : before ++ later ≡ before ++ later' = cc in same_behind before later later' q

lines_behind : (before later later' : List Exchange) → lines_of later ≡ lines_of later' → lines_of (before ++ later) ≡ lines_of (before ++ later')
lines_behind [] later later' p = p
lines_behind (e ∷ before) later later' p = ap (λ ls. e.0 ∷ ls) (lines_behind before later later' p)

pub run_laws : (s : Held) → RunLaws s
run_laws s =
    record {
      settled = settled s;
      struck_out = struck_out s;
      forgotten = λ before later later' line line' text text' t t' refused refused' r r' same.
          same_behind before later later'
          (settled s (before ++ later) (before ++ later') t t' (struck_out s before later line text t refused r) (struck_out s before later' line' text' t' refused' r')
          (lines_behind before later later' same));
    }
