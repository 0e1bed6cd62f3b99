-- What is waiting, measured and taken.
use Rattle.std.proofs.Common.{◌≡◌, ℕ, ◌+◌, ◌-◌, ◌≤◌, min, Option, position, unwrap_or, eqb, List, ◌++◌, length, take, drop, replicate, sym, ap, ◌∙◌, ⊎_elim, arith, length-drop, length-take}
use borrow.Rule.Slice.PartMut.{put_mid, mid_of}
use Rattle.std.proofs.lemmas.List.{drop_all, drop-drop, drop-take, length-replicate, replicate-append-replicate}
use Rattle.std.proofs.lemmas.Slice.{take-put_mid, drop-put_mid}
use Rattle.std.proofs.lemmas.Bool.{cond-true, cond-false, lt-ltb, le-ltb, cases_lt}
use Rattle.std.specs.List.{position_or_len}
use Rattle.romulus.specs.Reading.{first_line}

-- the place of the newline, or the end
pub line_place : (bytes : List ℕ) (o : Option ℕ) (r : ℕ) → o ≡ position (λ c. eqb c 0x0a) bytes → r ≡ unwrap_or o (length bytes) → r ≡ length (first_line bytes)
line_place bytes o r e f =
    let n = position_or_len (λ c. eqb c 0x0a) bytes in
    ⊎_elim
    (λ h. f ∙ ap (λ x. unwrap_or x (length bytes)) (e ∙ cond-true _ _ _ (lt-ltb n (length bytes) h)) ∙ omega (arith, length-take n bytes))
    (λ h. f ∙ ap (λ x. unwrap_or x (length bytes)) (e ∙ cond-false _ _ _ (le-ltb n (length bytes) h)) ∙ omega (arith, length-take n bytes))
    (cases_lt n (length bytes))

pub part_cleared : (bytes zs : List ℕ) (at k : ℕ) → at + k ≤ length bytes → zs ≡ replicate (length (mid_of at (at + k - at) bytes)) 0 → zs ≡ replicate k 0
part_cleared bytes zs at k h e = e ∙ ap (λ n. replicate n 0) (omega (arith, length-take (at + k - at) (drop at bytes), length-drop at bytes))

module _ (bytes zs : List ℕ) (at end : ℕ) (h : at ≤ end) (within : end ≤ length bytes) where
  -- what was cleared joins what was cleared before
  pub cleared_more : (k : ℕ) → k ≤ end - at → zs ≡ replicate k 0 → take at bytes ≡ replicate at 0 → take (at + k) (put_mid at (at + k - at) bytes zs) ≡ replicate (at + k) 0
  cleared_more k few e f =
      let long : length zs ≡ k = ap length e ∙ length-replicate k 0 in
      take-put_mid at (at + k - at) bytes zs (at + k) (omega arith) (omega arith) ∙ ap (λ l. l ++ zs) f ∙ ap (λ l. replicate at 0 ++ l) e ∙ replicate-append-replicate at k 0

  -- and the rest goes on waiting
  pub waiting_less : (n k : ℕ) → k ≡ min n (end - at) → length zs ≡ k → take (end - (at + k)) (drop (at + k) (put_mid at (at + k - at) bytes zs)) ≡ drop n (take (end - at) (drop at bytes))
  waiting_less n k e long =
      let rest = ap (take (end - (at + k))) (drop-put_mid at (at + k - at) bytes zs (at + k) (omega arith) (omega arith) (omega arith)) in
      rest ∙ ⊎_elim
      (λ lt.
      let none : end - (at + k) ≡ 0 = omega arith in
      ap (λ j. take j (drop (at + k) bytes)) none ∙ sym (drop_all n (take (end - at) (drop at bytes)) (omega (arith, length-take (end - at) (drop at bytes)))))
      (λ le.
      let same : k ≡ n = omega arith in
      let split : n + (end - (at + k)) ≡ end - at = omega arith in
      ap (λ j. take (end - (at + k)) (drop (at + j) bytes)) same ∙ ap (take (end - (at + k))) (sym (drop-drop n at bytes)) ∙ sym (drop-take n (end - (at + k)) (drop at bytes))
      ∙ ap (λ j. drop n (take j (drop at bytes))) split)
      (cases_lt (end - at) n)

  -- what lies behind stays as it was
  pub rest_kept : (k : ℕ) → k ≤ end - at → length zs ≡ k → drop end (put_mid at (at + k - at) bytes zs) ≡ drop end bytes
  rest_kept k few long = drop-put_mid at (at + k - at) bytes zs end (omega arith) (omega arith) (omega arith)
