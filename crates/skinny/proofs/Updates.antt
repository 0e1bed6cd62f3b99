-- Four updates of the tweakey, without the permutation between them.
use Rattle.std.proofs.Common.{◌≡◌, ℕ, suc, ◌+◌, List, [], ◌∷◌, ◌++◌, map, length, take, sym, refl, ap, ◌∙◌, subst, map-id, arith}
use lib.Bits.{bit_xor}
use lib.Lanes.{zip2, pick_l}
use Rattle.skinny.specs.Skinny.{cell, block, permuted, lfsr2, lfsr3, on_upper, updated, tk1, tk2, tk3, round_tweakey}
use Rattle.skinny.specs.Schedule.{InRound, four_tweakeys}
use Rattle.skinny.specs.declared.tweakey.Thirds.{Thirds}
use Rattle.skinny.proofs.Cells.{by_cells}

-- ---- of one third, with the LFSR f

-- the permutation, four times
abbrev pub permuted_four : List ℕ → List ℕ
permuted_four t = permuted (permuted (permuted (permuted t)))

-- one update
abbrev up : (ℕ → ℕ) → List ℕ → List ℕ
up f t = on_upper f (permuted t)

-- four updates step each cell twice, and permute the cells four times
four_updates : (f : ℕ → ℕ) (t : List ℕ) → length t ≡ 16 → permuted_four (map f (map f t)) ≡ up f (up f (up f (up f t)))
unfolding permuted on_upper
four_updates f t long =
    subst (λ (u : List ℕ). permuted_four (map f (map f u)) ≡ up f (up f (up f (up f u)))) (by_cells t long) refl

-- so the third of round n leads to that of round n + 4
updated_four : (f : ℕ → ℕ) (t₀ t : List ℕ) (n : ℕ) → length t ≡ 16 → t ≡ updated f t₀ n
    → permuted_four (map f (map f t)) ≡ updated f t₀ (n + 4)
unfolding updated
updated_four f t₀ t n long e =
    let m : n + 4 ≡ suc (suc (suc (suc n))) = omega arith in
    four_updates f t long ∙ ap (λ (u : List ℕ). up f (up f (up f (up f u)))) e ∙ sym (ap (updated f t₀) m)

-- ---- of all three

-- TK1 ⊕ TK2 ⊕ TK3, lane by lane
abbrev pub sum : List ℕ → List ℕ → List ℕ → List ℕ
sum a b c = zip2 bit_xor (zip2 bit_xor a b) c

-- the lanes at these places
abbrev pub picked : List ℕ → List ℕ → List ℕ
picked places t = pick_l 0 (t ++ t) places

-- the sum in the upper two rows
abbrev upper : List ℕ → List ℕ → List ℕ → List ℕ
upper a b c = take 8 (block (λ i. bit_xor (bit_xor (cell a i) (cell b i)) (cell c i)))

-- what four rounds take from the three thirds, by the definition
abbrev Taken : List ℕ → List ℕ → List ℕ → List (List ℕ)
Taken a b c =
    let a' = up (λ x. x) a in let b' = up lfsr2 b in let c' = up lfsr3 c in
    let a'' = up (λ x. x) a' in let b'' = up lfsr2 b' in let c'' = up lfsr3 c' in
    upper a b c ∷ upper a' b' c' ∷ upper a'' b'' c'' ∷ upper (up (λ x. x) a'') (up lfsr2 b'') (up lfsr3 c'') ∷ []

-- the same by places in the sums, where the cells were stepped and not permuted
abbrev pub Picked : List ℕ → List ℕ → List ℕ → List (List ℕ)
Picked a b c =
    let b₁ = map lfsr2 b in let c₁ = map lfsr3 c in
    picked (0 ∷ 1 ∷ 2 ∷ 3 ∷ 4 ∷ 5 ∷ 6 ∷ 7 ∷ []) (sum a b c)
    ∷ picked (9 ∷ 15 ∷ 8 ∷ 13 ∷ 10 ∷ 14 ∷ 12 ∷ 11 ∷ []) (sum a b₁ c₁)
    ∷ picked (1 ∷ 7 ∷ 0 ∷ 5 ∷ 2 ∷ 6 ∷ 4 ∷ 3 ∷ []) (sum a b₁ c₁)
    ∷ picked (15 ∷ 11 ∷ 9 ∷ 14 ∷ 8 ∷ 12 ∷ 10 ∷ 13 ∷ []) (sum a (map lfsr2 b₁) (map lfsr3 c₁))
    ∷ []

-- both are the same
picks : (a b c : List ℕ) → length a ≡ 16 → length b ≡ 16 → length c ≡ 16 → Picked a b c ≡ Taken a b c
unfolding permuted on_upper
picks a b c p q r =
    subst (λ (t : List ℕ). Picked t b c ≡ Taken t b c) (by_cells a p)
    (subst (λ (t : List ℕ). Picked (block (cell a)) t c ≡ Taken (block (cell a)) t c) (by_cells b q)
    (subst (λ (t : List ℕ). Picked (block (cell a)) (block (cell b)) t ≡ Taken (block (cell a)) (block (cell b)) t) (by_cells c r) refl))

-- the round tweakeys are what four rounds take
takes : (T : List ℕ) (n : ℕ) → Taken (tk1 T n) (tk2 T n) (tk3 T n) ≡ four_tweakeys T n
unfolding round_tweakey tk1 tk2 tk3 updated
takes T n =
    let e₁ : suc n ≡ n + 1 = omega arith in
    let e₂ : suc (suc n) ≡ n + 2 = omega arith in
    let e₃ : suc (suc (suc n)) ≡ n + 3 = omega arith in
    λ j. round_tweakey T n ∷ round_tweakey T (e₁ j) ∷ round_tweakey T (e₂ j) ∷ round_tweakey T (e₃ j) ∷ []

-- in round n, what stands at the places are the round tweakeys of four rounds
pub four_picked : (T : List ℕ) (n : ℕ) (t : Thirds) → InRound T n t → length t.first ≡ 16 → length t.second ≡ 16 → length t.third ≡ 16
    → Picked t.first t.second t.third ≡ four_tweakeys T n
four_picked T n t i p q r =
    picks t.first t.second t.third p q r ∙ (λ j. Taken (i.first j) (i.second j) (i.third j)) ∙ takes T n

-- in round n, thirds stepped twice and permuted four times are those of round n + 4
pub four_on : (T : List ℕ) (n : ℕ) (t t' : Thirds) → InRound T n t → length t.first ≡ 16 → length t.second ≡ 16 → length t.third ≡ 16
    → t'.first ≡ permuted_four t.first
    → t'.second ≡ permuted_four (map lfsr2 (map lfsr2 t.second))
    → t'.third ≡ permuted_four (map lfsr3 (map lfsr3 t.third))
    → InRound T (n + 4) t'
unfolding tk1 tk2 tk3
four_on T n t t' i p q r e₁ e₂ e₃ =
    let same : t.first ≡ map (λ x. x) (map (λ x. x) t.first) = sym (map-id (map (λ x. x) t.first) ∙ map-id t.first) in
    record {
      first = e₁ ∙ ap permuted_four same ∙ updated_four (λ x. x) _ t.first n p i.first;
      second = e₂ ∙ updated_four lfsr2 _ t.second n q i.second;
      third = e₃ ∙ updated_four lfsr3 _ t.third n r i.third;
    }
