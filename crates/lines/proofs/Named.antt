-- Bytes that a pattern names one by one, as a part of the text.
use Rattle.std.proofs.Common.{◌≡◌, ℕ, zero, suc, ◌+◌, ◌<◌, ◌≤◌, List, [], ◌∷◌, length, get_or, take, drop, sym, refl, ap, ◌∙◌, arith, drop-cons}

-- n bytes from place i on, one by one
abbrev pub named : (n i : ℕ) → List ℕ → List ℕ
named zero i text = []
named (suc n) i text = get_or text i 0 ∷ named n (suc i) text

pub named_is : (n i : ℕ) (text : List ℕ) → i + n ≤ length text → named n i text ≡ take n (drop i text)
named_is zero i text h = refl
named_is (suc n) i text h =
    let here : i < length text = omega arith in
    ap (λ l. get_or text i 0 ∷ l) (named_is n (suc i) text (omega arith)) ∙ sym (ap (take (suc n)) (drop-cons text i 0 here))
