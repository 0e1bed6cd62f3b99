-- Two functions that compute to the same values at 0 to n - 1 are equal at each of those numbers.
use Rattle.std.proofs.Common.{◌≡◌, ℕ, ◌<◌, List, map, get_or, sym, ap, ◌∙◌, zero-add}
use Rattle.std.specs.List.{range_with_len}
use Rattle.std.proofs.lemmas.List.FromFn.{get_or-map-range_with_len}

pub at_each : (f g : ℕ → ℕ) (n : ℕ) → map f (range_with_len 0 n) ≡ map g (range_with_len 0 n) → (k : ℕ) → k < n → f k ≡ g k
at_each f g n e k h =
    sym (get_or-map-range_with_len f 0 n k k 0 h (zero-add k)) ∙ ap (λ (l : List ℕ). get_or l k 0) e
    ∙ get_or-map-range_with_len g 0 n k k 0 h (zero-add k)
