-- Lists without repeats: one element more or less, and the image of a list.
use Rattle.std.proofs.Common.{◌≡◌, zero, suc, ◌<◌, List, ◌∷◌, length, map, sym, ap, ◌∙◌, arith}
use Rattle.std.specs.List.{AllByRecursion, Contains}
use Rattle.std.proofs.ByRecursion.{All-get_or}
use Rattle.std.proofs.lemmas.List.{get_or-map, get_or_default, length-map}
use Rattle.nonces.specs.Nonces.{NoRepeats}

pub rest_apart : {X : Type 0} (x : X) (xs : List X) → NoRepeats (x ∷ xs) → NoRepeats xs
rest_apart x xs n i j (h, l) d e = n (suc i) (suc j) (omega arith, omega arith) d e

pub more_apart : {X : Type 0} (x : X) (xs : List X) → ¬ Contains xs x → NoRepeats xs → NoRepeats (x ∷ xs)
more_apart x xs a n i zero (h, l) d e = omega arith
more_apart x xs a n zero (suc j) (h, l) d e = a (j, omega arith, get_or_default xs j x d (omega arith) ∙ sym e)
more_apart x xs a n (suc i) (suc j) (h, l) d e = n i j (omega arith, omega arith) d e

pub again : {X : Type 0} (x : X) (xs : List X) → Contains xs x → ¬ NoRepeats (x ∷ xs)
again x xs (k, h, e) n = n 0 (suc k) (omega arith, omega arith) x (sym e)

-- where f tells apart what stands on a list, its image repeats exactly where the list does
pub map_apart : {X Y : Type 0} (f : X → Y) (P : X → Type 0) (x : X) (xs : List X) → AllByRecursion P xs → ((a b : X) → P a → P b → f a ≡ f b → a ≡ b) → NoRepeats xs → NoRepeats (map f xs)
map_apart f P x xs all same n i j (h, l) d e =
    let k : j < length xs = omega (arith, length-map xs f) in
    n i j (h, k) x
    (same _ _ (All-get_or P xs i x (omega arith) all) (All-get_or P xs j x k all) (sym (get_or-map f xs i x d (omega arith)) ∙ e ∙ get_or-map f xs j x d k))

pub unmap_apart : {X Y : Type 0} (f : X → Y) (xs : List X) → NoRepeats (map f xs) → NoRepeats xs
unmap_apart f xs n i j (h, l) d e =
    n i j (h, omega (arith, length-map xs f)) (f d) (get_or-map f xs i d (f d) (omega arith) ∙ ap f e ∙ sym (get_or-map f xs j d (f d) l))
