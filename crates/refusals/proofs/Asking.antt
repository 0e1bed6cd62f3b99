-- Questions asked in two lots.
use Rattle.std.proofs.Common.{◌≡◌, true, false, List, [], ◌∷◌, ◌++◌, Some, None, refl}
use Rattle.refusals.specs.declared.Refusal.{Refusal}
use Rattle.refusals.specs.Refusals.{Question, ask, first_no}

-- the first lot refuses
pub first_no_early : (xs ys : List Question) (r : Refusal) → first_no xs ≡ Some r → first_no (xs ++ ys) ≡ Some r
first_no_early [] ys r e = cc
first_no_early (ask q true ∷ xs) ys r e = first_no_early xs ys r e
first_no_early (ask q false ∷ xs) ys r e = e

-- the first lot is answered yes throughout
pub first_no_later : (xs ys : List Question) → first_no xs ≡ None → first_no (xs ++ ys) ≡ first_no ys
first_no_later [] ys e = refl
first_no_later (ask q true ∷ xs) ys e = first_no_later xs ys e
first_no_later (ask q false ∷ xs) ys e = cc
