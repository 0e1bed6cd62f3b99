use Rattle.std.proofs.Common.{◌≡◌, ℕ, List, [], ◌∷◌, ◌++◌, refl, subst}
use lib.Lanes.{pick_l}
use Rattle.skinny.specs.Skinny.{permuted}
use Rattle.skinny.proofs.Cells.{by_cells}
use Rattle.skinny.proofs.tweakey.permuted_four.Goals as goal

pub returns : goal.returns
unfolding permuted
returns c =
    subst (λ (t : List ℕ). pick_l 0 (t ++ t) (7 ∷ 3 ∷ 1 ∷ 6 ∷ 0 ∷ 4 ∷ 2 ∷ 5 ∷ 15 ∷ 11 ∷ 9 ∷ 14 ∷ 8 ∷ 12 ∷ 10 ∷ 13 ∷ []) ≡ permuted (permuted (permuted (permuted t))))
    (by_cells c.args.t c.fits-t.0) refl
