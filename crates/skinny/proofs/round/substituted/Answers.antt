use Rattle.std.proofs.Common.{◌≡◌, ℕ, List, map, refl, ◌∙◌, subst, rules}
use Rattle.std.proofs.lemmas.List.Edits.{map_over_more}
use Rattle.std.proofs.lemmas.List.{append-nil, drop_all, take_all}
use Rattle.skinny.specs.Skinny.{s8, sub_cells}
use Rattle.skinny.proofs.Cells.{by_cells}
use Rattle.skinny.proofs.round.substituted.Goals as goal

pub loop-x-preserved : goal.loop-x-preserved
loop-x-preserved c = search (rules, map_over_more s8)

pub returns : goal.returns
unfolding sub_cells
returns c =
    let all : c.loop-x.x-items ≡ map s8 c.args.s.now = search (rules, take_all, drop_all, append-nil) in
    all ∙ subst (λ (s : List ℕ). map s8 s ≡ sub_cells s) (by_cells c.args.s.now c.told-s) refl
