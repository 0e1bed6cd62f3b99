use Rattle.std.proofs.Common.{◌≡◌, rules, ◌∙◌, sym}
use Rattle.std.proofs.lemmas.Iterator.{YieldsList-from_slice, YieldsList-from_zip}
use Rattle.std.proofs.lemmas.Iterator.Consumers.{fold_from_yields_List}
use Rattle.byte_blocks.proofs.Leaves.{differing, differ, decided}
use Rattle.byte_blocks.proofs.equal.Goals as goal

pub returns : goal.returns
returns c =
    let seen : c.fold.result ≡ differ 0 c.args.a.now c.args.b.now =
    fold_from_yields_List _ differing 0 c.fold.result c.fold.ensures.ran (YieldsList-from_zip (YieldsList-from_slice c.args.a.now cc) (YieldsList-from_slice c.args.b.now cc)) (λ d p e q k. search rules) in
    rw seen (decided c.args.a.now c.args.b.now (c.told-a ∙ sym c.told-b))
