use Rattle.std.proofs.Common.{◌++◌, take, ap, ◌∙◌, arith}
use Rattle.hex_lines.proofs.Fills.{extend_fits, extend_zeros}
use Rattle.hex_lines.proofs.buffer.Buffer.extend.Goals as goal

pub invariant_of-self : goal.invariant_of-self
invariant_of-self g c =
    let b = c.self.inside in (
      omega arith,
      extend_zeros g.row.ROOM b.bytes b.len (omega arith) c.self.invariant.0 c.self.invariant.1 c.min-n.result _ c.args.more.now _ (omega arith) (omega arith) c.copy_from_slice.ensures.after,
    )

pub returns : goal.returns
returns g c =
    let b = c.self.inside in
    extend_fits g.row.ROOM b.bytes b.len (omega arith) c.self.invariant.0 c.self.invariant.1 c.min-n.result _ c.args.more.now _ (omega arith) (omega arith) c.copy_from_slice.ensures.after
    ∙ ap (λ l. take g.row.ROOM (l ++ c.args.more.now)) c.self.view_is
