use Rattle.std.proofs.Common.{arith}
use Rattle.hex_lines.proofs.Fills.{push_zeros}
use Rattle.hex_lines.proofs.buffer.Buffer.push.Goals as goal

pub invariant_of-self : goal.invariant_of-self
invariant_of-self g c =
    let b = c.self.inside in
    (omega arith, push_zeros g.row.ROOM b.bytes b.len (omega arith) c.self.invariant.0 c.self.invariant.1 c.args.byte (omega arith))
