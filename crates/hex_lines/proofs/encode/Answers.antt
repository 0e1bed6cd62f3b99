use Rattle.std.proofs.Common.{arith}
use Rattle.hex_lines.proofs.Spelling.{write_more}
use Rattle.hex_lines.proofs.ReadingBack.{read_back}
use Rattle.hex_lines.proofs.encode.Goals as goal

pub loop-byte-preserved : goal.loop-byte-preserved
loop-byte-preserved g c =
    write_more g.row.ROOM c.args.text.now c.args.bytes.now c.loop-byte.byte-index (omega arith) c.loop-byte.invariant c.small_digit.ensures c.small_digit-in-loop-byte.ensures c.push.ensures c.push-in-loop-byte.ensures

pub returns-clause-back : goal.returns-clause-back
returns-clause-back g c = read_back c.args.bytes.now (λ i. let f = c.type_inv.bytes i in omega arith)
