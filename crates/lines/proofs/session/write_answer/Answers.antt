use Rattle.std.proofs.Common.{sym, ap, ◌∙◌, arith}
use Rattle.lines.specs.Sessions.{written}
use Rattle.lines.proofs.Answering.{result_written}
use Rattle.lines.proofs.session.write_answer.Goals as goal

pub returns-in-Ok-clause-text : goal.returns-in-Ok-clause-text
returns-in-Ok-clause-text c =
    let result = c.as_slice.result.now in
    result_written 8226 result (omega (arith, c.as_slice.ensures.fits)) c.new-text.ensures c.encode.ensures.digits c.encode-in-Ok.ensures.digits ∙ rw c.as_slice.ensures.held (ap written (sym c.in-Ok.is))
