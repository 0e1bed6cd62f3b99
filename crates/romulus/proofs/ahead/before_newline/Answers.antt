use Rattle.romulus.proofs.Waiting.{line_place}
use Rattle.romulus.proofs.ahead.before_newline.Goals as goal

pub returns-clause-place : goal.returns-clause-place
returns-clause-place c = line_place c.args.bytes.now c.find_newline.result c.unwrap_or.result c.find_newline.ensures c.unwrap_or.ensures
