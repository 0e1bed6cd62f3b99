use Rattle.lines.specs.Laws.{at_first}
use Rattle.lines.proofs.Running.{run_laws}
use Rattle.lines.proofs.session.Session.new.Goals as goal

pub returns-clause-runs : goal.returns-clause-runs
returns-clause-runs c = run_laws at_first
