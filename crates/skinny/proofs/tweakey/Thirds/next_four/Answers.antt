use Rattle.std.proofs.Common.{rules}
use Rattle.skinny.proofs.Updates.{four_on}
use Rattle.skinny.proofs.tweakey.Thirds.next_four.Goals as goal

pub returns-clause-next : goal.returns-clause-next
returns-clause-next c T n i = four_on T n c.args.self _ i (search rules) (search rules) (search rules) (cc) (cc) (cc)
