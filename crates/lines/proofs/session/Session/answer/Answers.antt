use Rattle.std.proofs.Common.{rules}
use Rattle.lines.specs.Sessions.{Answers}
use Rattle.lines.proofs.Lawfulness.{lawful}
use Rattle.lines.proofs.session.Session.answer.Goals as goal

pub returns-clause-lawful : goal.returns-clause-lawful
returns-clause-lawful c =
    let s = c.args.self.now.held in
    let line = c.args.line.now in
    let answers : Answers s line c.write_answer.result = search rules in
    lawful s line c.write_answer.result c.reply_and_clear.new.self.held answers c.reply_and_clear.ensures.replied.held
