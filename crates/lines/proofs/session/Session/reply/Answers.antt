use Rattle.lines.specs.Requests.{meaning}
use Rattle.lines.proofs.Asking.{asked_frame}
use Rattle.lines.proofs.session.Session.reply.Goals as goal

pub serve-requires : goal.serve-requires
serve-requires c =
    (asked_frame c.args.self.now.held.key c.as_slice.result.now (meaning c.in_ok-request.request) c.as_slice.ensures.fits c.in_ok-request.ensures).small
