use Rattle.std.proofs.Common.{arith}
use Rattle.lines.proofs.Sealing.{put_together_lem}
use Rattle.lines.proofs.frame.Sealed.frame.Goals as goal

pub returns : goal.returns
returns c =
    let s = c.args.self.now in
    put_together_lem 4112 c.args.variant s.parts.nonce s.parts.ad.now s.parts.text.now s.tag (omega arith) (omega arith) (omega arith) c.letter.ensures c.two_bytes.ensures c.new-frame.ensures
    c.push.ensures c.extend.ensures c.extend-2.ensures c.extend-3.ensures c.extend-4.ensures c.extend-5.ensures
