use Rattle.std.proofs.Common.{◌≡◌, ap, ◌∙◌, arith}
use Rattle.byte_blocks.specs.Bytes.{g_of}
use Rattle.cipher.proofs.Calls.{called_then, called_as}
use Rattle.romulus_n.specs.ModeN.{started}
use Rattle.romulus_n.proofs.pass.Goals as goal

pub returns : goal.returns
unfolding started
returns g c =
    let s = c.new-state.ensures in
    let a = c.absorb.ensures in
    let e = c.encipher.ensures in
    let w = c.walk.ensures in
    let t = c.encipher-2.ensures in
    let st : c.encipher.new.self.block ≡ started (g.C.Cipher.answer c.args.cipher.now) c.args.key.now c.args.nonce.now c.args.ad.now =
    rw (c.if_short-data_end.ensures, a.counter, a.block, a.called.same, s.counter, s.block) at e.block in
    record {
      text = rw (st, e.called.same, a.called.same) at w.text;
      tag = c.g_block.ensures ∙ ap g_of (rw (c.if_short-text_end.ensures, w.counter, w.block, w.called.same, st, e.called.same, a.called.same) at t.block);
      called = called_as _ (omega arith) (called_then (called_then (called_then a.called e.called) w.called) t.called);
    }
