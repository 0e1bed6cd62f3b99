use Rattle.std.proofs.Common.{◌≡◌, length, rules}
use Rattle.cipher.proofs.Calls.{called_then}
use Rattle.romulus_t.proofs.Tags.{length_input, tag_from}
use Rattle.romulus_t.proofs.make_tag.Goals as goal

pub returns : goal.returns
returns g c =
    let n = c.args.nonce.now in
    let ad = c.args.ad.now in
    let text = c.args.text.now in
    let d = c.tag_digest.ensures in
    let e = c.encipher.ensures in
    let h : length c.tag_digest.result.left ≡ 16 = search rules in
    record {
      tag = tag_from (g.C.Cipher.answer c.args.cipher.now) c.args.key.now n ad text _ _ _ h d.digest (rw d.called.same at e.state);
      called = called_then (rw (length_input n ad text c.told-nonce) at d.called) e.called;
    }
