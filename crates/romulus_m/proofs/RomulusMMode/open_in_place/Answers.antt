use Rattle.std.proofs.Common.{◌≡◌, length, arith}
use Rattle.cipher.proofs.Calls.{called_then, called_as}
use Rattle.mode.proofs.Judging.{judged_opened}
use Rattle.mode.proofs.Verdicts.{cond_same}
use Rattle.passes.proofs.Found.{found, sealed_again, found_again, length_found}
use Rattle.romulus_m.specs.ModeM.{seeded, tag_of, m_cost, m_scheme}
use Rattle.romulus_m.proofs.RomulusMMode.open_in_place.Goals as goal

pub returns : goal.returns
returns g c =
    let f = g.C.Cipher.answer c.args.cipher.now in
    let k = c.args.key.now in
    let n = c.args.nonce.now in
    let ad = c.args.ad.now in
    let ct = c.args.text.now in
    let t = c.args.tag.now in
    let p = c.pass.ensures in
    let a = c.authenticate-made.ensures in
    let e = c.settle.ensures in
    let s = seeded f k n in
    let tag = tag_of f k n ad in
    let m = found f k n 36 s tag ct t in
    let long : length c.pass.new.text ≡ length ct = omega arith in
    let text : c.pass.new.text ≡ m = p.text in
    let made : c.authenticate-made.result ≡ tag m = rw (p.called.same, text) at a.tag in
    record {
      opened =
          judged_opened m_scheme f k n ad (found f k n 36 s tag) (sealed_again f k n 36 s tag) (found_again f k n 36 s tag) ct t c.settle.new.text c.settle.result
          (length_found f k n 36 s tag ct t) (rw made at e.verdict) (rw text at e.text);
      called = called_as _ (omega (arith, cond_same c.settle.result (m_cost (length ad) (length ct)))) (called_then p.called (rw long at a.called));
    }
