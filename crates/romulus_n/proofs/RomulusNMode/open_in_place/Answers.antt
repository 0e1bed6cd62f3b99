use Rattle.std.proofs.Common.{sym, ◌∙◌}
use Rattle.mode.proofs.Judging.{judged_opened}
use Rattle.passes.proofs.Found.{found, sealed_again, found_again, length_found}
use Rattle.romulus_n.specs.ModeN.{tag_of, n_scheme}
use Rattle.romulus_n.specs.Laws.{seed, tag_found}
use Rattle.romulus_n.proofs.RomulusNMode.open_in_place.Goals as goal

pub returns-clause-opened : goal.returns-clause-opened
returns-clause-opened g c =
    let f = g.C.Cipher.answer c.args.cipher.now in
    let k = c.args.key.now in
    let n = c.args.nonce.now in
    let ad = c.args.ad.now in
    let ct = c.args.text.now in
    let t = c.args.tag.now in
    let p = c.pass-made.ensures in
    let e = c.settle.ensures in
    let s = seed f k n ad in
    let tag = tag_of f k n ad in
    judged_opened n_scheme f k n ad (found f k n 4 s tag) (sealed_again f k n 4 s tag) (found_again f k n 4 s tag) ct t c.settle.new.text c.settle.result
    (length_found f k n 4 s tag ct t) (rw (p.tag ∙ sym (tag_found f k n ad ct t)) at e.verdict) (rw p.text at e.text)
