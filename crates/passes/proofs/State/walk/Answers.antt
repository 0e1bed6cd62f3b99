use Rattle.std.proofs.Common.{ℕ, ◌+◌, ◌*◌, ◌/◌, ◌≤◌, refl, ◌∙◌, arith}
use Rattle.std.proofs.lemmas.List.{take_rest}
use Rattle.passes.proofs.Walking.{Walking, walking_more, walking_last}
use Rattle.passes.proofs.State.walk.Goals as goal
use Rattle.passes.proofs.State.walk.Goals.{else-loop-i-test, then-loop-i-test+else-last-i-gt16}

pub loop-i-preserved : goal.loop-i-preserved
loop-i-preserved g c =
    let m = c.mix.ensures in
    let e = c.encipher.ensures in
    walking_more c.loop-i.invariant c.loop-i.auto.text _ _ _ _ _ _ (omega (arith, c.loop-i-test.true)) (e.counter ∙ m.counter) refl m.text
    (rw (m.counter, m.block) at e.block) e.called

-- the loop ends at the last part: before a part, or after one
pub returns : goal.returns
returns g c =
    let r = g.C.Cipher in
    let s = c.args.self.now in
    let last = c.saturating_sub.result / 16 * 16 in
    let t = c.loop-i-test in
    let end : (i : ℕ) × (last ≤ i)
    × Walking (r.answer c.args.cipher.now) c.args.key.now c.args.nonce.now c.args.domain c.args.way s.block c.args.text.now (r.count c.args.cipher.now) (r.answer t.cipher) t.self.counter t.self.block t.text i (r.count t.cipher) =
    elim t.branch [
      | else-loop-i-test w ↦ (c.loop-i.i, w.loop-i-test.false, rw (w.self-is, w.cipher-is, w.text-is) c.loop-i.invariant)
      | then-loop-i-test+else-last-i-gt16 w ↦
          (let i = c.loop-i.i in
          let m = w.mix.ensures in
          let e = w.encipher.ensures in (
            i + 16,
            omega arith,
            rw (w.self-is, w.cipher-is, w.text-is)
                (walking_more c.loop-i.invariant c.loop-i.auto.text _ _ _ _ _ _ (omega (arith, w.loop-i-test.true)) (e.counter ∙ m.counter) refl m.text
                (rw (m.counter, m.block) at e.block) e.called),
          ))
    ] in
    let m = c.mix-2.ensures in
    let a = walking_last end.2 (omega (arith, t.auto.text, c.loop-i.auto.text)) _ _ _ _ last (omega arith) end.1 m.counter (take_rest t.text last) m.text m.block in
    record { block = a.0; text = a.1; counter = a.2; called = a.3 }
