use Rattle.std.proofs.Common.{◌≡◌, ℕ, ◌+◌, ◌-◌, ◌*◌, ◌/◌, ◌≤◌, length, sym, refl, arith, rules}
use Rattle.std.proofs.lemmas.List.{take_rest}
use Rattle.cipher.proofs.Calls.{called_none, called_then, called_as}
use Rattle.romulus_t.specs.ModeT.{ciphertext_of}
use Rattle.romulus_t.specs.Streams.{Covering, covering_none, covering_more, covering_last, covered_none, covered_back}
use Rattle.romulus_t.proofs.cover.Goals as goal
use Rattle.romulus_t.proofs.cover.Goals.{else-loop-i-test, then-loop-i-test+else-last-i-gt16}

pub loop-i-init : goal.loop-i-init
loop-i-init g c = covering_none _ _ _ _ _ _ (g.met.C.Cipher.bounded _) (search rules) c.start-stream.ensures.counter

pub loop-i-preserved : goal.loop-i-preserved
loop-i-preserved g c =
    let p = c.cover.ensures in
    let a = c.advance.ensures in
    covering_more (g.met.C.Cipher.sixteen _) c.loop-i.invariant _ _ _ _ (omega (arith, c.loop-i-test.true, c.loop-i.auto.text)) a.counter refl p.part p.called a.key a.called

-- the loop ends at the last part: before a part, or after one
pub returns : goal.returns
unfolding ciphertext_of
returns g c =
    let r = g.C.Cipher in
    let first = c.start-stream.ensures in
    let s = c.start-stream.result in
    let last = (length c.args.text.now - 1) / 16 * 16 in
    let t = c.loop-i-test in
    let end : (i : ℕ) × (last ≤ i)
    × Covering (r.answer c.start-stream.new.cipher) (r.count c.start-stream.new.cipher) c.args.nonce.now s.block_key c.args.text.now (r.answer t.cipher) (r.count t.cipher) t.stream.counter t.stream.block_key t.text i =
    elim t.branch [
      | else-loop-i-test w ↦ (c.loop-i.i, w.loop-i-test.false, rw (w.stream-is, w.cipher-is, w.text-is) c.loop-i.invariant)
      | then-loop-i-test+else-last-i-gt16 w ↦
          (let i = c.loop-i.i in
          let p = w.cover.ensures in
          let a = w.advance.ensures in (
            i + 16,
            omega arith,
            rw (w.stream-is, w.cipher-is, w.text-is)
                (covering_more (g.met.C.Cipher.sixteen _) c.loop-i.invariant _ _ _ _ (omega (arith, w.loop-i-test.true, c.loop-i.auto.text)) a.counter refl p.part p.called a.key a.called),
          ))
    ] in
    let p = c.cover-2.ensures in
    let a = covering_last (g.met.C.Cipher.sixteen _) end.2 _ _ last (omega (arith, t.auto.text, c.loop-i.auto.text)) end.1 (take_rest t.text last) p.part p.called in
    let text = rw (first.key, first.called.same) at a.0 in
    record { text = text; back = covered_back _ _ _ _ _ text; called = called_as _ (omega (arith, end.2.within, end.2.long)) (called_then first.called a.1) }

pub returns-then-is_empty : goal.returns-then-is_empty
returns-then-is_empty g c =
    let none : length c.args.text.now ≡ 0 = search rules in
    record {
      text = covered_none _ _ _ c.args.text.now none;
      back = sym (covered_none _ _ _ c.args.text.now none);
      called = called_as _ (omega arith) (called_none _ _ (g.met.C.Cipher.bounded _));
    }
