use Rattle.std.proofs.Common.{◌≡◌, ◌<◌, length, ◌∙◌, ap, rules}
use Rattle.byte_blocks.specs.Counter.{stepped}
use Rattle.passes.proofs.Absorbing.{absorbing_some, absorbing_empty, absorbing_two, absorbing_one, absorbing_end}
use Rattle.passes.proofs.State.absorb.Goals as goal
use Rattle.passes.proofs.State.absorb.Goals.{then-is_empty, else-is_empty}

pub loop-pair-init : goal.loop-pair-init
loop-pair-init g c =
    let start = c.chunks-pair-items.ensures in
    let at = c.into_iter-pair-iterator.ensures.into_iter_gives in
    let text = c.args.text.now in
    let fits = g.met.C.Cipher.bounded c.args.cipher.now in (
      rw at start.size,
      rw (at, start.rest) (elim c.if-is_empty.branch [
        | then-is_empty w ↦ (let none : length text ≡ 0 = search rules in rw w.self-is (absorbing_empty _ _ _ _ _ text _ fits _ _ none w.add.ensures.counter w.add.ensures.block))
        | else-is_empty w ↦ (let some : 0 < length text = search rules in rw w.self-is (absorbing_some _ _ _ _ _ text _ fits some))
      ]),
    )

pub loop-pair-preserved-then-not-is_empty : goal.loop-pair-preserved-then-not-is_empty
loop-pair-preserved-then-not-is_empty g c =
    let p = c.in-Some.ensures.steps in
    let cut = c.split_at.ensures in
    let a = c.add-in-loop-pair.ensures in
    let t = c.tweak.ensures in
    let some : 0 < length c.split_at.result.1.now = search rules in (
      p.0 ∙ c.loop-pair.invariant.0,
      absorbing_two c.loop-pair.invariant.1 c.in-Some.pair.now _ _ _ p.1.0 (rw c.loop-pair.invariant.0 at p.1.1) cut.by_index.0 (cut.front_len ∙ c.min.ensures) _ _ _ _ some
          (t.counter ∙ ap stepped a.counter) (rw (a.counter, a.block) at t.block) t.called,
    )

pub loop-pair-preserved : goal.loop-pair-preserved
loop-pair-preserved g c =
    let p = c.in-Some.ensures.steps in
    let cut = c.split_at.ensures in
    let a = c.add-in-loop-pair.ensures in
    let none : length c.split_at.result.1.now ≡ 0 = search rules in (
      p.0 ∙ c.loop-pair.invariant.0,
      absorbing_one c.loop-pair.invariant.1 c.in-Some.pair.now _ _ _ p.1.0 (rw c.loop-pair.invariant.0 at p.1.1) cut.by_index.0 (cut.front_len ∙ c.min.ensures) _ _ p.1.2 none
          a.counter a.block,
    )

pub returns : goal.returns
returns g c =
    let e = absorbing_end c.loop-pair.invariant.1 c.in-None.ensures.steps.1.0 in
    record { block = e.0; counter = e.1; called = e.2 }
