use Rattle.std.proofs.Common.{◌≡◌, ◌+◌, ◌%◌, length, sym, refl, ◌∙◌, arith}
use Rattle.byte_blocks.specs.Block.{block_count}
use Rattle.romulus_m.proofs.Pairs.{advanced_more, gathered_even, gathered_odd}
use Rattle.romulus_m.proofs.gather.Goals as goal

pub returns-then-block_count-eq0-clause-block : goal.returns-then-block_count-eq0-clause-block
returns-then-block_count-eq0-clause-block g c =
    let s = c.new-state.ensures in
    let a = c.absorb.ensures in
    let even : block_count (length c.args.ad.now) % 2 ≡ 0 = omega arith in
    (rw (a.counter, a.called.same, a.block, s.counter, s.block) at c.absorb-then-block_count-eq0.ensures.block) ∙ sym (gathered_even _ _ c.args.ad.now c.args.message.now even)

pub returns-then-block_count-eq0-clause-counter : goal.returns-then-block_count-eq0-clause-counter
returns-then-block_count-eq0-clause-counter g c =
    let n = block_count (length c.args.ad.now) in
    let m = block_count (length c.args.message.now) in
    (rw (c.absorb.ensures.counter, c.new-state.ensures.counter) at c.absorb-then-block_count-eq0.ensures.counter) ∙ advanced_more m n (n + m) 1 refl

pub returns-else-block_count-eq0-clause-block : goal.returns-else-block_count-eq0-clause-block
returns-else-block_count-eq0-clause-block g c =
    let s = c.new-state.ensures in
    let a = c.absorb.ensures in
    let odd : block_count (length c.args.ad.now) % 2 ≡ 1 = omega arith in
    (rw (a.counter, a.called.same, a.block, s.counter, s.block) at c.join.ensures.block) ∙ sym (gathered_odd _ _ c.args.ad.now c.args.message.now odd)

pub returns-else-block_count-eq0-clause-counter : goal.returns-else-block_count-eq0-clause-counter
returns-else-block_count-eq0-clause-counter g c =
    let n = block_count (length c.args.ad.now) in
    let m = block_count (length c.args.message.now) in
    (rw (c.absorb.ensures.counter, c.new-state.ensures.counter) at c.join.ensures.counter) ∙ advanced_more m n (n + m) 1 refl
