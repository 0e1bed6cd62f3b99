use Rattle.std.proofs.Common.{◌≡◌, ◌<◌, ◌≤◌, length, ◌∙◌, sym, rules, arith}
use Rattle.romulus_m.proofs.Pairs.{joined_more, joined_last}
use Rattle.romulus_m.proofs.join.Goals as goal

pub returns-then-not-is_empty-clause-block : goal.returns-then-not-is_empty-clause-block
returns-then-not-is_empty-clause-block g c =
    let cut = c.split_at.ensures in
    let t = c.tweak.ensures in
    let some : 0 < length c.split_at.result.1.now = search rules in
    let sixteen : length c.split_at.result.0.now ≡ 16 = omega (arith, cut.front_len, cut.back_len, c.min.ensures) in
    (rw (t.counter, t.called.same, t.block) at c.absorb.ensures.block) ∙ sym (joined_more _ _ _ _ _ _ c.args.message.now cut.by_index.0 sixteen some)

pub returns-else-not-is_empty-clause-block : goal.returns-else-not-is_empty-clause-block
returns-else-not-is_empty-clause-block g c =
    let cut = c.split_at.ensures in
    let none : length c.split_at.result.1.now ≡ 0 = search rules in
    let short : length c.split_at.result.0.now ≤ 16 = omega (arith, cut.front_len, c.min.ensures) in
    c.tweak.ensures.block ∙ sym (joined_last _ _ _ _ _ _ c.args.message.now cut.by_index.0 short none)
