use Rattle.std.proofs.Common.{◌≡◌, length, rules}
use Rattle.romulus_m.specs.ModeM.{seeded}
use Rattle.romulus_m.proofs.Pairs.{walked_empty}
use Rattle.romulus_m.proofs.pass.Goals as goal

pub returns-then-not-is_empty-clause-text : goal.returns-then-not-is_empty-clause-text
unfolding seeded
returns-then-not-is_empty-clause-text g c =
    let s = c.new-state.ensures in
    let e = c.encipher.ensures in
    rw (e.block, e.called.same, s.counter, s.block) at c.walk.ensures.text

pub returns-else-not-is_empty-clause-text : goal.returns-else-not-is_empty-clause-text
returns-else-not-is_empty-clause-text g c =
    let none : length c.args.text.now ≡ 0 = search rules in
    walked_empty _ _ _ _ _ _ _ c.args.text.now none
