use Rattle.std.proofs.Common.{◌≡◌, ◌-◌, ◌≤◌, length, drop, ap, ◌∙◌, arith}
use Rattle.std.proofs.lemmas.List.{length-replicate}
use Rattle.romulus.proofs.Waiting.{part_cleared, cleared_more, rest_kept, waiting_less}
use Rattle.romulus.proofs.ahead.Ahead.clear.Goals as goal

pub invariant_of-self : goal.invariant_of-self
invariant_of-self c =
    let self = c.self.inside in
    let inv = c.self.invariant in
    let k = c.min.result in
    let all : length self.bytes ≡ 8192 = omega arith in
    let within : self.end ≤ length self.bytes = omega (arith, inv.within) in
    let few : k ≤ self.end - self.at = omega (arith, c.min.ensures) in
    let zs = part_cleared self.bytes c.fill.new.self self.at k (omega (arith, inv.ordered)) (c.fill.ensures.after (λ y e. e)) in record {
      ordered = omega (arith, inv.ordered);
      within = inv.within;
      handed_on = cleared_more self.bytes c.fill.new.self self.at self.end inv.ordered within k few zs inv.handed_on;
      behind = rest_kept self.bytes c.fill.new.self self.at self.end inv.ordered within k few (ap length zs ∙ length-replicate k 0) ∙ inv.behind;
    }

pub returns : goal.returns
returns c =
    let self = c.self.inside in
    let inv = c.self.invariant in
    let k = c.min.result in
    let all : length self.bytes ≡ 8192 = omega arith in
    let within : self.end ≤ length self.bytes = omega (arith, inv.within) in
    let few : k ≤ self.end - self.at = omega (arith, c.min.ensures) in
    let zs = part_cleared self.bytes c.fill.new.self self.at k (omega (arith, inv.ordered)) (c.fill.ensures.after (λ y e. e)) in
    waiting_less self.bytes c.fill.new.self self.at self.end inv.ordered within c.args.n k c.min.ensures (ap length zs ∙ length-replicate k 0) ∙ ap (λ r. drop c.args.n r.waiting) c.self.view_is
