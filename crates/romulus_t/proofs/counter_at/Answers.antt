use Rattle.std.proofs.Common.{◌≡◌, ℕ, zero, suc, sym, refl, ap, ◌∙◌, add-one}
use Rattle.byte_blocks.specs.Counter.{stepped, advanced}
use Rattle.romulus_t.proofs.counter_at.Goals as goal

-- a step after i steps is one of i + 1 steps
stepped_after : (i c : ℕ) → stepped (advanced i c) ≡ advanced (suc i) c
stepped_after zero c = refl
stepped_after (suc i) c = stepped_after i (stepped c)

pub loop-i-preserved : goal.loop-i-preserved
loop-i-preserved c =
    let i = c.loop-i._i in
    c.step-value.ensures ∙ ap stepped c.loop-i.invariant ∙ stepped_after i 1 ∙ ap (λ (j : ℕ). advanced j 1) (sym (add-one i))
