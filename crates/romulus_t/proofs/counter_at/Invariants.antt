use Rattle.std.proofs.Common.{◌≡◌}
use Rattle.byte_blocks.specs.Counter.{counter}
use Rattle.romulus_t.proofs.counter_at.Given as goal

abbrev pub invariant-loop-i : goal.invariant-loop-i
invariant-loop-i l = l.value ≡ counter l._i
