use Rattle.std.proofs.Common.{◌≡◌, []}
use Rattle.romulus.specs.Waiting.{waiting, Cleared}
use Rattle.romulus.proofs.ahead.Ahead.fill.Given as goal

abbrev pub invariant-loop : goal.invariant-loop
invariant-loop g l = Cleared l.self-inside × (waiting l.self-inside ≡ [])
