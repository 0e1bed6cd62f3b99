use Rattle.std.proofs.Common.{◌≤◌, length, vec_items}
use Rattle.romulus.proofs.read_line.Given as goal

abbrev pub invariant-loop : goal.invariant-loop
invariant-loop l = length (vec_items l.line) ≤ 8193
