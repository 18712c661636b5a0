use Rattle.std.proofs.Common.{◌≤◌}
use Rattle.word_tests.proofs.lanes.gate_count.Given as goal

abbrev pub invariant-loop-variable : goal.invariant-loop-variable
invariant-loop-variable l = l.count ≤ l.variable
