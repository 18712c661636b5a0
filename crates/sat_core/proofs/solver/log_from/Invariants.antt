use Rattle.std.proofs.Common.{◌≡◌, ◌-◌, ◌++◌, take, drop}
use Rattle.sat_core.proofs.solver.log_from.Given as goal

abbrev pub invariant-loop-number : goal.invariant-loop-number
invariant-loop-number l = l.log ≡ l.initial.log ++ take (l.number - l.from) (drop l.from l.store)
