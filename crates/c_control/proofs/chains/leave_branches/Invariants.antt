use Rattle.std.proofs.Common.{◌≡◌, ◌-◌}
use Rattle.c_control.specs.Chains.{leaves}
use Rattle.c_control.proofs.chains.leave_branches.Given as goal

abbrev pub invariant-loop-turn : goal.invariant-loop-turn
invariant-loop-turn l = leaves l.count l.fn.place ≡ leaves (l.count - l._turn) l.place
