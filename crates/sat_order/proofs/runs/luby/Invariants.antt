use Rattle.std.proofs.Common.{ℕ, ◌<◌}
use Rattle.sat_order.specs.Luby.{IsLuby}
use Rattle.sat_order.proofs.runs.luby.Given as goal

abbrev pub invariant-runs : goal.invariant-runs
invariant-runs l = record { some : 0 < l.rest; is : (x : ℕ) → IsLuby l.rest x → IsLuby l.i x }

abbrev pub decreases-runs : goal.decreases-runs
decreases-runs l = l.rest
