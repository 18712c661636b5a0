use Rattle.std.proofs.Common.{ℕ, ◌≡◌, ◌-◌, ◌^◌, ◌<◌, ◌≤◌}
use Rattle.sat_order.proofs.runs.greatest_power.Given as goal

abbrev pub invariant-loop-power : goal.invariant-loop-power
invariant-loop-power l = record { low : l.power ≤ l.number; some : 0 < l.power; is : (k : ℕ) × (l.power ≡ 2 ^ k) }

abbrev pub decreases-loop-power : goal.decreases-loop-power
decreases-loop-power l = l.number - l.power
