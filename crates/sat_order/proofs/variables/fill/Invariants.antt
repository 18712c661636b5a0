use Rattle.std.proofs.Common.{◌-◌, length}
use Rattle.sat_order.proofs.variables.fill.Given as goal

abbrev pub decreases-loop-activity : goal.decreases-loop-activity
decreases-loop-activity l = l.vars - length l.activity.items
