use Rattle.std.proofs.Common.{◌-◌, ◌≤◌, length}
use Rattle.sat_search.specs.Choice.{NoChoice}
use Rattle.sat_search.proofs.choice.next_choice.Given as goal

abbrev pub invariant-loop-at : goal.invariant-loop-at
invariant-loop-at l = (l.from ≤ l.at) × (l.at ≤ length l.trail.steps.items) × NoChoice l.trail.steps.items l.from l.at

abbrev pub decreases-loop-at : goal.decreases-loop-at
decreases-loop-at l = length l.trail.steps.items - l.at
