use Rattle.std.proofs.Common.{◌+◌, ◌≤◌}
use Rattle.sat_search.specs.Choice.{NoChoice}
use Rattle.sat_search.proofs.choice.last_choice.Given as goal

abbrev pub invariant-loop-at : goal.invariant-loop-at
invariant-loop-at l = (l.at ≤ l.top + 1) × NoChoice l.trail.steps.items l.at (l.top + 1)

abbrev pub decreases-loop-at : goal.decreases-loop-at
decreases-loop-at l = l.at
