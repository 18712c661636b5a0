use Rattle.std.proofs.Common.{◌+◌, ◌<◌, ◌≤◌, length}
use Rattle.sat_search.specs.Analysis.{IsMarked, IsWitness}
use Rattle.sat_search.specs.Mark.{IsMarkedAt}
use Rattle.sat_search.proofs.analysis.analyze.Given as goal

abbrev pub invariant-loop-witness : goal.invariant-loop-witness
invariant-loop-witness l = record {
  marked : IsMarked l.store l.trail.truth.items l.trail.place.items l.floor (l.at + 1) l.marks l.low.items;
  within : l.at < length l.trail.steps.items;
  above : l.floor ≤ l.at;
  here : IsMarkedAt l.trail.steps.items l.marks l.at;
  witness : IsWitness l.trail.steps.items l.marks l.floor l.at l.witness;
}

abbrev pub decreases-loop-witness : goal.decreases-loop-witness
decreases-loop-witness l = l.at
