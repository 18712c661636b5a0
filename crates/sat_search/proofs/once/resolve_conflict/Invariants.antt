use Rattle.std.proofs.Common.{◌≡◌, ◌<◌, ◌≤◌, length, take}
use Rattle.sat_clause.specs.Propagation.{clause_at}
use Rattle.sat_engine.specs.Look.{AreFalse}
use Rattle.sat_search.specs.State.{IsReady}
use Rattle.sat_search.specs.Once.{IsSame}
use Rattle.sat_search.proofs.once.resolve_conflict.Given as goal

abbrev pub invariant-again : goal.invariant-again
invariant-again l = record {
  ready : IsReady l.assumed l.parts;
  conflict : l.conflict < length l.parts.store;
  all_false : AreFalse (clause_at l.parts.store l.conflict) l.parts.trail.truth.items;
  same : IsSame l.initial.parts l.parts;
  store : l.parts.store ≡ l.initial.parts.store;
  cut : l.parts.trail.steps.items ≡ take (length l.parts.trail.steps.items) l.initial.parts.trail.steps.items;
  shorter : length l.parts.trail.steps.items ≤ length l.initial.parts.trail.steps.items;
}

abbrev pub decreases-again : goal.decreases-again
decreases-again l = length l.parts.trail.steps.items
