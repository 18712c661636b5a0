use Rattle.std.proofs.Common.{◌≡◌, ◌+◌, ◌-◌, ◌<◌, ◌≤◌, length}
use Rattle.sat_core.specs.Counts.{raised_by}
use Rattle.sat_search.specs.State.{word, IsReady}
use Rattle.sat_core.specs.Finding.{IsGrown}
use Rattle.sat_core.specs.Polling.{StaysReady}
use Rattle.sat_core.proofs.Finds.{left}
use Rattle.sat_core.proofs.find.find.Given as goal

abbrev pub invariant-turns : goal.invariant-turns
invariant-turns g l = record {
  ready : IsReady l.assumed l.parts;
  grown : IsGrown l.initial.parts.store l.parts.store (length l.initial.parts.trail.truth.items);
  size : length l.parts.trail.truth.items ≡ length l.initial.parts.trail.truth.items;
  poll : StaysReady g.P.Poll.ready g.P.Poll.held l.initial.poll l.poll;
  yeses : g.P.Poll.yeses l.poll ≡ g.P.Poll.yeses l.initial.poll;
  asks : raised_by (length l.parts.store - length l.initial.parts.store) (g.P.Poll.asks l.initial.poll) ≤ g.P.Poll.asks l.poll;
  counted : 0 < l.budget → (length l.parts.store ≡ length l.initial.parts.store + l.learnt) × (l.learnt < l.budget);
}

abbrev pub decreases-turns : goal.decreases-turns
decreases-turns g l = left (length l.initial.parts.trail.truth.items) (length l.initial.parts.store) (length l.parts.store) (word l.parts.trail.steps.items)
