use Rattle.std.proofs.Common.{ℕ, ◌≡◌, ◌-◌, ◌*◌, ◌≤◌, length}
use Rattle.sat_core.specs.Finding.{IsIdle}
use Rattle.sat_core.proofs.setup.fit.Given as goal

abbrev pub invariant-rooms : goal.invariant-rooms
invariant-rooms l = record {
  idle : IsIdle l.parts;
  store : l.parts.store ≡ l.initial.parts.store;
  longer : length l.initial.parts.trail.truth.items ≤ length l.parts.trail.truth.items;
  least : (m : ℕ) → l.room ≤ 2 * m → length l.parts.trail.truth.items ≤ 2 * m;
}

abbrev pub decreases-rooms : goal.decreases-rooms
decreases-rooms l = l.room - length l.parts.trail.truth.items
