use Rattle.std.proofs.Common.{◌≡◌, ◌-◌, length}
use Rattle.proof_checker.specs.Parts.{IsReady}
use Rattle.proof_checker.proofs.parts.fit.Given as goal

abbrev pub invariant-rooms : goal.invariant-rooms
invariant-rooms l = record {
  ready : IsReady l.parts;
  store : l.parts.store ≡ l.initial.parts.store;
}

abbrev pub decreases-rooms : goal.decreases-rooms
decreases-rooms l = l.room - length l.parts.trail.truth.items
