use Rattle.std.proofs.Common.{ℕ, ◌<◌, ◌≤◌, get_or}
use Rattle.sat_engine.specs.Trail.{IsSet}
use Rattle.sat_search.proofs.turn.unset_from.Given as goal

abbrev pub invariant-loop-at : goal.invariant-loop-at
invariant-loop-at l = (i : ℕ) → l.from ≤ i → i < l.at → IsSet l.truth (get_or l.assumed i 0)
