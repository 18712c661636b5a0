use Rattle.std.proofs.Common.{◌≡◌, ◌-◌, ◌+◌, ℕ, vec_len}
use Rattle.std.specs.Prelude.{slice_get}
use Rattle.c_kinds.specs.Layouts.{flat}
use Rattle.c_values.proofs.store.make_room.Given as goal

abbrev pub invariant-loop-places : goal.invariant-loop-places
invariant-loop-places l = (n : ℕ) → flat (slice_get l.places.items n) ≡ flat (slice_get l.initial.places.items n)

abbrev pub decreases-loop-places : goal.decreases-loop-places
decreases-loop-places l = l.number + 1 - vec_len l.places
