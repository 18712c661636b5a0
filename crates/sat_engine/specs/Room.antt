-- Room for literals in tables that have a place for each.
use Rattle.std.specs.Prelude.{ℕ, ◌≤◌, List}
use Rattle.sat_engine.specs.Look.{InRange}

-- `new` places are the fewest, no less than `old`, in which the literals have room
pub record IsRoomFor (lits : List ℕ) (old new : ℕ) : Type 0 where
  pub longer : old ≤ new
  pub room : InRange lits new
  pub least : (n : ℕ) → old ≤ n → InRange lits n → new ≤ n
