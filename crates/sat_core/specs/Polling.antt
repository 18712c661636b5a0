-- What a call says of the poll that it asks.
use Rattle.std.specs.Prelude.{ℕ, ◌≡◌, ◌≤◌, Bool, if◌then◌else◌}
use Rattle.sat_core.specs.Counts.{raised, raised_by}

-- whatever the answer, the poll is as it was made, and may be asked again
pub record StaysReady {Self Held : Type 0} (ready : Self → Type 0) (held : Self → Held) (old new : Self) : Type 0 where
  pub again : ready new
  pub same : held new ≡ held old

-- the poll was asked at least so many times, and said yes once where it stopped the call, and else never
pub record WasAsked {Self : Type 0} (asks yeses : Self → ℕ) (old new : Self) (times : ℕ) (is_stopped : Bool) : Type 0 where
  pub asked : raised_by times (asks old) ≤ asks new
  pub said_yes : yeses new ≡ (if is_stopped then raised (yeses old) else yeses old)
