-- What a kept solver over blocks holds.
use Rattle.std.specs.Prelude.{ℕ, Bool}
use Rattle.sat_core.specs.Held.{Held}

-- whether it begins at the start, and not at a head; how many blocks it was asked about last; what its solver holds; and
-- whether it was refused memory
pub record HeldBlocks : Type 0 where
  pub from_start : Bool
  pub blocks : ℕ
  pub solver : Held
  pub refused : Bool
