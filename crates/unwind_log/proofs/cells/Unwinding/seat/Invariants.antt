use Rattle.std.proofs.Common.{◌≡◌, ℕ, length, []}
use Rattle.std.specs.Prelude.{slice_get}
use Rattle.std.proofs.Common.{Some}
use Rattle.std.specs.declared.alloc.Global.{Global}
use Rattle.unwind_log.specs.declared.cells.Place.{Place}
use Rattle.unwind_log.specs.Seats.{Fits}
use Rattle.unwind_log.proofs.cells.Unwinding.seat.Given as goal

abbrev pub invariant-loop-cell : goal.invariant-loop-cell
invariant-loop-cell l =
    (length l.places ≡ l.cell-index)
    × ((i : ℕ) (cell : Global × ℕ) (place : Place) → slice_get l.cell-items i ≡ Some cell → slice_get l.places i ≡ Some place → Fits l.fn.self.template [] i cell place)
