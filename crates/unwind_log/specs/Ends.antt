-- What a seat is once the block that it lent is gone.
use Rattle.std.specs.Prelude.{◌≡◌, ◌≤◌, ◌+◌, ℕ, Result, OnOk, OnErr, true, ⊤}
use Rattle.std.specs.Borrow.{follows_so, MutBor, Fml}
use mathlib.Core.Option.{none}
use Rattle.unwind_log.specs.declared.cells.Unwinding.{Unwinding}
use Rattle.unwind_log.specs.declared.cells.UnwindSeat.{UnwindSeat}
use Rattle.unwind_log.specs.contracts.cells.UnwindSeat.{the_row}
use Rattle.unwind_log.specs.Seats.{has, known_after, IsSeatOf}

-- the seat is still one of the unwinding; where there was memory, it knows block i and all that it knew, and else what it
-- knew; it built nothing where it knew the block, and else at most one block for the cell and one of its own
abbrev pub Met : Unwinding → UnwindSeat → ℕ → {X E : Type 0} → Result X E → UnwindSeat → Type 0
Met u old i r new =
    IsSeatOf u new
    × OnOk r (new.known ≡ known_after i old.known)
    × OnErr r (new.known ≡ old.known)
    × (has i old.known ≡ true → new.built ≡ old.built)
    × (old.built ≤ new.built)
    × (new.built ≤ old.built + 2)

-- the seat ends so once the block that was lent with it is gone
abbrev pub EndsMet : Unwinding → MutBor UnwindSeat → ℕ → {X E : Type 0} → Result X E → Fml
EndsMet u seat i r = follows_so the_row the_row seat.ghost_name none (λ _ _. ⊤) (Met u seat.now i r)
