-- What a seat of an unwinding knows.
use Rattle.std.specs.Prelude.{Option, None, ◌≡◌, ℕ, ◌+◌, ◌-◌, ◌^◌, min, Bool, true, false, ◌||◌, ◌==◌, if◌then◌else◌, List, [], ◌∷◌, ◌++◌, IsSomeAnd, MatchOption, slice_get, length, Some}
use Rattle.std.specs.declared.alloc.Global.{Global}
use Rattle.once_cell.specs.Once.{cell_name}
use Rattle.kv_clause.specs.Blocks.{block_at}
use Rattle.kv_clause.specs.declared.block.Block.{Block}
use Rattle.kv_clause.specs.declared.template.Template.{Template}
use Rattle.unwind_log.specs.declared.cells.Unwinding.{Unwinding}
use Rattle.unwind_log.specs.declared.cells.Place.{Place}
use Rattle.unwind_log.specs.declared.cells.UnwindSeat.{UnwindSeat}

-- whether the number is among these
abbrev pub has : ℕ → List ℕ → Bool
has n [] = false
has n (m ∷ ms) = (m == n) || has n ms

-- what a seat knows once it has met block i
abbrev pub known_after : ℕ → List ℕ → List ℕ
known_after i known = if has i known then known else (known ++ i ∷ [])

-- one more block that a seat built, a count that stays at its last value
abbrev pub counted : ℕ → ℕ
counted built = min (built + 1) (2 ^ 32 - 1)

-- A place knows the name of its cell. Once the block was met, the cell's value or the seat's own block is the block.
pub record Fits (t : Template) (known : List ℕ) (i : ℕ) (cell : Global × ℕ) (place : Place) : Type 0 where
  pub cell_is : place.note.cell ≡ cell_name cell
  pub met_is : place.met ≡ has i known
  pub value_is : place.met ≡ true → MatchOption place.own (IsSomeAnd place.note.known (λ b. b ≡ block_at t i)) (λ b. b ≡ block_at t i)

-- the seat's own block, where it has one
abbrev pub own_in : Option Place → Option Block
own_in None = None
own_in (Some place) = place.own

abbrev pub own_of : UnwindSeat → ℕ → Option Block
own_of s i = own_in (slice_get s.places.items i)

-- the seat was made by this unwinding: it has a place for each cell
pub record IsSeatOf (u : Unwinding) (s : UnwindSeat) : Type 0 where
  pub long : length s.places.items ≡ length u.cells.items
  pub fit : (i : ℕ) (cell : Global × ℕ) (place : Place) → slice_get u.cells.items i ≡ Some cell → slice_get s.places.items i ≡ Some place → Fits u.template s.known i cell place
