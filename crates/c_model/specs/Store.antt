-- The living objects: places, what they hold, pointers into them, and the ends of their lives (6.2.4, 6.5.3.2, 6.5.6).
-- Sections are those of ISO/IEC 9899:2011.
use Rattle.std.specs.Prelude.{ℕ, ◌+◌, ◌*◌, Bool, not, ◌&&◌, nat_lt, nat_eq, ℤ, pos, ◌+ℤ◌, ◌*ℤ◌, unsigned_abs, int_lt, List, [], ◌∷◌, length, take, drop, map, position, Option, Some, None, slice_get, slice_set, if◌then◌else◌}
use Rattle.c_kinds.specs.declared.types.CType.{CType}
use Rattle.c_kinds.specs.declared.types.CellType.{CellType}
use Rattle.c_kinds.specs.Layouts.{begins_with}
use Rattle.c_rules.specs.declared.checks.CheckKind.TheVariants.{Dereference, PointerArithmetic, ArrayBounds}
use Rattle.c_rules.specs.declared.program.Program.{Program}
use Rattle.c_model.specs.declared.values.Scalar.{Scalar}
use Rattle.c_model.specs.declared.values.Scalar.TheVariants.{Wild, Inside}
use Rattle.c_model.specs.declared.values.Object.{Object}
use Rattle.c_model.specs.declared.values.Outcome.{Outcome}
use Rattle.c_model.specs.declared.values.Outcome.TheVariants.{Gives, Unmet}
use Rattle.c_model.specs.Programs.{types_of, types_in}
use Rattle.c_model.specs.Values.{unset_of}

-- ---- places. A place is the pointer to its first cell.

-- the living object of this declaration
abbrev pub is_numbered : ℕ → Object → Bool
is_numbered number object = nat_eq object.number number

-- the place of its first cell; of no living object it would be wild (6.2.4p2)
abbrev pub place_by : Option ℕ → Scalar
place_by None = Wild
place_by (Some object) = Inside object 0

-- the living object of a declaration. There is one at most: a block isn't entered again before it is left, since no call
-- leads back to its own function
abbrev pub place_of : ℕ → List Object → Scalar
place_of number store = place_by (position (is_numbered number) store)

-- the cells of a living object
abbrev pub cells_in : Option Object → List Scalar
cells_in None = []
cells_in (Some object) = object.cells

-- what so many cells from a place on hold (6.3.2.1p2)
abbrev pub held : ℕ → Scalar → List Object → List Scalar
held n (Inside object offset) store = take n (drop offset (cells_in (slice_get store object)))
held n _ store = []

-- one cell after another is replaced
abbrev pub written : ℕ → List Scalar → List Scalar → List Scalar
written offset [] old = old
written offset (s ∷ v) old = written (offset + 1) v (slice_set old offset s)

-- an object with a value in its cells from this one on
abbrev pub object_with : ℕ → List Scalar → Object → Object
object_with offset v old = record { number = old.number; cells = written offset v old.cells }

-- a value in the cells of one living object
abbrev pub stored_by : Option Object → ℕ → ℕ → List Scalar → List Object → List Object
stored_by None object offset v store = store
stored_by (Some old) object offset v store = slice_set store object (object_with offset v old)

-- the value replaces what the place holds (6.5.16.1p2)
abbrev pub stored : List Scalar → Scalar → List Object → List Object
stored v (Inside object offset) store = stored_by (slice_get store object) object offset v store
stored v _ store = store

-- so many cells further in the object, without a check
abbrev pub further : ℕ → Scalar → Scalar
further n (Inside object offset) = Inside object (offset + n)
further n s = s

-- ---- checks of pointers

-- the cell types of an object from an offset on
abbrev pub types_from : Program → Option Object → ℕ → List CellType
types_from p None offset = []
types_from p (Some object) offset = drop offset (types_in p object.number)

-- a pointer is followed (6.5.3.2p4): the cells from there on must have the pointee's cell types. That is a choice of the
-- accepted C: the standard speaks of the object's effective type (6.5p7)
abbrev pub followed : Program → CType → Scalar → List Object → Outcome
followed p t (Inside object offset) store = if begins_with (types_from p (slice_get store object) offset) (types_of p t) then Gives (Inside object offset) else Unmet Dereference
followed p t s store = Unmet Dereference

-- from 0 to so many
abbrev pub is_within : ℤ → ℕ → Bool
is_within n most = not (int_lt n (pos 0)) && not (int_lt (pos most) n)

-- to one of its cells, or to one past the last (6.5.6p8)
abbrev pub moved_to : ℕ → ℤ → Option Object → Outcome
moved_to object to None = Unmet PointerArithmetic
moved_to object to (Some there) = if is_within to (length there.cells) then Gives (Inside object (unsigned_abs to)) else Unmet PointerArithmetic

-- a pointer is moved by n elements of so many cells: it must stay in its whole object or one past it. That is a choice of the
-- accepted C: the standard speaks of the array in which it points (6.5.6p8)
abbrev pub moved : ℕ → ℤ → Scalar → List Object → Outcome
moved size n (Inside object offset) store = moved_to object (pos offset +ℤ (n *ℤ pos size)) (slice_get store object)
moved size n s store = Unmet PointerArithmetic

-- an element of an array of this length, whose elements have so many cells (6.5.2.1, 6.5.6p8)
abbrev pub element : ℕ → ℕ → ℤ → Scalar → Outcome
element length size n s = if not (int_lt n (pos 0)) && int_lt n (pos length) then Gives (further (unsigned_abs n * size) s) else Unmet ArrayBounds

-- ---- lives (6.2.4)

-- an object with its cells unset, for each of these declarations
abbrev pub born : Program → List ℕ → List Object
born p [] = []
born p (number ∷ numbers) = record { number = number; cells = map unset_of (types_in p number) } ∷ born p numbers

-- a pointer to an object that no longer lives is wild (6.2.4p2); the first n live on
abbrev pub outlived : ℕ → Scalar → Scalar
outlived n (Inside object offset) = if nat_lt object n then Inside object offset else Wild
outlived n s = s

-- the pointers in the cells of an object, likewise
abbrev pub outlives : ℕ → Object → Object
outlives n object = record { number = object.number; cells = map (outlived n) object.cells }

-- the first n objects live on
abbrev pub survivors : ℕ → List Object → List Object
survivors n store = map (outlives n) (take n store)
