-- Which cells point into objects, and where the objects of declarations stand.
use Rattle.std.specs.Prelude.{◌≡◌, ℕ, nat_eq, Bool, true, false, List, Option, Some, None, position, slice_get, slice_set, if◌then◌else◌}
use Rattle.std.specs.List.{All}
use Rattle.c_kinds.specs.Layouts.{flat}
use Rattle.c_model.specs.declared.values.Scalar.{Scalar}
use Rattle.c_model.specs.declared.values.Scalar.TheVariants.{Inside}
use Rattle.c_model.specs.declared.values.Object.{Object}
use Rattle.c_model.specs.Store.{is_numbered}

abbrev pub points : Scalar → Bool
points (Inside object offset) = true
points _ = false

-- the cell of its object to which a pointer points
abbrev pub offset_in : Scalar → ℕ
offset_in (Inside object offset) = offset
offset_in _ = 0

-- no cell points into an object
abbrev pub AreNoPointers : List Scalar → Type 0
AreNoPointers cells = All (λ s. points s ≡ false) cells

-- at each declaration's number stands the place of its living object, if it has one
abbrev pub HasPlaces : List Object → List (Option ℕ) → Type 0
HasPlaces objects places = (number : ℕ) → flat (slice_get places number) ≡ position (is_numbered number) objects

-- the first of two, if it is there
abbrev pub first_of : Option ℕ → Option ℕ → Option ℕ
first_of None later = later
first_of (Some place) later = Some place

-- an object at this place is that of the declaration, unless there is one already
abbrev pub with_place : List (Option ℕ) → ℕ → ℕ → List (Option ℕ)
with_place places number object = slice_set places number (first_of (flat (slice_get places number)) (Some object))

abbrev pub left_by : ℕ → Option ℕ → Option ℕ
left_by object None = None
left_by object (Some place) = if nat_eq place object then None else Some place

-- an object at this place is no longer that of the declaration
abbrev pub without_place : List (Option ℕ) → ℕ → ℕ → List (Option ℕ)
without_place places number object = slice_set places number (left_by object (flat (slice_get places number)))
