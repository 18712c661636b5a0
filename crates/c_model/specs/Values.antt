-- Values: what cells hold, and conversions (6.3). Sections are those of ISO/IEC 9899:2011.
use Rattle.std.specs.Prelude.{Bool, true, false, not, ℤ, pos, nat_eq, ◌&&◌, List, [], ◌∷◌}
use Rattle.std.specs.Ordering.{int_eq}
use Rattle.kv_num.specs.declared.types.IntType.{IntType}
use Rattle.c_kinds.specs.declared.types.CType.{CType}
use Rattle.c_kinds.specs.declared.types.CellType.{CellType}
use Rattle.c_kinds.specs.declared.types.CellType.TheVariants as cell
use Rattle.c_kinds.specs.declared.types.Shape.{Shape}
use Rattle.c_kinds.specs.declared.types.Shape.TheVariants as shape
use Rattle.c_kinds.specs.Types.{shape_of}
use Rattle.c_kinds.specs.Integers.{truth, converted}
use Rattle.c_model.specs.declared.values.Scalar.{Scalar}
use Rattle.c_model.specs.declared.values.Scalar.TheVariants.{Number, Null, Wild, Inside}

-- an int: 1 for true and 0 for false (6.5.8p6, 6.5.9p3)
abbrev pub truth_of : Bool → Scalar
truth_of b = Number (truth b)

-- the value of a scalar expression
abbrev pub scalar_in : List Scalar → Scalar
scalar_in [] = Number (pos 0)
scalar_in (s ∷ rest) = s

-- the value of an integer
abbrev pub number_in : Scalar → ℤ
number_in (Number n) = n
number_in _ = pos 0

-- it compares equal to 0: the number 0, or the null pointer (6.5.3.3p5). A wild pointer isn't null
abbrev pub is_zero : Scalar → Bool
is_zero (Number n) = int_eq n (pos 0)
is_zero Null = true
is_zero Wild = false
is_zero (Inside object offset) = false

-- the value of a test or an assertion
abbrev pub is_no : List Scalar → Bool
is_no v = is_zero (scalar_in v)

-- as a pointer: a null pointer constant may be the number 0 (6.3.2.3p3)
abbrev pub as_pointer : Scalar → Scalar
as_pointer (Number n) = Null
as_pointer s = s

-- pointers are equal where they are the same value. That is a choice of the accepted C: in the standard one past the end of an
-- object may equal the start of the object that follows it (6.5.9p6), and a wild pointer has no value (6.2.4p2); here objects
-- never follow one another, and wild equals wild
abbrev pub same_pointer : Scalar → Scalar → Bool
same_pointer Null Null = true
same_pointer Wild Wild = true
same_pointer (Inside a i) (Inside b j) = nat_eq a b && nat_eq i j
same_pointer _ _ = false

-- ---- conversions

-- as a number of an integer type (6.3.1.3); a pointer converts to _Bool alone, by comparison with 0 (6.3.1.2)
abbrev pub number_as : IntType → Scalar → ℤ
number_as kind (Number n) = converted kind n
number_as kind s = truth (not (is_zero s))

-- a scalar as one of this type (6.3.1, 6.3.2.3)
abbrev pub scalar_as : Shape → Scalar → Scalar
scalar_as (shape.Integer kind) s = Number (number_as kind s)
scalar_as shape.Pointer s = as_pointer s
scalar_as _ s = s

-- to void everything converts (6.3.2.2), and to a struct or an array nothing but its own type
abbrev pub cells_as : Shape → List Scalar → List Scalar
cells_as shape.Void v = []
cells_as (shape.Integer kind) v = scalar_as (shape.Integer kind) (scalar_in v) ∷ []
cells_as shape.Pointer v = scalar_as shape.Pointer (scalar_in v) ∷ []
cells_as _ v = v

-- a value as one of this type
abbrev pub value_as : CType → List Scalar → List Scalar
value_as t v = cells_as (shape_of t) v

-- ---- cells

-- what a cell holds where nothing else is said (6.7.9p10)
abbrev pub zero_of : CellType → Scalar
zero_of (cell.Integer kind) = Number (pos 0)
zero_of (cell.Pointer pointee) = Null

-- what it holds before its declaration is reached, which the standard leaves open (6.2.4p6)
abbrev pub unset_of : CellType → Scalar
unset_of (cell.Integer kind) = Number (pos 0)
unset_of (cell.Pointer pointee) = Wild
