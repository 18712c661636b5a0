-- Values of the types that a program gives. Sections are those of ISO/IEC 9899:2011.
use Rattle.std.specs.Prelude.{◌≡◌, ℕ, List, [], ◌∷◌, length}
use Rattle.kv_num.specs.declared.types.IntType.TheVariants.{Int}
use Rattle.c_tree.specs.declared.expression.BinaryOperator.{BinaryOperator}
use Rattle.c_tree.specs.declared.expression.BinaryOperator.TheVariants as b
use Rattle.c_tree.specs.declared.expression.UnaryOperator.{UnaryOperator}
use Rattle.c_tree.specs.declared.expression.UnaryOperator.TheVariants as u
use Rattle.c_kinds.specs.declared.types.CType.{CType}
use Rattle.c_kinds.specs.declared.types.CellType.TheVariants as cell
use Rattle.c_kinds.specs.declared.types.Shape.{Shape}
use Rattle.c_kinds.specs.declared.types.Shape.TheVariants as shape
use Rattle.c_kinds.specs.Types.{void, shape_of}
use Rattle.c_kinds.specs.Integers.{promoted}
use Rattle.c_kinds.specs.Operands.{family, result_type}
use Rattle.c_rules.specs.declared.program.Program.{Program}
use Rattle.c_model.specs.declared.values.Scalar.{Scalar}
use Rattle.c_model.specs.declared.values.Object.{Object}
use Rattle.c_model.specs.declared.values.Outcome.{Outcome}
use Rattle.c_model.specs.declared.values.Outcome.TheVariants.{Gives, Unmet}
use Rattle.c_model.specs.Programs.{types_of, types_in, object_type}
use Rattle.c_model.specs.Values.{value_as}
use Rattle.c_model.specs.Operators.{integer_of}
use Rattle.c_model.specs.Heads.{IsOf, AreOf, IsPlace}

-- a value of a type: as many cells as the type has, each with a value of its own type
abbrev pub IsOfType : Program → List Object → CType → List Scalar → Type 0
IsOfType p store t v = AreOf store (types_of p t) v

-- null, wild, or a pointer into or to the end of a living object
abbrev pub IsPointer : List Object → Scalar → Type 0
IsPointer store s = IsOf store (cell.Pointer void) s

-- a number of an integer type, or a pointer; no other type has one cell for each of its values
abbrev pub IsOfShape : List Object → Shape → Scalar → Type 0
IsOfShape store (shape.Integer kind) s = IsOf store (cell.Integer kind) s
IsOfShape store shape.Pointer s = IsPointer store s
IsOfShape store _ s = ⊥

-- what an operator gives, if its check is met
abbrev pub IfGiven : (Scalar → Type 0) → Outcome → Type 0
IfGiven P (Gives s) = P s
IfGiven P (Unmet check) = Unit {0}

-- the outermost part of the type of a result; an operand that is no integer is a pointer or has become one (6.5.5 to 6.5.14)
abbrev pub mixed_shape : BinaryOperator → Shape
mixed_shape b.Add = shape.Pointer
mixed_shape b.Subtract = shape.Pointer
mixed_shape op = shape.Integer Int

abbrev pub binary_shape : BinaryOperator → Shape → Shape → Shape
binary_shape op (shape.Integer k) (shape.Integer l) = shape.Integer (result_type (family op) k l)
binary_shape op s other = mixed_shape op

-- `+ - ~` (6.5.3.3)
abbrev pub IsArithmetic : UnaryOperator → Type 0
IsArithmetic u.Plus = Unit {0}
IsArithmetic u.Minus = Unit {0}
IsArithmetic u.Complement = Unit {0}
IsArithmetic _ = ⊥

-- the promoted type (6.5.3.3)
abbrev pub unary_shape : Shape → Shape
unary_shape s = shape.Integer (promoted (integer_of s))

-- to a scalar type or void everything converts, to another its own values alone (6.5.4, 6.5.16.1)
abbrev pub ConvertsBy : Program → Shape → CType → CType → Type 0
ConvertsBy p shape.Void t from = Unit {0}
ConvertsBy p (shape.Integer kind) t from = Unit {0}
ConvertsBy p shape.Pointer t from = Unit {0}
ConvertsBy p _ t from = types_of p from ≡ types_of p t

abbrev pub ConvertsTo : Program → CType → CType → Type 0
ConvertsTo p t from = ConvertsBy p (shape_of t) t from

-- ---- stores

-- each of these objects has the cells of its declaration's type, each with a value of its own type
abbrev pub AreLaidOut : Program → List Object → List Object → Type 0
AreLaidOut p store [] = Unit {0}
AreLaidOut p store (object ∷ objects) = AreOf store (types_in p object.number) object.cells × AreLaidOut p store objects

-- so has each living object
abbrev pub IsLaidOut : Program → List Object → Type 0
IsLaidOut p store = AreLaidOut p store store

-- the objects live on with the same numbers of cells, and others may follow them
abbrev pub Grows : List Object → List Object → Type 0
Grows [] others = Unit {0}
Grows (a ∷ store) [] = ⊥
Grows (a ∷ store) (b ∷ others) = (a.number ≡ b.number) × (length a.cells ≡ length b.cells) × Grows store others

-- a place of a type in one of the first n objects, which doesn't lie behind the end of its object
abbrev pub IsPlaceOf : Program → List Object → ℕ → CType → Scalar → Type 0
IsPlaceOf p store n t s = IsPlace p store n t (s ∷ []) × IsPointer store s

-- an argument for each parameter of these numbers, or none: each converts to its parameter's type
abbrev pub ArePassed : Program → List Object → List ℕ → List (List Scalar) → Type 0
ArePassed p store [] found = Unit {0}
ArePassed p store (number ∷ numbers) [] = Unit {0}
ArePassed p store (number ∷ numbers) (v ∷ found) = AreOf store (types_in p number) (value_as (object_type p number) v) × ArePassed p store numbers found
