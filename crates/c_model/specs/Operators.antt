-- Operators on values of any type, and reading and storing through places. Sections are those of ISO/IEC 9899:2011.
use Rattle.std.specs.Prelude.{ℕ, not, ℤ, pos, ◌-ℤ◌, List, [], ◌∷◌, Option, Some, None}
use Rattle.kv_num.specs.declared.types.IntType.{IntType}
use Rattle.kv_num.specs.declared.types.IntType.TheVariants.{Int}
use Rattle.c_tree.specs.declared.expression.AssignOperator.{AssignOperator}
use Rattle.c_tree.specs.declared.expression.AssignOperator.TheVariants as a
use Rattle.c_tree.specs.declared.expression.BinaryOperator.{BinaryOperator}
use Rattle.c_tree.specs.declared.expression.BinaryOperator.TheVariants as b
use Rattle.c_tree.specs.declared.expression.UnaryOperator.{UnaryOperator}
use Rattle.c_tree.specs.declared.expression.Step.{Step}
use Rattle.c_tree.specs.declared.expression.Step.TheVariants.{Increment, Decrement}
use Rattle.c_kinds.specs.declared.types.CType.{CType}
use Rattle.c_kinds.specs.declared.types.Shape.{Shape}
use Rattle.c_kinds.specs.declared.types.Shape.TheVariants as shape
use Rattle.c_kinds.specs.Types.{integer, shape_of, inner}
use Rattle.c_rules.specs.declared.program.Program.{Program}
use Rattle.c_model.specs.declared.values.Scalar.{Scalar}
use Rattle.c_model.specs.declared.values.Scalar.TheVariants.{Number}
use Rattle.c_model.specs.declared.values.Object.{Object}
use Rattle.c_model.specs.declared.values.Outcome.{Outcome}
use Rattle.c_model.specs.declared.values.Outcome.TheVariants.{Gives}
use Rattle.c_model.specs.Programs.{checks, cell_count}
use Rattle.c_model.specs.Values.{truth_of, scalar_in, number_in, as_pointer, same_pointer, value_as}
use Rattle.c_model.specs.Arithmetic.{on_numbers, on_number}
use Rattle.c_model.specs.Store.{held, stored, followed, moved, element}
use Rattle.c_model.specs.Configurations.{State, Move}
use Rattle.c_model.specs.Moves.{giving, settles, and_then}

-- ---- operators on values

-- n elements further from a pointer of this type, or from the first element of an array
abbrev pub moved_by : Program → CType → ℤ → Scalar → List Object → Outcome
moved_by p t n s store = moved (cell_count p (inner t)) n s store

-- == and != where one operand is a pointer (6.5.9p5, p6)
abbrev pub on_pointers : BinaryOperator → Scalar → Scalar → Outcome
on_pointers b.NotEqual v w = Gives (truth_of (not (same_pointer (as_pointer v) (as_pointer w))))
on_pointers _ v w = Gives (truth_of (same_pointer (as_pointer v) (as_pointer w)))

-- a pointer and an integer, or two pointers (6.5.6p8, 6.5.9p6)
abbrev pub on_mixed : Program → BinaryOperator → Shape → CType → CType → Scalar → Scalar → List Object → Outcome
on_mixed p b.Add (shape.Integer kind) left right v w store = moved_by p right (number_in v) w store
on_mixed p b.Add _ left right v w store = moved_by p left (number_in w) v store
on_mixed p b.Subtract _ left right v w store = moved_by p left (pos 0 -ℤ number_in w) v store
on_mixed p op _ left right v w store = on_pointers op v w

-- integers are converted, pointers moved or compared (6.5.6, 6.5.9)
abbrev pub operate_by : Program → BinaryOperator → Shape → Shape → CType → CType → Scalar → Scalar → List Object → Outcome
operate_by p op (shape.Integer k) (shape.Integer l) left right v w store = on_numbers (checks p) op k l v w
operate_by p op s other left right v w store = on_mixed p op s left right v w store

-- an operator on operands of these types
abbrev pub operate : Program → BinaryOperator → CType → CType → Scalar → Scalar → List Object → Outcome
operate p op left right v w store = operate_by p op (shape_of left) (shape_of right) left right v w store

-- the integer type of an operand that has one
abbrev pub integer_of : Shape → IntType
integer_of (shape.Integer kind) = kind
integer_of _ = Int

-- `+ - ~` before an operand of this type (6.5.3.3)
abbrev pub operate_on : Program → UnaryOperator → CType → Scalar → Outcome
operate_on p op t v = on_number (checks p) op (integer_of (shape_of t)) v

-- `++` adds the int 1 and `--` subtracts it (6.5.2.4p2, 6.5.3.1p2)
abbrev pub step_operator : Step → BinaryOperator
step_operator Increment = b.Add
step_operator Decrement = b.Subtract

-- the operator of a compound assignment; `=` has none (6.5.16.2)
abbrev pub operator_of : AssignOperator → Option BinaryOperator
operator_of a.Plain = None
operator_of a.Multiply = Some b.Multiply
operator_of a.Divide = Some b.Divide
operator_of a.Remainder = Some b.Remainder
operator_of a.Add = Some b.Add
operator_of a.Subtract = Some b.Subtract
operator_of a.ShiftLeft = Some b.ShiftLeft
operator_of a.ShiftRight = Some b.ShiftRight
operator_of a.BitAnd = Some b.BitAnd
operator_of a.BitXor = Some b.BitXor
operator_of a.BitOr = Some b.BitOr

-- ---- reading and storing

-- an array is read as the place of its first element (6.3.2.1p3), any other object as its cells (6.3.2.1p2)
abbrev pub read_by : Program → Shape → CType → Scalar → List Object → List Scalar
read_by p (shape.Array length) t place store = place ∷ []
read_by p _ t place store = held (cell_count p t) place store

-- what an object of this type at a place gives as a value; an array gives the pointer to its first element (6.3.2.1p2, p3)
abbrev pub read : Program → CType → Scalar → List Object → List Scalar
read p t place store = read_by p (shape_of t) t place store

-- what a place holds is replaced (6.5.16p3)
abbrev pub keeping : List Scalar → Scalar → State → State
keeping v place c = record c { store = stored v place c.store }

-- the value is stored as one of the place's type, and is what the assignment gives (6.5.16.1p2, 6.5.16p3)
abbrev pub assigning : CType → Scalar → List Scalar → State → State
assigning t place v c = giving (value_as t v) (keeping (value_as t v) place c)

-- a compound reads its place only now, after its right side (6.5.16.2p3)
abbrev pub compound : Program → BinaryOperator → CType → CType → Scalar → List Scalar → List Object → Outcome
compound p op target other place v store = operate p op target other (scalar_in (read p target place store)) (scalar_in v) store

-- what `++` or `--` stores: the operand and 1, added or subtracted (6.5.2.4p2)
abbrev pub stepped : Program → Step → CType → Scalar → List Object → Outcome
stepped p step t place store = compound p (step_operator step) t (integer Int) place (Number (pos 1) ∷ []) store

-- after an operand they give the value that it had before (6.5.2.4p2)
abbrev pub postfix : Program → ℕ → Step → CType → Scalar → State → Move
postfix p at step t place c = settles at (stepped p step t place c.store) (λ s. giving (read p t place c.store) (keeping (value_as t (s ∷ [])) place c))

-- as the compound assignment of 1 (6.5.3.1p2)
abbrev pub prefix : Program → ℕ → Step → CType → Scalar → State → Move
prefix p at step t place c = settles at (stepped p step t place c.store) (λ s. assigning t place (s ∷ []) c)

-- ---- elements (6.5.2.1p2)

-- an element of an array is in its bounds; of what a pointer points into it is reached by moving and following (6.5.3.2p4)
abbrev pub element_by : Program → Shape → CType → Scalar → ℤ → List Object → Outcome
element_by p (shape.Array length) t place n store = element length (cell_count p (inner t)) n place
element_by p _ t pointer n store = and_then (moved_by p t n pointer store) (λ q. followed p (inner t) q store)

-- `e1[e2]` is the element e2 after the one to which e1 leads (6.5.2.1p2)
abbrev pub element_of : Program → CType → Scalar → ℤ → List Object → Outcome
element_of p t s n store = element_by p (shape_of t) t s n store
