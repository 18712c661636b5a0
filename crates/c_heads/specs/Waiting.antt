-- What items of the control stack give to those below them, and what those wait for. Sections are those of
-- ISO/IEC 9899:2011.
use Rattle.std.specs.Prelude.{◌≡◌, ℕ, zero, suc, List, [], ◌∷◌, slice_get}
use Rattle.c_tree.specs.declared.expression.Expression.{Expression, out-Expression}
use Rattle.c_tree.specs.declared.expression.Declarator.TheOpen.{Expression-F as e}
use Rattle.c_tree.specs.declared.expression.UnaryOperator.{UnaryOperator}
use Rattle.c_tree.specs.declared.expression.UnaryOperator.TheVariants as u
use Rattle.c_kinds.specs.declared.types.CType.{CType}
use Rattle.c_kinds.specs.Types.{inner, pointer_to}
use Rattle.c_rules.specs.declared.program.Program.{Program}
use Rattle.c_model.specs.declared.values.Scalar.{Scalar}
use Rattle.c_model.specs.declared.values.Object.{Object}
use Rattle.c_model.specs.Programs.{ExpressionNode, type_at, type_of, types_of}
use Rattle.c_model.specs.Heads.{Wait, AsValue, AsPlace, value_wait, array_wait, argument_wait, nothing_waits}
use Rattle.c_heads.specs.Typed.{IsOfType, IsPlaceOf}

-- ---- values and places that are given

-- what an item takes from above, and gives to the one below: nothing, or a value or place. What takes nothing and has values of
-- its own stands on top: `Acts` is said of statements that do, `Evaluates` of expressions
pub data Given : Type 0 where
  Runs : Given
  Acts : Given
  Continues : Given
  Evaluates : Given
  Hands : (w : Wait) → Given

-- the type of what is given, as a value: a place is a pointer
abbrev pub type_given : Wait → CType
type_given (AsValue t) = t
type_given (AsPlace t) = pointer_to (inner t)

-- a value of this type, or a place of it in one of the first n objects
abbrev pub IsGiven : Program → List Object → ℕ → Wait → List Scalar → Type 0
IsGiven p store n (AsValue t) v = IsOfType p store t v
IsGiven p store n (AsPlace t) (s ∷ []) = IsPlaceOf p store n t s
IsGiven p store n (AsPlace t) _ = ⊥

-- what is given may stand for what is awaited: it has the same cells; the place of an array is a pointer to its first element
abbrev pub StandsFor : Program → Wait → Wait → Type 0
StandsFor p (AsValue t) (AsValue v) = types_of p t ≡ types_of p v
StandsFor p (AsPlace t) (AsPlace v) = types_of p t ≡ types_of p v
StandsFor p (AsPlace t) (AsValue v) = types_of p (pointer_to (inner t)) ≡ types_of p v
StandsFor p (AsValue t) (AsPlace v) = ⊥

-- an expression gives its value; an array gives its place
abbrev pub given_by : Program → Expression → Wait
given_by p x = array_wait p x

-- ---- what an expression waits for, with so many operands found

-- the place of the whole, where that is read
abbrev pub whole_place : Program → ℕ → Wait
whole_place p at = AsPlace (type_at p at)

-- the operands of `&array[index]`, in order
abbrev pub element_awaited : Program → Expression → Expression → ℕ → Wait
element_awaited p array index zero = array_wait p array
element_awaited p array index (suc k) = value_wait p index

-- the operand of `&`: `*pointer`, `array[index]`, or another place (6.5.3.2p3)
abbrev pub address_awaited : Program → Expression → ExpressionNode → ℕ → Wait
address_awaited p operand (e.Unary operator pointer at) k = value_wait p pointer
address_awaited p operand (e.Subscript array index at) k = element_awaited p array index k
address_awaited p operand _ k = AsPlace (type_of p operand)

abbrev pub unary_awaited : Program → ℕ → UnaryOperator → Expression → ℕ → Wait
unary_awaited p at u.Address operand k = address_awaited p operand (out-Expression operand) k
unary_awaited p at u.Indirection operand k = whole_place p at
unary_awaited p at _ operand k = value_wait p operand

abbrev pub two_awaited : Wait → Wait → ℕ → Wait
two_awaited first second zero = first
two_awaited first second (suc k) = second

-- for its value
abbrev pub awaited : Program → ExpressionNode → ℕ → Wait
awaited p (e.Subscript array index at) k = whole_place p at
awaited p (e.Call function arguments at) k = argument_wait p (slice_get arguments k)
awaited p (e.Member object name at) k = whole_place p at
awaited p (e.PointedMember pointer name at) k = whole_place p at
awaited p (e.Postfix step operand at) k = AsPlace (type_of p operand)
awaited p (e.Prefix step operand at) k = AsPlace (type_of p operand)
awaited p (e.Unary operator operand at) k = unary_awaited p at operator operand k
awaited p (e.Cast type_name operand at) k = value_wait p operand
awaited p (e.Binary operator left right at) k = two_awaited (value_wait p left) (value_wait p right) k
awaited p (e.Conditional test first otherwise at) k = value_wait p test
awaited p (e.Assign operator target value at) k = two_awaited (AsPlace (type_of p target)) (value_wait p value) k
awaited p _ k = nothing_waits

-- for its place
abbrev pub place_awaited : Program → ExpressionNode → ℕ → Wait
place_awaited p (e.Subscript array index at) k = two_awaited (array_wait p array) (value_wait p index) k
place_awaited p (e.Member object name at) k = AsPlace (type_of p object)
place_awaited p (e.PointedMember pointer name at) k = value_wait p pointer
place_awaited p (e.Unary operator operand at) k = value_wait p operand
place_awaited p _ k = nothing_waits

-- what the operands gave, from this one on
abbrev pub AreFound : Program → List Object → ℕ → (ℕ → Wait) → ℕ → List (List Scalar) → Type 0
AreFound p store n w k [] = Unit {0}
AreFound p store n w k (v ∷ found) = IsGiven p store n (w k) v × AreFound p store n w (suc k) found

-- ---- how many operands an expression may have found while it waits for the next one

-- `&array[index]` has the first of two
abbrev pub AddressMayWait : ExpressionNode → Type 0
AddressMayWait (e.Subscript array index at) = Unit {0}
AddressMayWait _ = ⊥

abbrev pub UnaryMayWait : UnaryOperator → Expression → Type 0
UnaryMayWait u.Address operand = AddressMayWait (out-Expression operand)
UnaryMayWait _ operand = ⊥

-- one that needs a value
abbrev pub MayWait : ℕ → ExpressionNode → Type 0
MayWait zero l = Unit {0}
MayWait (suc k) (e.Call function arguments at) = Unit {0}
MayWait (suc zero) (e.Binary operator left right at) = Unit {0}
MayWait (suc zero) (e.Assign operator target value at) = Unit {0}
MayWait (suc zero) (e.Unary operator operand at) = UnaryMayWait operator operand
MayWait _ _ = ⊥

-- one that needs a place
abbrev pub PlaceMayWait : ℕ → ExpressionNode → Type 0
PlaceMayWait zero l = Unit {0}
PlaceMayWait (suc zero) (e.Subscript array index at) = Unit {0}
PlaceMayWait _ _ = ⊥
