-- The values of expressions (6.5). Operands are evaluated from left to right. What no accepted program has gives nothing.
-- Sections are those of ISO/IEC 9899:2011.
use Rattle.std.specs.Prelude.{ℕ, true, false, ℤ, List, [], ◌∷◌, Option, Some, None}
use Rattle.c_tree.specs.declared.expression.AssignOperator.{AssignOperator}
use Rattle.c_tree.specs.declared.expression.BinaryOperator.{BinaryOperator}
use Rattle.c_tree.specs.declared.expression.BinaryOperator.TheVariants as b
use Rattle.c_tree.specs.declared.expression.UnaryOperator.{UnaryOperator}
use Rattle.c_tree.specs.declared.expression.UnaryOperator.TheVariants as u
use Rattle.c_tree.specs.declared.expression.Step.{Step}
use Rattle.c_tree.specs.declared.expression.Expression.{Expression, out-Expression}
use Rattle.c_tree.specs.declared.expression.Declarator.TheOpen.{Expression-F as e}
use Rattle.c_kinds.specs.declared.types.CType.{CType}
use Rattle.c_rules.specs.declared.names.Meaning.{Meaning}
use Rattle.c_rules.specs.declared.names.Meaning.TheVariants as meaning
use Rattle.c_rules.specs.declared.program.Program.{Program}
use Rattle.c_model.specs.declared.values.Scalar.{Scalar}
use Rattle.c_model.specs.declared.values.Scalar.TheVariants.{Number}
use Rattle.c_model.specs.Programs.{ExpressionNode, token_of, type_at, type_of, type_named, meaning_at, bytes}
use Rattle.c_model.specs.Functions.{called}
use Rattle.c_model.specs.Values.{truth_of, scalar_in, number_in, is_no, value_as}
use Rattle.c_model.specs.Store.{place_of}
use Rattle.c_model.specs.Operators.{moved_by, operate, operate_on, operator_of, read, assigning, compound, postfix, prefix}
use Rattle.c_model.specs.KnownFunctions.{call_move}
use Rattle.c_model.specs.Configurations.{Value, Needs, CommaParts, Truth, Converts, Drops, State, Move, Goes, Forks}
use Rattle.c_model.specs.Moves.{put, giving, gives, asking, asks, locates, settles}

-- ---- names, constants and lvalues

-- an enumeration constant has its value (6.4.4.3)
abbrev pub constant_value : Option ℤ → State → Move
constant_value None c = gives [] c
constant_value (Some n) c = gives (Number n ∷ []) c

-- what a name stands for: the value of its object, or a constant (6.5.1, 6.4.4.3)
abbrev pub name_value : Program → Option Meaning → CType → State → Move
name_value p (Some (meaning.Object number)) t c = gives (read p t (place_of number c.store) c.store) c
name_value p (Some (meaning.Constant value)) t c = constant_value value c
name_value p _ t c = gives [] c

-- an lvalue gives what its place holds (6.3.2.1p2)
abbrev pub lvalue : Program → CType → Expression → List (List Scalar) → State → Move
lvalue p t x [] c = locates x (Needs x []) c
lvalue p t x (v ∷ _) c = gives (read p t (scalar_in v) c.store) c

-- ---- one operand

-- an operand's own value, or its place, is that of the whole (6.5.3.2p3)
abbrev pub passed_on : Expression → Expression → List (List Scalar) → State → Move
passed_on operand x [] c = asks operand (Needs x []) c
passed_on operand x (v ∷ _) c = gives v c

-- an operand whose place is that of the whole (6.5.3.2p3)
abbrev pub place_passed_on : Expression → Expression → List (List Scalar) → State → Move
place_passed_on operand x [] c = locates operand (Needs x []) c
place_passed_on operand x (v ∷ _) c = gives v c

-- `&*pointer`; no other operator before an operand gives a place
abbrev pub address_pointed : UnaryOperator → Expression → Expression → List (List Scalar) → State → Move
address_pointed u.Indirection pointer x found c = passed_on pointer x found c
address_pointed _ operand x found c = gives [] c

-- `&array[index]` is `array + index`
abbrev pub address_element : Program → ℕ → Expression → Expression → Expression → List (List Scalar) → State → Move
address_element p at array index x [] c = asks array (Needs x []) c
address_element p at array index x (v ∷ []) c = asks index (Needs x (v ∷ [])) c
address_element p at array index x (v ∷ w ∷ _) c = settles at (moved_by p (type_of p array) (number_in (scalar_in w)) (scalar_in v) c.store) (λ s. giving (s ∷ []) c)

-- the operand of `&`: `*pointer`, `array[index]`, or another place (6.5.3.2p3)
abbrev pub address_node : Program → Expression → ExpressionNode → Expression → List (List Scalar) → State → Move
address_node p operand (e.Unary operator pointer at) x found c = address_pointed operator pointer x found c
address_node p operand (e.Subscript array index at) x found c = address_element p at array index x found c
address_node p operand _ x found c = place_passed_on operand x found c

-- `&operand`, which is the operand's place
abbrev pub address_value : Program → Expression → Expression → List (List Scalar) → State → Move
address_value p operand x found c = address_node p operand (out-Expression operand) x found c

-- 6.5.3.2, 6.5.3.3
abbrev pub unary_value : Program → ℕ → UnaryOperator → Expression → Expression → List (List Scalar) → State → Move
unary_value p at u.Address operand x found c = address_value p operand x found c
unary_value p at u.Indirection operand x found c = lvalue p (type_at p at) x found c
unary_value p at op operand x [] c = asks operand (Needs x []) c
unary_value p at u.Not operand x (v ∷ _) c = gives (truth_of (is_no v) ∷ []) c
unary_value p at op operand x (v ∷ _) c = settles at (operate_on p op (type_of p operand) (scalar_in v)) (λ s. giving (s ∷ []) c)

-- 6.5.4
abbrev pub cast_value : CType → Expression → Expression → List (List Scalar) → State → Move
cast_value t operand x [] c = asks operand (Needs x []) c
cast_value t operand x (v ∷ _) c = gives (value_as t v) c

-- `++` and `--`
abbrev pub postfix_value : Program → ℕ → Step → Expression → Expression → List (List Scalar) → State → Move
postfix_value p at step operand x [] c = locates operand (Needs x []) c
postfix_value p at step operand x (v ∷ _) c = postfix p at step (type_of p operand) (scalar_in v) c

-- the same before an operand (6.5.3.1)
abbrev pub prefix_value : Program → ℕ → Step → Expression → Expression → List (List Scalar) → State → Move
prefix_value p at step operand x [] c = locates operand (Needs x []) c
prefix_value p at step operand x (v ∷ _) c = prefix p at step (type_of p operand) (scalar_in v) c

-- ---- two operands

-- with its left operand found: `&&` and `||` evaluate the right one only where the left one leaves it open (6.5.13p4,
-- 6.5.14p4), and then the left one no longer waits
abbrev pub second : BinaryOperator → Expression → Expression → List Scalar → State → Move
second b.LogicalAnd right x v c = Forks (is_no v) (giving (truth_of false ∷ []) c) (asking right Truth c)
second b.LogicalOr right x v c = Forks (is_no v) (asking right Truth c) (giving (truth_of true ∷ []) c)
second op right x v c = asks right (Needs x (v ∷ [])) c

-- an operator between two operands (6.5.5 to 6.5.14)
abbrev pub binary_value : Program → ℕ → BinaryOperator → Expression → Expression → Expression → List (List Scalar) → State → Move
binary_value p at op left right x [] c = asks left (Needs x []) c
binary_value p at op left right x (v ∷ []) c = second op right x v c
binary_value p at op left right x (v ∷ w ∷ _) c = settles at (operate p op (type_of p left) (type_of p right) (scalar_in v) (scalar_in w) c.store) (λ s. giving (s ∷ []) c)

-- ---- choices, assignments, commas

-- one of the two is evaluated, and given in the common type (6.5.15p4, p5)
abbrev pub conditional_value : CType → Expression → Expression → Expression → Expression → List (List Scalar) → State → Move
conditional_value t test first otherwise x [] c = asks test (Needs x []) c
conditional_value t test first otherwise x (v ∷ _) c = Forks (is_no v) (asking otherwise (Converts t) c) (asking first (Converts t) c)

-- `=` stores the value, a compound what its operator gives (6.5.16.1, 6.5.16.2)
abbrev pub assigns : Program → ℕ → Option BinaryOperator → CType → CType → Scalar → List Scalar → State → Move
assigns p at None target other place v c = Goes (assigning target place v c)
assigns p at (Some op) target other place v c = settles at (compound p op target other place v c.store) (λ s. assigning target place (s ∷ []) c)

-- the place first, then the value (6.5.16p3 leaves the order open)
abbrev pub assign_value : Program → ℕ → AssignOperator → Expression → Expression → Expression → List (List Scalar) → State → Move
assign_value p at op target value x [] c = locates target (Needs x []) c
assign_value p at op target value x (v ∷ []) c = asks value (Needs x (v ∷ [])) c
assign_value p at op target value x (v ∷ w ∷ _) c = assigns p at (operator_of op) (type_of p target) (type_of p value) (scalar_in v) w c

-- the parts of a comma expression: the last one's value is its own (6.5.17p2)
abbrev pub comma_parts : List Expression → State → Move
comma_parts [] c = gives [] c
comma_parts (part ∷ []) c = Goes (put (Value part []) c)
comma_parts (part ∷ parts) c = asks part Drops (put (CommaParts parts) c)

-- ---- the value of an expression, with what its operands gave so far

-- each kind of expression (6.5.1 to 6.5.17)
abbrev pub value_node : Program → Expression → ExpressionNode → List (List Scalar) → State → Move
value_node p x (e.«Expression::Name» name at) found c = name_value p (meaning_at p at) (type_at p at) c
value_node p x (e.Constant kind value at) found c = gives (Number value ∷ []) c
value_node p x (e.Text at) found c = gives [] c
value_node p x (e.Subscript array index at) found c = lvalue p (type_at p at) x found c
value_node p x (e.Call function arguments at) found c = call_move p (called p (meaning_at p (token_of function))) (token_of function) arguments x found c
value_node p x (e.Member object name at) found c = lvalue p (type_at p at) x found c
value_node p x (e.PointedMember pointer name at) found c = lvalue p (type_at p at) x found c
value_node p x (e.Postfix step operand at) found c = postfix_value p at step operand x found c
value_node p x (e.Prefix step operand at) found c = prefix_value p at step operand x found c
value_node p x (e.Unary operator operand at) found c = unary_value p at operator operand x found c
-- a size is a constant: the operand isn't evaluated (6.5.3.4p2)
value_node p x (e.SizeofExpression operand at) found c = gives (Number (bytes p (type_of p operand)) ∷ []) c
value_node p x (e.SizeofType type_name at) found c = gives (Number (bytes p (type_named p at)) ∷ []) c
value_node p x (e.Cast type_name operand at) found c = cast_value (type_at p at) operand x found c
value_node p x (e.Binary operator left right at) found c = binary_value p at operator left right x found c
value_node p x (e.Conditional test first otherwise at) found c = conditional_value (type_at p at) test first otherwise x found c
value_node p x (e.Assign operator target value at) found c = assign_value p at operator target value x found c
value_node p x (e.Comma parts at) found c = comma_parts parts c

-- each kind of expression (6.5.1 to 6.5.17)
abbrev pub value_move : Program → Expression → List (List Scalar) → State → Move
value_move p x found c = value_node p x (out-Expression x) found c
