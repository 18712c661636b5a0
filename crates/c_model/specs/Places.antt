-- The places of lvalues (6.3.2.1p1). What no accepted program has gives nothing. Sections are those of ISO/IEC 9899:2011.
use Rattle.std.specs.Prelude.{ℕ, List, [], ◌∷◌, Option, Some}
use Rattle.c_tree.specs.declared.expression.UnaryOperator.{UnaryOperator}
use Rattle.c_tree.specs.declared.expression.UnaryOperator.TheVariants.{Indirection}
use Rattle.c_tree.specs.declared.expression.Expression.{Expression, out-Expression}
use Rattle.c_tree.specs.declared.expression.Declarator.TheOpen.{Expression-F as e}
use Rattle.c_kinds.specs.declared.types.CType.{CType}
use Rattle.c_kinds.specs.Types.{inner}
use Rattle.c_rules.specs.declared.names.Meaning.{Meaning}
use Rattle.c_rules.specs.declared.names.Meaning.TheVariants as meaning
use Rattle.c_rules.specs.declared.program.Program.{Program}
use Rattle.c_model.specs.declared.values.Scalar.{Scalar}
use Rattle.c_model.specs.Programs.{ExpressionNode, type_of, meaning_at, offset_of}
use Rattle.c_model.specs.Values.{scalar_in, number_in}
use Rattle.c_model.specs.Store.{place_of, further, followed}
use Rattle.c_model.specs.Operators.{element_of}
use Rattle.c_model.specs.Configurations.{Locates, State, Move}
use Rattle.c_model.specs.Moves.{giving, gives, asks, locates, settles}

-- the object that a name names (6.5.1p2)
abbrev pub named_place : Option Meaning → State → Move
named_place (Some (meaning.Object number)) c = gives (place_of number c.store ∷ []) c
named_place _ c = gives [] c

-- `array[index]` (6.5.2.1)
abbrev pub element_place : Program → ℕ → Expression → Expression → Expression → List (List Scalar) → State → Move
element_place p at array index x [] c = asks array (Locates x []) c
element_place p at array index x (v ∷ []) c = asks index (Locates x (v ∷ [])) c
element_place p at array index x (v ∷ w ∷ _) c = settles at (element_of p (type_of p array) (scalar_in v) (number_in (scalar_in w)) c.store) (λ s. giving (s ∷ []) c)

-- `object.name` (6.5.2.3p3)
abbrev pub member_place : Program → Expression → List ℕ → Expression → List (List Scalar) → State → Move
member_place p object name x [] c = locates object (Locates x []) c
member_place p object name x (v ∷ _) c = gives (further (offset_of p (type_of p object) name) (scalar_in v) ∷ []) c

-- what a pointer of this type leads to, so many cells further (6.5.3.2p4)
abbrev pub pointed : Program → ℕ → CType → ℕ → List Scalar → State → Move
pointed p at t offset v c = settles at (followed p (inner t) (scalar_in v) c.store) (λ s. giving (further offset s ∷ []) c)

-- `pointer->name` (6.5.2.3p4)
abbrev pub pointed_member_place : Program → ℕ → Expression → List ℕ → Expression → List (List Scalar) → State → Move
pointed_member_place p at pointer name x [] c = asks pointer (Locates x []) c
pointed_member_place p at pointer name x (v ∷ _) c = pointed p at (type_of p pointer) (offset_of p (inner (type_of p pointer)) name) v c

-- `*pointer` (6.5.3.2p4)
abbrev pub pointed_place : Program → ℕ → UnaryOperator → Expression → Expression → List (List Scalar) → State → Move
pointed_place p at Indirection pointer x [] c = asks pointer (Locates x []) c
pointed_place p at Indirection pointer x (v ∷ _) c = pointed p at (type_of p pointer) 0 v c
pointed_place p at _ operand x found c = gives [] c

-- each kind of lvalue (6.5.1p2, 6.5.2.1, 6.5.2.3, 6.5.3.2)
abbrev pub place_node : Program → Expression → ExpressionNode → List (List Scalar) → State → Move
place_node p x (e.«Expression::Name» name at) found c = named_place (meaning_at p at) c
place_node p x (e.Subscript array index at) found c = element_place p at array index x found c
place_node p x (e.Member object name at) found c = member_place p object name x found c
place_node p x (e.PointedMember pointer name at) found c = pointed_member_place p at pointer name x found c
place_node p x (e.Unary operator operand at) found c = pointed_place p at operator operand x found c
place_node p x _ found c = gives [] c

-- the place of an expression, with what its operands gave so far
abbrev pub place_move : Program → Expression → List (List Scalar) → State → Move
place_move p x found c = place_node p x (out-Expression x) found c
