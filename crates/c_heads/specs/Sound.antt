-- What the machine asks of a program's types, at each state that the bare machine reaches. Sections are those of
-- ISO/IEC 9899:2011.
use Rattle.std.specs.Prelude.{◌≡◌, ℕ, ◌+◌, ◌≤◌, List, [], ◌∷◌, length, drop, position, Option, Some, None, IsTrue, not, slice_get}
use Rattle.kv_num.specs.declared.types.IntType.TheVariants.{Int}
use Rattle.kv_num.specs.IntType.{InRange}
use Rattle.c_tree.specs.declared.expression.BinaryOperator.{BinaryOperator}
use Rattle.c_tree.specs.declared.expression.UnaryOperator.{UnaryOperator}
use Rattle.c_tree.specs.declared.expression.UnaryOperator.TheVariants as u
use Rattle.c_tree.specs.declared.expression.Expression.{Expression, out-Expression}
use Rattle.c_tree.specs.declared.expression.Declarator.TheOpen.{Expression-F as e}
use Rattle.c_tree.specs.declared.declaration.Initialiser.{Initialiser, out-Initialiser}
use Rattle.c_tree.specs.declared.declaration.Initialiser.TheOpen.{Initialiser-F}
use Rattle.c_tree.specs.declared.declaration.Initialiser.TheOpen.{Initialiser-F as i}
use Rattle.c_tree.specs.declared.statement.Statement.{Statement, out-Statement}
use Rattle.c_tree.specs.declared.statement.BlockItem.TheOpen.{Statement-F as t}
use Rattle.c_kinds.specs.declared.types.CType.{CType}
use Rattle.c_kinds.specs.declared.types.Shape.{Shape}
use Rattle.c_kinds.specs.declared.types.Shape.TheVariants as shape
use Rattle.c_kinds.specs.Types.{void, shape_of, inner, is_array}
use Rattle.c_kinds.specs.Integers.{size_type}
use Rattle.c_kinds.specs.Layouts.{begins_with, struct_cells, struct_cell_types}
use Rattle.c_rules.specs.declared.names.KnownFunction.{KnownFunction}
use Rattle.c_rules.specs.declared.names.KnownFunction.TheVariants as known
use Rattle.c_rules.specs.declared.names.Meaning.{Meaning}
use Rattle.c_rules.specs.declared.names.Meaning.TheVariants as meaning
use Rattle.c_rules.specs.declared.program.Program.{Program}
use Rattle.c_model.specs.declared.values.Scalar.{Scalar}
use Rattle.c_model.specs.declared.values.Object.{Object}
use Rattle.c_model.specs.Programs.{ExpressionNode, StatementNode, token_of, type_of, types_of, types_in, meaning_at, object_type, offset_of}
use Rattle.c_model.specs.Functions.{Called, Defined, Known, Neither, called, result_of, parameters_of}
use Rattle.c_model.specs.Store.{is_numbered}
use Rattle.c_model.specs.Operators.{operator_of}
use Rattle.c_model.specs.Declarations.{part_offset}
use Rattle.c_model.specs.Configurations.{Item, Value, Place, Work, Breaking, Continuing, Back, Unset, Fills, Parts, Keeps, State}
use Rattle.c_model.specs.Steps.{start}
use Rattle.c_model.specs.Heads.{BareRun}
use Rattle.c_heads.specs.Typed.{ConvertsTo, IsLaidOut, binary_shape, unary_shape}
use Rattle.c_heads.specs.Waiting.{type_given, given_by}
use Rattle.c_heads.specs.Controls.{ReturnsBy, running_in, HasPart}

-- an initialiser (6.7.9)
abbrev pub InitialiserNode : Type 0
InitialiserNode = Initialiser-F Initialiser

-- the type of the value that an expression gives, before an operator converts it
abbrev pub value_type : Program → Expression → CType
value_type p x = type_given (given_by p x)

-- ---- objects

-- the object of this declaration lives
abbrev pub Lives : List Object → ℕ → Type 0
Lives store number = (object : ℕ) × (position (is_numbered number) store ≡ Some object)

abbrev pub MeaningLives : List Object → Option Meaning → Type 0
MeaningLives store (Some (meaning.Object number)) = Lives store number
MeaningLives store _ = Unit {0}

-- a name that is evaluated names a living object
abbrev pub NameLives : Program → List Object → ExpressionNode → Type 0
NameLives p store (e.«Expression::Name» name at) = MeaningLives store (meaning_at p at)
NameLives p store _ = Unit {0}

-- an object that gets its first values lives
abbrev pub NamesLive : Program → List Object → Item → Type 0
NamesLive p store (Value x found) = NameLives p store (out-Expression x)
NamesLive p store (Place x found) = NameLives p store (out-Expression x)
NamesLive p store (Unset number offset) = Lives store number
NamesLive p store (Parts number offset to part left) = Lives store number
NamesLive p store (Keeps number offset v) = Lives store number
NamesLive p store _ = Unit {0}

-- ---- types of results

-- a type whose values are results: an array is none
abbrev pub IsResultType : CType → Type 0
IsResultType t = IsTrue (not (is_array t))

abbrev pub HasShape : CType → Shape → Type 0
HasShape t s = shape_of t ≡ s

abbrev pub IsScalarShape : Shape → Type 0
IsScalarShape (shape.Integer kind) = Unit {0}
IsScalarShape shape.Pointer = Unit {0}
IsScalarShape _ = ⊥

-- the value of one type is one of the other, which is no array
abbrev pub SameCells : Program → CType → CType → Type 0
SameCells p t from = (types_of p from ≡ types_of p t) × IsResultType t

-- 6.5.1
abbrev pub IsNamed : Program → CType → Option Meaning → Type 0
IsNamed p t (Some (meaning.Object number)) = IsTrue (begins_with (types_in p number) (types_of p t))
IsNamed p t (Some (meaning.Constant (Some n))) = HasShape t (shape.Integer Int) × InRange Int n
IsNamed p t _ = ⊥

-- `&*pointer` is the pointer (6.5.3.2p3)
abbrev pub IsPassedOn : Program → UnaryOperator → Expression → Type 0
IsPassedOn p u.Indirection pointer = HasShape (value_type p pointer) shape.Pointer
IsPassedOn p _ pointer = ⊥

abbrev pub IsAddressed : Program → ExpressionNode → Type 0
IsAddressed p (e.Unary operator pointer at) = IsPassedOn p operator pointer
IsAddressed p _ = Unit {0}

-- 6.5.3
abbrev pub IsUnary : Program → UnaryOperator → CType → Expression → Type 0
IsUnary p u.Address t operand = HasShape t shape.Pointer × IsAddressed p (out-Expression operand)
IsUnary p u.Indirection t operand = Unit {0}
IsUnary p u.Not t operand = HasShape t (shape.Integer Int)
IsUnary p _ t operand = HasShape t (unary_shape (shape_of (type_of p operand)))

-- the target's type is that of the whole; a compound stores what its operator gives (6.5.16)
abbrev pub IsStored : Program → Option BinaryOperator → CType → CType → Type 0
IsStored p None target value = ConvertsTo p target value
IsStored p (Some op) target value = IsScalarShape (shape_of target)

-- an argument for each parameter converts to its type (6.5.2.2p2, p7)
abbrev pub ArePassable : Program → List ℕ → List Expression → Type 0
ArePassable p (number ∷ numbers) (argument ∷ arguments) = ConvertsTo p (object_type p number) (value_type p argument) × ArePassable p numbers arguments
ArePassable p [] arguments = Unit {0}
ArePassable p (number ∷ numbers) [] = ⊥

abbrev pub IsKnownCall : Program → CType → KnownFunction → Type 0
IsKnownCall p t (known.Nondet kind) = HasShape t (shape.Integer kind)
IsKnownCall p t _ = types_of p t ≡ []

abbrev pub IsCall : Program → CType → List Expression → Called → Type 0
IsCall p t arguments (Defined f) = SameCells p t (result_of p f) × ArePassable p (parameters_of p f) arguments
IsCall p t arguments (Known function) = IsKnownCall p t function × IsResultType t
IsCall p t arguments Neither = ⊥

-- 6.5.17
abbrev pub IsLast : Program → CType → List Expression → Type 0
IsLast p t [] = ⊥
IsLast p t (x ∷ []) = SameCells p t (value_type p x)
IsLast p t (x ∷ (y ∷ rest)) = IsLast p t (y ∷ rest)

-- what an expression of type t is made of, for its value (6.5)
abbrev pub IsTypedValue : Program → CType → ExpressionNode → Type 0
IsTypedValue p t (e.«Expression::Name» name at) = IsNamed p t (meaning_at p at)
IsTypedValue p t (e.Constant kind value at) = HasShape t (shape.Integer kind) × InRange kind value
IsTypedValue p t (e.Text at) = ⊥
IsTypedValue p t (e.Call function arguments at) = IsCall p t arguments (called p (meaning_at p (token_of function)))
IsTypedValue p t (e.Postfix step operand at) = SameCells p t (type_of p operand) × IsScalarShape (shape_of (type_of p operand))
IsTypedValue p t (e.Prefix step operand at) = SameCells p t (type_of p operand) × IsScalarShape (shape_of (type_of p operand))
IsTypedValue p t (e.Unary operator operand at) = IsUnary p operator t operand
IsTypedValue p t (e.SizeofExpression operand at) = HasShape t (shape.Integer (size_type p.checks.model))
IsTypedValue p t (e.SizeofType type_name at) = HasShape t (shape.Integer (size_type p.checks.model))
IsTypedValue p t (e.Cast type_name operand at) = ConvertsTo p t (value_type p operand) × IsResultType t
IsTypedValue p t (e.Binary operator left right at) = HasShape t (binary_shape operator (shape_of (type_of p left)) (shape_of (type_of p right)))
IsTypedValue p t (e.Conditional test first otherwise at) = ConvertsTo p t (value_type p first) × ConvertsTo p t (value_type p otherwise) × IsResultType t
IsTypedValue p t (e.Assign operator target value at) = SameCells p t (type_of p target) × IsStored p (operator_of operator) (type_of p target) (value_type p value)
IsTypedValue p t (e.Comma parts at) = IsLast p t parts
IsTypedValue p t _ = Unit {0}

-- a part of an object of one type is an object of the other
abbrev pub IsPart : Program → ℕ → CType → CType → Type 0
IsPart p offset whole t = (offset ≤ length (types_of p whole)) × IsTrue (begins_with (drop offset (types_of p whole)) (types_of p t))

abbrev pub IsObjectNamed : Program → CType → Option Meaning → Type 0
IsObjectNamed p t (Some (meaning.Object number)) = IsTrue (begins_with (types_in p number) (types_of p t))
IsObjectNamed p t _ = ⊥

abbrev pub IsPointed : Program → UnaryOperator → CType → CType → Type 0
IsPointed p u.Indirection t pointee = types_of p pointee ≡ types_of p t
IsPointed p _ t pointee = ⊥

-- what an expression of type t is made of, for its place (6.3.2.1p1)
abbrev pub IsTypedPlace : Program → CType → ExpressionNode → Type 0
IsTypedPlace p t (e.«Expression::Name» name at) = IsObjectNamed p t (meaning_at p at)
IsTypedPlace p t (e.Subscript array index at) = types_of p (inner (type_of p array)) ≡ types_of p t
IsTypedPlace p t (e.Member object name at) = IsPart p (offset_of p (type_of p object) name) (type_of p object) t
IsTypedPlace p t (e.PointedMember pointer name at) = IsPart p (offset_of p (inner (type_of p pointer)) name) (inner (type_of p pointer)) t
IsTypedPlace p t (e.Unary operator pointer at) = IsPointed p operator t (inner (type_of p pointer))
IsTypedPlace p t _ = ⊥

-- ---- statements and declarations

abbrev pub IsReturn : Program → Option ℕ → Option Expression → Type 0
IsReturn p function None = ReturnsBy p function void
IsReturn p function (Some value) = ReturnsBy p function (value_type p value)

-- 6.8.6.4
abbrev pub IsTypedStatement : Program → Option ℕ → StatementNode → Type 0
IsTypedStatement p function (t.Return value at) = IsReturn p function value
IsTypedStatement p function _ = Unit {0}

-- 6.7.9p11
abbrev pub IsFilled : Program → CType → InitialiserNode → Type 0
IsFilled p t (i.Value value at) = ConvertsTo p t (value_type p value)
IsFilled p t (i.Braces parts at) = Unit {0}

-- what is left out of a part of an object has the types of its cells (6.7.9p21)
abbrev pub IsLeftOut : Program → ℕ → ℕ → CType → ℕ → List Initialiser → Type 0
IsLeftOut p number offset t part [] = IsTrue (begins_with (drop (offset + part_offset p t part) (types_in p number)) (drop (part_offset p t part) (types_of p t)))
IsLeftOut p number offset t part (x ∷ left) = Unit {0}

-- `break` and `continue` don't leave a function (6.8.6.2p1, 6.8.6.3p1)
abbrev pub StaysInside : List Item → Type 0
StaysInside (Back function objects ∷ rest) = ⊥
StaysInside _ = Unit {0}

-- an initialiser is of a part of its object, and what it gives converts to the part's type
abbrev pub IsTypedInitialiser : Program → Item → Type 0
IsTypedInitialiser p (Fills number offset to x) = HasPart p number offset to × IsFilled p to (out-Initialiser x)
IsTypedInitialiser p (Parts number offset to part left) = IsLeftOut p number offset to part left
IsTypedInitialiser p _ = Unit {0}

abbrev pub JumpsInside : Item → List Item → Type 0
JumpsInside Breaking rest = StaysInside rest
JumpsInside Continuing rest = StaysInside rest
JumpsInside _ rest = Unit {0}

-- ---- states

-- the bare machine reaches the state, in which the item stands on top
pub record IsNext (p : Program) (c : State) (item : Item) (rest : List Item) : Type 0 where
  pub run : BareRun p (start p) c
  pub on_top : c.control ≡ item ∷ rest

-- what the machine asks of a program, wherever the bare machine comes
pub record Sound (p : Program) : Type 0 where
  -- each expression has the type that its operator gives
  pub values : (c : State) (x : Expression) (found : List (List Scalar)) (rest : List Item) → IsNext p c (Value x found) rest → IsTypedValue p (type_of p x) (out-Expression x)
  pub places : (c : State) (x : Expression) (found : List (List Scalar)) (rest : List Item) → IsNext p c (Place x found) rest → IsTypedPlace p (type_of p x) (out-Expression x)
  -- what is returned converts to the type of the function's result
  pub statements : (c : State) (s : Statement) (rest : List Item) → IsNext p c (Work s) rest → IsTypedStatement p (running_in rest) (out-Statement s)
  -- initialisers fit
  pub initialisers : (c : State) (item : Item) (rest : List Item) → IsNext p c item rest → IsTypedInitialiser p item
  -- no `break` or `continue` leaves a function
  pub jumps : (c : State) (item : Item) (rest : List Item) → IsNext p c item rest → JumpsInside item rest
  -- each object that is named lives
  pub names : (c : State) (item : Item) (rest : List Item) → IsNext p c item rest → NamesLive p c.store item
  -- static objects have values of their types at the start
  pub starts : IsLaidOut p (start p).store
  -- a struct has as many cells as its members have types of cells
  pub structs : (number : ℕ) → struct_cells (slice_get p.names.structs number) ≡ length (struct_cell_types p.names.structs (length p.names.structs) number)
