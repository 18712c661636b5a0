-- What the machine takes from a program: what stands at a token, types and their cells, functions and objects. Nothing else
-- of these definitions looks into a program. Sections are those of ISO/IEC 9899:2011.
use Rattle.std.specs.Prelude.{ℕ, ◌+◌, ◌&&◌, ℤ, pos, Bool, true, if◌then◌else◌, List, [], ◌∷◌, Option, Some, None, slice_get}
use Rattle.kv_num.specs.IntType.{wrap_of}
use Rattle.c_tree.specs.declared.expression.Declarator.TheOpen.{Expression-F}
use Rattle.c_tree.specs.declared.statement.BlockItem.TheOpen.{Statement-F, BlockItem-F}
use Rattle.c_tree.specs.declared.statement.Statement.{Statement}
use Rattle.c_tree.specs.declared.statement.Branch.{Branch}
use Rattle.c_tree.specs.declared.expression.TypeName.{TypeName}
use Rattle.c_tree.specs.declared.expression.Specifier.{Specifier}
use Rattle.c_tree.specs.declared.expression.Parameter.{Parameter}
use Rattle.c_tree.specs.declared.expression.MemberLine.{MemberLine}
use Rattle.c_tree.specs.declared.expression.Member.{Member as MemberDeclarator}
use Rattle.c_tree.specs.declared.expression.EnumConstant.{EnumConstant}
use Rattle.c_tree.specs.declared.expression.Expression.{Expression, out-Expression}
use Rattle.c_tree.specs.declared.expression.Declarator.{Declarator}
use Rattle.c_tree.specs.declared.expression.Declarator.TheOpen.{Expression-F as e}
use Rattle.c_tree.specs.declared.statement.BlockItem.{BlockItem}
use Rattle.c_tree.specs.declared.declaration.Declared.{Declared}
use Rattle.c_tree.specs.declared.declaration.Declared.TheVariants as declared
use Rattle.c_kinds.specs.declared.types.CType.{CType}
use Rattle.c_kinds.specs.declared.types.CellType.{CellType}
use Rattle.c_kinds.specs.declared.types.Shape.{Shape}
use Rattle.c_kinds.specs.declared.types.Shape.TheVariants as shape
use Rattle.c_kinds.specs.declared.types.Member.{Member}
use Rattle.c_kinds.specs.Types.{void, shape_of, inner}
use Rattle.c_kinds.specs.Integers.{size_type}
use Rattle.c_kinds.specs.Layouts.{flat, size_in_bytes, members_of, member_in, cell_count as count_in, cell_types}
use Rattle.c_rules.specs.declared.checks.Checks.{Checks}
use Rattle.c_rules.specs.declared.names.Meaning.{Meaning}
use Rattle.c_rules.specs.declared.names.Meaning.TheVariants as meaning
use Rattle.c_rules.specs.declared.names.Object.{Object}
use Rattle.c_rules.specs.declared.program.Program.{Program}
use Rattle.c_rules.specs.Initialisers.{name_at}

-- ---- one node of a tree, with its parts

-- an expression (6.5)
abbrev pub ExpressionNode : Type 0
ExpressionNode = Expression-F Declarator EnumConstant Expression MemberDeclarator Specifier MemberLine Parameter TypeName

-- a statement (6.8)
abbrev pub StatementNode : Type 0
StatementNode = Statement-F BlockItem Statement Branch

-- an item of a block (6.8.2)
abbrev pub ItemNode : Type 0
ItemNode = BlockItem-F BlockItem Statement Branch

-- the value, or this one where there is none
abbrev pub or_else : {A : Type 0} → A → Option A → A
or_else a None = a
or_else a (Some b) = b

-- what is checked, and in which data model
abbrev pub checks : Program → Checks
checks p = p.checks

-- ---- by token

-- the number of an expression's own token
abbrev pub token_of : Expression → ℕ
token_of x = elim (out-Expression x) as (λ _. ℕ) [
  | e.«Expression::Name» name at ↦ at
  | e.Constant kind value at ↦ at
  | e.Text at ↦ at
  | e.Subscript array index at ↦ at
  | e.Call function arguments at ↦ at
  | e.Member object name at ↦ at
  | e.PointedMember pointer name at ↦ at
  | e.Postfix step operand at ↦ at
  | e.Prefix step operand at ↦ at
  | e.Unary operator operand at ↦ at
  | e.SizeofExpression operand at ↦ at
  | e.SizeofType type_name at ↦ at
  | e.Cast type_name operand at ↦ at
  | e.Binary operator left right at ↦ at
  | e.Conditional test first otherwise at ↦ at
  | e.Assign operator target value at ↦ at
  | e.Comma parts at ↦ at
]

-- the type of the expression whose token this is, before conversions; an array is an array there
abbrev pub type_at : Program → ℕ → CType
type_at p at = or_else void (flat (slice_get p.types.expressions at))

-- the type of an expression
abbrev pub type_of : Program → Expression → CType
type_of p x = type_at p (token_of x)

-- what a name stands for
abbrev pub meaning_at : Program → ℕ → Option Meaning
meaning_at p at = flat (slice_get p.names.meanings at)

-- the value of a `case` label, in the type of its `switch` (6.8.4.2p5)
abbrev pub case_at : Program → ℕ → Option ℤ
case_at p at = flat (slice_get p.types.cases at)

-- the line of a token, counted from 1
abbrev pub line_at : Program → ℕ → ℕ
line_at p at = or_else 1 (slice_get p.tree.lines at)

-- ---- types

-- how many cells an object of the type has
abbrev pub cell_count : Program → CType → ℕ
cell_count p t = count_in p.names.structs t

-- the types of these cells, in order
abbrev pub types_of : Program → CType → List CellType
types_of p t = cell_types p.names.structs t

-- how many bytes it has, as `sizeof` gives them (6.5.3.4p2, p5)
abbrev pub bytes : Program → CType → ℤ
bytes p t = wrap_of (size_type p.checks.model) (pos (or_else 0 (size_in_bytes p.checks.model t)))

-- the type that a type name names
abbrev pub type_named : Program → ℕ → CType
type_named p at = elim (meaning_at p at) as (λ _. CType) [ None ↦ void | Some what ↦ elim what as (λ _. CType) [ meaning.Type named star ↦ or_else void named | _ ↦ void ] ]

-- ---- parts of arrays and structs (6.5.2.1, 6.5.2.3)

-- the members of a struct; other types have none (6.7.2.1)
abbrev pub members_by : Program → Shape → List Member
members_by p (shape.Struct number) = members_of p.names.structs number
members_by p _ = []

-- the members of a type, in order (6.7.2.1p6)
abbrev pub members : Program → CType → List Member
members p t = members_by p (shape_of t)

-- how many cells stand before it
abbrev pub cell_of : Option Member → ℕ
cell_of None = 0
cell_of (Some member) = member.cell

-- how many cells stand before the member of this name
abbrev pub offset_of : Program → CType → List ℕ → ℕ
offset_of p t name = cell_of (member_in (members p t) name)

-- the type of a member (6.7.2.1)
abbrev pub type_of_member : Option Member → CType
type_of_member None = void
type_of_member (Some member) = or_else void member.ctype

-- a member's type, or the element type of an array (6.2.5p20)
abbrev pub part_type_by : Program → Shape → CType → ℕ → CType
part_type_by p (shape.Struct number) t part = type_of_member (slice_get (members p t) part)
part_type_by p _ t part = inner t

-- the type of a part, by its number from 0
abbrev pub part_type : Program → CType → ℕ → CType
part_type p t part = part_type_by p (shape_of t) t part

-- ---- objects

-- the declared object of this number
abbrev pub object_at : Program → ℕ → Option Object
object_at p number = slice_get p.names.objects number

-- the type that its declaration gives (6.7.6)
abbrev pub object_type_by : Option Object → CType
object_type_by None = void
object_type_by (Some object) = or_else void object.ctype

-- the type of a declared object
abbrev pub object_type : Program → ℕ → CType
object_type p number = object_type_by (object_at p number)

-- the types of its cells, in order
abbrev pub types_in : Program → ℕ → List CellType
types_in p number = types_of p (object_type p number)

-- it lives as long as the program (6.2.4p3)
abbrev pub is_static_by : Option Object → Bool
is_static_by None = true
is_static_by (Some object) = object.is_static

-- whether it has static storage duration (6.2.4p3)
abbrev pub is_static : Program → ℕ → Bool
is_static p number = is_static_by (object_at p number)

-- the numbers of the static objects of a list, counted from this one
abbrev pub numbers_from : ℕ → List Object → List ℕ
numbers_from number [] = []
numbers_from number (object ∷ objects) = if object.is_static && object.is_defined then number ∷ numbers_from (number + 1) objects else numbers_from (number + 1) objects

-- the static objects that the text defines, in the order of their first declarations
abbrev pub statics_of : Program → List ℕ
statics_of p = numbers_from 0 p.names.objects

-- the declarator, with or without an initialiser (6.7p1)
abbrev pub declarator_of : Declared → Declarator
declarator_of (declared.Plain declarator) = declarator
declarator_of (declared.Initialised declarator initialiser at) = declarator

-- what a declaration declares by this declarator
abbrev pub declares : Program → Declared → Option Meaning
declares p x = meaning_at p (name_at (declarator_of x))
