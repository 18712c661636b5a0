-- The own tokens of the nodes of a tree, by their numbers, in the order of the text. Three kinds of node have none: a
-- declarator without a name, an empty statement, which may stand for nothing before a `}`, and an initialiser that is
-- an expression, which begins with the first token of that.
use Rattle.std.specs.Prelude.{ℕ, List, [], ◌∷◌, ◌++◌, map, Option, Some, None}
use Rattle.c_tree.specs.declared.expression.Declarator.{Declarator}
use Rattle.c_tree.specs.declared.expression.EnumConstant.{EnumConstant}
use Rattle.c_tree.specs.declared.expression.Expression.{Expression}
use Rattle.c_tree.specs.declared.expression.Member.{Member}
use Rattle.c_tree.specs.declared.expression.Specifier.{Specifier}
use Rattle.c_tree.specs.declared.expression.MemberLine.{MemberLine}
use Rattle.c_tree.specs.declared.expression.Parameter.{Parameter}
use Rattle.c_tree.specs.declared.expression.TypeName.{TypeName}
use Rattle.c_tree.specs.declared.expression.Declarator.TheOpen.{Declarator-F, EnumConstant-F, Expression-F, Member-F, Specifier-F, MemberLine-F, Parameter-F, TypeName-F}
use Rattle.c_tree.specs.declared.expression.Declarator.TheOpen.{Declarator-F as d, EnumConstant-F as c, Expression-F as e, Member-F as m, Specifier-F as s}
use Rattle.c_tree.specs.declared.expression.Declarator.TheFolds.{fold-Declarator, fold-EnumConstant, fold-Expression, fold-Member, fold-Specifier, fold-MemberLine, fold-Parameter, fold-TypeName}
use Rattle.c_tree.specs.declared.declaration.Initialiser.{Initialiser}
use Rattle.c_tree.specs.declared.declaration.Initialiser.TheOpen.{Initialiser-F}
use Rattle.c_tree.specs.declared.declaration.Initialiser.TheOpen.{Initialiser-F as i}
use Rattle.c_tree.specs.declared.declaration.Initialiser.TheFolds.{fold-Initialiser}
use Rattle.c_tree.specs.declared.declaration.Declared.{Declared}
use Rattle.c_tree.specs.declared.declaration.Declared.TheVariants as declared
use Rattle.c_tree.specs.declared.declaration.Declaration.{Declaration}
use Rattle.c_tree.specs.declared.declaration.External.{External}
use Rattle.c_tree.specs.declared.declaration.External.TheVariants as external
use Rattle.c_tree.specs.declared.declaration.Tree.{Tree}
use Rattle.c_tree.specs.declared.statement.ForStart.{ForStart}
use Rattle.c_tree.specs.declared.statement.ForStart.TheVariants as start
use Rattle.c_tree.specs.declared.statement.BlockItem.{BlockItem}
use Rattle.c_tree.specs.declared.statement.Statement.{Statement}
use Rattle.c_tree.specs.declared.statement.Branch.{Branch}
use Rattle.c_tree.specs.declared.statement.BlockItem.TheOpen.{BlockItem-F, Statement-F, Branch-F}
use Rattle.c_tree.specs.declared.statement.BlockItem.TheOpen.{BlockItem-F as b, Statement-F as t}
use Rattle.c_tree.specs.declared.statement.BlockItem.TheFolds.{fold-BlockItem, fold-Statement, fold-Branch}

abbrev pub Numbers : Type 0
Numbers = List ℕ

-- one list after the other
abbrev pub in_turn : List Numbers → Numbers
in_turn [] = []
in_turn (list ∷ further) = list ++ in_turn further

-- those of each part
abbrev pub each_in_turn : {A : Type 0} → (A → Numbers) → List A → Numbers
each_in_turn tokens xs = in_turn (map tokens xs)

-- ---- expressions and types: those of a node, over those of its parts

abbrev pub declarator_step : Declarator-F Numbers Numbers Numbers Numbers Numbers Numbers Numbers Numbers → Numbers
declarator_step (d.«Declarator::Name» name at) = at ∷ []
declarator_step (d.Unnamed at) = []
declarator_step (d.Pointer qualifiers inner at) = at ∷ inner
declarator_step (d.Array inner size at) = inner ++ at ∷ size
declarator_step (d.OpenArray inner at) = inner ++ at ∷ []
declarator_step (d.«Declarator::Function» inner parameters variadic at) = inner ++ at ∷ in_turn parameters

abbrev pub constant_step : EnumConstant-F Numbers Numbers Numbers Numbers Numbers Numbers Numbers Numbers → Numbers
constant_step (c.Next name at) = at ∷ []
constant_step (c.Valued name value at) = at ∷ value

-- the comma stands after the first part
abbrev pub comma_step : List Numbers → ℕ → Numbers
comma_step [] at = at ∷ []
comma_step (first ∷ further) at = first ++ at ∷ in_turn further

abbrev pub expression_step : Expression-F Numbers Numbers Numbers Numbers Numbers Numbers Numbers Numbers → Numbers
expression_step (e.«Expression::Name» name at) = at ∷ []
expression_step (e.Constant kind value at) = at ∷ []
expression_step (e.Text at) = at ∷ []
expression_step (e.Subscript array index at) = array ++ at ∷ index
expression_step (e.Call function arguments at) = function ++ at ∷ in_turn arguments
expression_step (e.Member object name at) = object ++ at ∷ []
expression_step (e.PointedMember pointer name at) = pointer ++ at ∷ []
expression_step (e.Postfix step operand at) = operand ++ at ∷ []
expression_step (e.Prefix step operand at) = at ∷ operand
expression_step (e.Unary operator operand at) = at ∷ operand
expression_step (e.SizeofExpression operand at) = at ∷ operand
expression_step (e.SizeofType named at) = at ∷ named
expression_step (e.Cast named operand at) = at ∷ (named ++ operand)
expression_step (e.Binary operator left right at) = left ++ at ∷ right
expression_step (e.Conditional test chosen otherwise at) = test ++ at ∷ (chosen ++ otherwise)
expression_step (e.Assign operator target value at) = target ++ at ∷ value
expression_step (e.Comma parts at) = comma_step parts at

abbrev pub member_step : Member-F Numbers Numbers Numbers Numbers Numbers Numbers Numbers Numbers → Numbers
member_step (m.Plain declarator) = declarator
member_step (m.BitField declarator width at) = declarator ++ at ∷ width
member_step (m.UnnamedBitField width at) = at ∷ width

abbrev pub specifier_step : Specifier-F Numbers Numbers Numbers Numbers Numbers Numbers Numbers Numbers → Numbers
specifier_step (s.Storage word at) = at ∷ []
specifier_step (s.«Specifier::Function» word at) = at ∷ []
specifier_step (s.Qualified qualifier at) = at ∷ []
specifier_step (s.Base word at) = at ∷ []
specifier_step (s.TypeWord kind at) = at ∷ []
specifier_step (s.Struct tag lines at) = at ∷ in_turn lines
specifier_step (s.StructTag tag at) = at ∷ []
specifier_step (s.Enum tag constants at) = at ∷ in_turn constants
specifier_step (s.EnumTag tag at) = at ∷ []
specifier_step (s.TypedefName name at) = at ∷ []

abbrev pub line_step : MemberLine-F Numbers Numbers Numbers Numbers Numbers Numbers Numbers Numbers → Numbers
line_step l = in_turn l.specifiers ++ in_turn l.members

abbrev pub parameter_step : Parameter-F Numbers Numbers Numbers Numbers Numbers Numbers Numbers Numbers → Numbers
parameter_step p = in_turn p.specifiers ++ p.declarator

abbrev pub type_name_step : TypeName-F Numbers Numbers Numbers Numbers Numbers Numbers Numbers Numbers → Numbers
type_name_step x = in_turn x.specifiers ++ x.declarator

unfoldable pub declarator_tokens : Declarator → Numbers
declarator_tokens = fold-Declarator Numbers Numbers Numbers Numbers Numbers Numbers Numbers Numbers declarator_step constant_step expression_step member_step specifier_step line_step parameter_step type_name_step

unfoldable pub constant_tokens : EnumConstant → Numbers
constant_tokens = fold-EnumConstant Numbers Numbers Numbers Numbers Numbers Numbers Numbers Numbers declarator_step constant_step expression_step member_step specifier_step line_step parameter_step type_name_step

unfoldable pub expression_tokens : Expression → Numbers
expression_tokens = fold-Expression Numbers Numbers Numbers Numbers Numbers Numbers Numbers Numbers declarator_step constant_step expression_step member_step specifier_step line_step parameter_step type_name_step

unfoldable pub member_tokens : Member → Numbers
member_tokens = fold-Member Numbers Numbers Numbers Numbers Numbers Numbers Numbers Numbers declarator_step constant_step expression_step member_step specifier_step line_step parameter_step type_name_step

unfoldable pub specifier_tokens : Specifier → Numbers
specifier_tokens = fold-Specifier Numbers Numbers Numbers Numbers Numbers Numbers Numbers Numbers declarator_step constant_step expression_step member_step specifier_step line_step parameter_step type_name_step

unfoldable pub line_tokens : MemberLine → Numbers
line_tokens = fold-MemberLine Numbers Numbers Numbers Numbers Numbers Numbers Numbers Numbers declarator_step constant_step expression_step member_step specifier_step line_step parameter_step type_name_step

unfoldable pub parameter_tokens : Parameter → Numbers
parameter_tokens = fold-Parameter Numbers Numbers Numbers Numbers Numbers Numbers Numbers Numbers declarator_step constant_step expression_step member_step specifier_step line_step parameter_step type_name_step

unfoldable pub type_name_tokens : TypeName → Numbers
type_name_tokens = fold-TypeName Numbers Numbers Numbers Numbers Numbers Numbers Numbers Numbers declarator_step constant_step expression_step member_step specifier_step line_step parameter_step type_name_step

-- ---- declarations

abbrev pub initialiser_step : Initialiser-F Numbers → Numbers
initialiser_step (i.Value value at) = expression_tokens value
initialiser_step (i.Braces parts at) = at ∷ in_turn parts

unfoldable pub initialiser_tokens : Initialiser → Numbers
initialiser_tokens = fold-Initialiser Numbers initialiser_step

abbrev pub declared_tokens : Declared → Numbers
declared_tokens (declared.Plain declarator) = declarator_tokens declarator
declared_tokens (declared.Initialised declarator initialiser at) = declarator_tokens declarator ++ at ∷ initialiser_tokens initialiser

abbrev pub declaration_tokens : Declaration → Numbers
declaration_tokens x = each_in_turn specifier_tokens x.specifiers ++ (each_in_turn declared_tokens x.names ++ x.at ∷ [])

-- ---- statements

abbrev pub optional_tokens : Option Expression → Numbers
optional_tokens None = []
optional_tokens (Some x) = expression_tokens x

abbrev pub start_tokens : ForStart → Numbers
start_tokens start.Nothing = []
start_tokens (start.Value value) = expression_tokens value
start_tokens (start.Declared declaration) = declaration_tokens declaration

abbrev pub item_step : BlockItem-F Numbers Numbers Numbers → Numbers
item_step (b.Declared declaration) = declaration_tokens declaration
item_step (b.Run statement) = statement

abbrev pub statement_step : Statement-F Numbers Numbers Numbers → Numbers
statement_step (t.Block items at) = at ∷ in_turn items
statement_step (t.Empty at) = []
statement_step (t.Value value at) = expression_tokens value ++ at ∷ []
statement_step (t.Label name body at) = at ∷ body
statement_step (t.Case value body at) = at ∷ (expression_tokens value ++ body)
statement_step (t.Default body at) = at ∷ body
statement_step (t.If branches) = in_turn branches
statement_step (t.IfElse branches otherwise) = in_turn branches ++ otherwise
statement_step (t.Switch value body at) = at ∷ (expression_tokens value ++ body)
statement_step (t.While test body at) = at ∷ (expression_tokens test ++ body)
statement_step (t.Do body test at) = at ∷ (body ++ expression_tokens test)
statement_step (t.For first test step body at) = at ∷ (start_tokens first ++ (optional_tokens test ++ (optional_tokens step ++ body)))
statement_step (t.Break at) = at ∷ []
statement_step (t.Continue at) = at ∷ []
statement_step (t.Return value at) = at ∷ optional_tokens value

abbrev pub branch_step : Branch-F Numbers Numbers Numbers → Numbers
branch_step x = x.at ∷ (expression_tokens x.test ++ x.body)

unfoldable pub item_tokens : BlockItem → Numbers
item_tokens = fold-BlockItem Numbers Numbers Numbers item_step statement_step branch_step

unfoldable pub statement_tokens : Statement → Numbers
statement_tokens = fold-Statement Numbers Numbers Numbers item_step statement_step branch_step

unfoldable pub branch_tokens : Branch → Numbers
branch_tokens = fold-Branch Numbers Numbers Numbers item_step statement_step branch_step

-- ---- whole texts

abbrev pub external_tokens : External → Numbers
external_tokens (external.Empty at) = at ∷ []
external_tokens (external.Declared declaration) = declaration_tokens declaration
external_tokens (external.Defined specifiers declarator body at) = each_in_turn specifier_tokens specifiers ++ (declarator_tokens declarator ++ at ∷ each_in_turn item_tokens body)

abbrev pub own_tokens : Tree → Numbers
own_tokens tree = each_in_turn external_tokens tree.externals
