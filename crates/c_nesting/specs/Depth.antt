-- How deep a tree is: how many expressions, specifiers, declarators, initialisers and statements lie in one another.
use Rattle.std.specs.Prelude.{ℕ, zero, suc, Bool, true, false, ◌&&◌, List, Option, Some, None}
use Rattle.std.specs.List.{list_all}
use Rattle.c_tree.specs.declared.expression.Declarator.{Declarator}
use Rattle.c_tree.specs.declared.expression.EnumConstant.{EnumConstant}
use Rattle.c_tree.specs.declared.expression.Expression.{Expression}
use Rattle.c_tree.specs.declared.expression.Member.{Member}
use Rattle.c_tree.specs.declared.expression.Specifier.{Specifier}
use Rattle.c_tree.specs.declared.expression.MemberLine.{MemberLine}
use Rattle.c_tree.specs.declared.expression.Parameter.{Parameter}
use Rattle.c_tree.specs.declared.expression.TypeName.{TypeName}
use Rattle.c_tree.specs.declared.expression.Declarator.TheOpen.{Declarator-F, EnumConstant-F, Expression-F, Member-F, Specifier-F, MemberLine-F, Parameter-F, TypeName-F}
use Rattle.c_tree.specs.declared.expression.Declarator.TheOpen.{Declarator-F as d, EnumConstant-F as c, Expression-F as e, Member-F as m, Specifier-F as s}
use Rattle.c_tree.specs.declared.expression.Declarator.TheFolds.{fold-Declarator, fold-EnumConstant, fold-Expression, fold-Member, fold-Specifier, fold-MemberLine, fold-Parameter, fold-TypeName}
use Rattle.c_tree.specs.declared.declaration.Initialiser.{Initialiser}
use Rattle.c_tree.specs.declared.declaration.Initialiser.TheOpen.{Initialiser-F}
use Rattle.c_tree.specs.declared.declaration.Initialiser.TheOpen.{Initialiser-F as i}
use Rattle.c_tree.specs.declared.declaration.Initialiser.TheFolds.{fold-Initialiser}
use Rattle.c_tree.specs.declared.declaration.Declared.{Declared}
use Rattle.c_tree.specs.declared.declaration.Declared.TheVariants as declared
use Rattle.c_tree.specs.declared.declaration.Declaration.{Declaration}
use Rattle.c_tree.specs.declared.declaration.External.{External}
use Rattle.c_tree.specs.declared.declaration.External.TheVariants as external
use Rattle.c_tree.specs.declared.declaration.Tree.{Tree}
use Rattle.c_tree.specs.declared.statement.ForStart.{ForStart}
use Rattle.c_tree.specs.declared.statement.ForStart.TheVariants as start
use Rattle.c_tree.specs.declared.statement.BlockItem.{BlockItem}
use Rattle.c_tree.specs.declared.statement.Statement.{Statement}
use Rattle.c_tree.specs.declared.statement.Branch.{Branch}
use Rattle.c_tree.specs.declared.statement.BlockItem.TheOpen.{BlockItem-F, Statement-F, Branch-F}
use Rattle.c_tree.specs.declared.statement.BlockItem.TheOpen.{BlockItem-F as b, Statement-F as t}
use Rattle.c_tree.specs.declared.statement.BlockItem.TheFolds.{fold-BlockItem, fold-Statement, fold-Branch}

-- whether something is no deeper than this number
abbrev pub Fits : Type 0
Fits = ℕ → Bool

-- no part lies in it
abbrev pub leaf : Fits
leaf n = true

abbrev pub both : Fits → Fits → Fits
both x y n = x n && y n

abbrev pub each : {A : Type 0} → (A → Fits) → List A → Fits
each fits xs n = list_all (λ x. fits x n) xs

abbrev pub if_any : {A : Type 0} → (A → Fits) → Option A → Fits
if_any fits None n = true
if_any fits (Some x) n = fits x n

-- one deeper than these parts
abbrev pub over : Fits → Fits
over parts zero = false
over parts (suc n) = parts n

-- ---- expressions and types: a node over its parts, which are trees or say how deep they are

pub record Views (D C X M S L P T : Type 0) : Type 0 where
  pub declarator : D → Fits
  pub constant : C → Fits
  pub expression : X → Fits
  pub member : M → Fits
  pub specifier : S → Fits
  pub line : L → Fits
  pub parameter : P → Fits
  pub type_name : T → Fits

abbrev pub expression_parts : {D C X M S L P T : Type 0} → Views D C X M S L P T → Expression-F D C X M S L P T → Fits
expression_parts v (e.Subscript x y at) = both (v.expression x) (v.expression y)
expression_parts v (e.Call x xs at) = both (v.expression x) (each v.expression xs)
expression_parts v (e.Member x name at) = v.expression x
expression_parts v (e.PointedMember x name at) = v.expression x
expression_parts v (e.Postfix step x at) = v.expression x
expression_parts v (e.Prefix step x at) = v.expression x
expression_parts v (e.Unary operator x at) = v.expression x
expression_parts v (e.SizeofExpression x at) = v.expression x
expression_parts v (e.SizeofType named at) = v.type_name named
expression_parts v (e.Cast named x at) = both (v.type_name named) (v.expression x)
expression_parts v (e.Binary operator x y at) = both (v.expression x) (v.expression y)
expression_parts v (e.Conditional x y z at) = both (v.expression x) (both (v.expression y) (v.expression z))
expression_parts v (e.Assign operator x y at) = both (v.expression x) (v.expression y)
expression_parts v (e.Comma xs at) = each v.expression xs
expression_parts v _ = leaf

abbrev pub specifier_parts : {D C X M S L P T : Type 0} → Views D C X M S L P T → Specifier-F D C X M S L P T → Fits
specifier_parts v (s.Struct tag lines at) = each v.line lines
specifier_parts v (s.Enum tag constants at) = each v.constant constants
specifier_parts v _ = leaf

abbrev pub declarator_parts : {D C X M S L P T : Type 0} → Views D C X M S L P T → Declarator-F D C X M S L P T → Fits
declarator_parts v (d.Pointer qualifiers inner at) = v.declarator inner
declarator_parts v (d.Array inner size at) = both (v.declarator inner) (v.expression size)
declarator_parts v (d.OpenArray inner at) = v.declarator inner
declarator_parts v (d.«Declarator::Function» inner parameters variadic at) = both (v.declarator inner) (each v.parameter parameters)
declarator_parts v _ = leaf

-- what only holds such parts counts for nothing itself
abbrev pub line_parts : {D C X M S L P T : Type 0} → Views D C X M S L P T → MemberLine-F D C X M S L P T → Fits
line_parts v l = both (each v.specifier l.specifiers) (each v.member l.members)

abbrev pub member_parts : {D C X M S L P T : Type 0} → Views D C X M S L P T → Member-F D C X M S L P T → Fits
member_parts v (m.Plain declarator) = v.declarator declarator
member_parts v (m.BitField declarator width at) = both (v.declarator declarator) (v.expression width)
member_parts v (m.UnnamedBitField width at) = v.expression width

abbrev pub constant_parts : {D C X M S L P T : Type 0} → Views D C X M S L P T → EnumConstant-F D C X M S L P T → Fits
constant_parts v (c.Next name at) = leaf
constant_parts v (c.Valued name value at) = v.expression value

abbrev pub parameter_parts : {D C X M S L P T : Type 0} → Views D C X M S L P T → Parameter-F D C X M S L P T → Fits
parameter_parts v p = both (each v.specifier p.specifiers) (v.declarator p.declarator)

abbrev pub type_name_parts : {D C X M S L P T : Type 0} → Views D C X M S L P T → TypeName-F D C X M S L P T → Fits
type_name_parts v x = both (each v.specifier x.specifiers) (v.declarator x.declarator)

abbrev pub folded : Views Fits Fits Fits Fits Fits Fits Fits Fits
folded = record { declarator = λ f. f; constant = λ f. f; expression = λ f. f; member = λ f. f; specifier = λ f. f; line = λ f. f; parameter = λ f. f; type_name = λ f. f }

unfoldable pub declarator_fits : Declarator → Fits
declarator_fits = fold-Declarator Fits Fits Fits Fits Fits Fits Fits Fits (λ l. over (declarator_parts folded l)) (constant_parts folded) (λ l. over (expression_parts folded l)) (member_parts folded) (λ l. over (specifier_parts folded l)) (line_parts folded) (parameter_parts folded) (type_name_parts folded)

unfoldable pub constant_fits : EnumConstant → Fits
constant_fits = fold-EnumConstant Fits Fits Fits Fits Fits Fits Fits Fits (λ l. over (declarator_parts folded l)) (constant_parts folded) (λ l. over (expression_parts folded l)) (member_parts folded) (λ l. over (specifier_parts folded l)) (line_parts folded) (parameter_parts folded) (type_name_parts folded)

unfoldable pub expression_fits : Expression → Fits
expression_fits = fold-Expression Fits Fits Fits Fits Fits Fits Fits Fits (λ l. over (declarator_parts folded l)) (constant_parts folded) (λ l. over (expression_parts folded l)) (member_parts folded) (λ l. over (specifier_parts folded l)) (line_parts folded) (parameter_parts folded) (type_name_parts folded)

unfoldable pub member_fits : Member → Fits
member_fits = fold-Member Fits Fits Fits Fits Fits Fits Fits Fits (λ l. over (declarator_parts folded l)) (constant_parts folded) (λ l. over (expression_parts folded l)) (member_parts folded) (λ l. over (specifier_parts folded l)) (line_parts folded) (parameter_parts folded) (type_name_parts folded)

unfoldable pub specifier_fits : Specifier → Fits
specifier_fits = fold-Specifier Fits Fits Fits Fits Fits Fits Fits Fits (λ l. over (declarator_parts folded l)) (constant_parts folded) (λ l. over (expression_parts folded l)) (member_parts folded) (λ l. over (specifier_parts folded l)) (line_parts folded) (parameter_parts folded) (type_name_parts folded)

unfoldable pub line_fits : MemberLine → Fits
line_fits = fold-MemberLine Fits Fits Fits Fits Fits Fits Fits Fits (λ l. over (declarator_parts folded l)) (constant_parts folded) (λ l. over (expression_parts folded l)) (member_parts folded) (λ l. over (specifier_parts folded l)) (line_parts folded) (parameter_parts folded) (type_name_parts folded)

unfoldable pub parameter_fits : Parameter → Fits
parameter_fits = fold-Parameter Fits Fits Fits Fits Fits Fits Fits Fits (λ l. over (declarator_parts folded l)) (constant_parts folded) (λ l. over (expression_parts folded l)) (member_parts folded) (λ l. over (specifier_parts folded l)) (line_parts folded) (parameter_parts folded) (type_name_parts folded)

unfoldable pub type_name_fits : TypeName → Fits
type_name_fits = fold-TypeName Fits Fits Fits Fits Fits Fits Fits Fits (λ l. over (declarator_parts folded l)) (constant_parts folded) (λ l. over (expression_parts folded l)) (member_parts folded) (λ l. over (specifier_parts folded l)) (line_parts folded) (parameter_parts folded) (type_name_parts folded)

abbrev pub trees : Views Declarator EnumConstant Expression Member Specifier MemberLine Parameter TypeName
trees = record { declarator = declarator_fits; constant = constant_fits; expression = expression_fits; member = member_fits; specifier = specifier_fits; line = line_fits; parameter = parameter_fits; type_name = type_name_fits }

-- ---- declarations

abbrev pub initialiser_parts : {I : Type 0} → (I → Fits) → Initialiser-F I → Fits
initialiser_parts fits (i.Value value at) = expression_fits value
initialiser_parts fits (i.Braces parts at) = each fits parts

unfoldable pub initialiser_fits : Initialiser → Fits
initialiser_fits = fold-Initialiser Fits (λ l. over (initialiser_parts (λ f. f) l))

abbrev pub declared_fits : Declared → Fits
declared_fits (declared.Plain declarator) = declarator_fits declarator
declared_fits (declared.Initialised declarator initialiser at) = both (declarator_fits declarator) (initialiser_fits initialiser)

abbrev pub declaration_fits : Declaration → Fits
declaration_fits x = both (each specifier_fits x.specifiers) (each declared_fits x.names)

-- ---- statements

abbrev pub start_fits : ForStart → Fits
start_fits start.Nothing = leaf
start_fits (start.Value value) = expression_fits value
start_fits (start.Declared declaration) = declaration_fits declaration

pub record Bodies (I B S : Type 0) : Type 0 where
  pub item : I → Fits
  pub branch : B → Fits
  pub statement : S → Fits

abbrev pub statement_parts : {I B S : Type 0} → Bodies I B S → Statement-F I S B → Fits
statement_parts v (t.Block items at) = each v.item items
statement_parts v (t.Value value at) = expression_fits value
statement_parts v (t.Label name body at) = v.statement body
statement_parts v (t.Case value body at) = both (expression_fits value) (v.statement body)
statement_parts v (t.Default body at) = v.statement body
statement_parts v (t.If branches) = each v.branch branches
statement_parts v (t.IfElse branches otherwise) = both (each v.branch branches) (v.statement otherwise)
statement_parts v (t.Switch value body at) = both (expression_fits value) (v.statement body)
statement_parts v (t.While test body at) = both (expression_fits test) (v.statement body)
statement_parts v (t.Do body test at) = both (v.statement body) (expression_fits test)
statement_parts v (t.For first test step body at) = both (both (start_fits first) (if_any expression_fits test)) (both (if_any expression_fits step) (v.statement body))
statement_parts v (t.Return value at) = if_any expression_fits value
statement_parts v _ = leaf

abbrev pub item_parts : {I B S : Type 0} → Bodies I B S → BlockItem-F I S B → Fits
item_parts v (b.Declared declaration) = declaration_fits declaration
item_parts v (b.Run statement) = v.statement statement

abbrev pub branch_parts : {I B S : Type 0} → Bodies I B S → Branch-F I S B → Fits
branch_parts v x = both (expression_fits x.test) (v.statement x.body)

abbrev pub bodies_folded : Bodies Fits Fits Fits
bodies_folded = record { item = λ f. f; branch = λ f. f; statement = λ f. f }

unfoldable pub item_fits : BlockItem → Fits
item_fits = fold-BlockItem Fits Fits Fits (item_parts bodies_folded) (λ l. over (statement_parts bodies_folded l)) (branch_parts bodies_folded)

unfoldable pub statement_fits : Statement → Fits
statement_fits = fold-Statement Fits Fits Fits (item_parts bodies_folded) (λ l. over (statement_parts bodies_folded l)) (branch_parts bodies_folded)

unfoldable pub branch_fits : Branch → Fits
branch_fits = fold-Branch Fits Fits Fits (item_parts bodies_folded) (λ l. over (statement_parts bodies_folded l)) (branch_parts bodies_folded)

abbrev pub bodies : Bodies BlockItem Branch Statement
bodies = record { item = item_fits; branch = branch_fits; statement = statement_fits }

-- ---- whole texts

abbrev pub external_fits : External → Fits
external_fits (external.Empty at) = leaf
external_fits (external.Declared declaration) = declaration_fits declaration
external_fits (external.Defined specifiers declarator body at) = both (each specifier_fits specifiers) (both (declarator_fits declarator) (each item_fits body))

abbrev pub tree_fits : Tree → Fits
tree_fits tree = each external_fits tree.externals
