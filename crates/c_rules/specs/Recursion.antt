-- Recursion over expressions, and over the specifiers, declarators and type names that lie in them: a value for each node
-- from its parts, each part beside its own value.
use Rattle.c_tree.specs.declared.expression.Declarator.{Declarator}
use Rattle.c_tree.specs.declared.expression.EnumConstant.{EnumConstant}
use Rattle.c_tree.specs.declared.expression.Expression.{Expression}
use Rattle.c_tree.specs.declared.expression.Member.{Member}
use Rattle.c_tree.specs.declared.expression.Specifier.{Specifier}
use Rattle.c_tree.specs.declared.expression.MemberLine.{MemberLine}
use Rattle.c_tree.specs.declared.expression.Parameter.{Parameter}
use Rattle.c_tree.specs.declared.expression.TypeName.{TypeName}
use Rattle.c_tree.specs.declared.expression.Declarator.TheOpen.{Declarator-F, EnumConstant-F, Expression-F, Member-F, Specifier-F, MemberLine-F, Parameter-F, TypeName-F}
use Rattle.c_tree.specs.declared.expression.Declarator.TheFolds.{para-Declarator, para-EnumConstant, para-Expression, para-Member, para-Specifier, para-MemberLine, para-Parameter, para-TypeName}

-- a node of each kind over parts beside their values
abbrev pub DeclaratorOver : (D C E M S L P T : Type 0) → Type 0
DeclaratorOver D C E M S L P T = Declarator-F (Declarator × D) (EnumConstant × C) (Expression × E) (Member × M) (Specifier × S) (MemberLine × L) (Parameter × P) (TypeName × T)

abbrev pub ConstantOver : (D C E M S L P T : Type 0) → Type 0
ConstantOver D C E M S L P T = EnumConstant-F (Declarator × D) (EnumConstant × C) (Expression × E) (Member × M) (Specifier × S) (MemberLine × L) (Parameter × P) (TypeName × T)

abbrev pub ExpressionOver : (D C E M S L P T : Type 0) → Type 0
ExpressionOver D C E M S L P T = Expression-F (Declarator × D) (EnumConstant × C) (Expression × E) (Member × M) (Specifier × S) (MemberLine × L) (Parameter × P) (TypeName × T)

abbrev pub MemberOver : (D C E M S L P T : Type 0) → Type 0
MemberOver D C E M S L P T = Member-F (Declarator × D) (EnumConstant × C) (Expression × E) (Member × M) (Specifier × S) (MemberLine × L) (Parameter × P) (TypeName × T)

abbrev pub SpecifierOver : (D C E M S L P T : Type 0) → Type 0
SpecifierOver D C E M S L P T = Specifier-F (Declarator × D) (EnumConstant × C) (Expression × E) (Member × M) (Specifier × S) (MemberLine × L) (Parameter × P) (TypeName × T)

abbrev pub LineOver : (D C E M S L P T : Type 0) → Type 0
LineOver D C E M S L P T = MemberLine-F (Declarator × D) (EnumConstant × C) (Expression × E) (Member × M) (Specifier × S) (MemberLine × L) (Parameter × P) (TypeName × T)

abbrev pub ParameterOver : (D C E M S L P T : Type 0) → Type 0
ParameterOver D C E M S L P T = Parameter-F (Declarator × D) (EnumConstant × C) (Expression × E) (Member × M) (Specifier × S) (MemberLine × L) (Parameter × P) (TypeName × T)

abbrev pub TypeNameOver : (D C E M S L P T : Type 0) → Type 0
TypeNameOver D C E M S L P T = TypeName-F (Declarator × D) (EnumConstant × C) (Expression × E) (Member × M) (Specifier × S) (MemberLine × L) (Parameter × P) (TypeName × T)

-- what is made of a node of each kind
pub record Nodes (D C E M S L P T : Type 0) : Type 0 where
  pub declarator : DeclaratorOver D C E M S L P T → D
  pub constant : ConstantOver D C E M S L P T → C
  pub expression : ExpressionOver D C E M S L P T → E
  pub member : MemberOver D C E M S L P T → M
  pub specifier : SpecifierOver D C E M S L P T → S
  pub line : LineOver D C E M S L P T → L
  pub parameter : ParameterOver D C E M S L P T → P
  pub type_name : TypeNameOver D C E M S L P T → T

module _ {D C E M S L P T : Type 0} where
  unfoldable pub of_declarator : Nodes D C E M S L P T → Declarator → D
  of_declarator n = para-Declarator D C E M S L P T n.declarator n.constant n.expression n.member n.specifier n.line n.parameter n.type_name

  unfoldable pub of_constant : Nodes D C E M S L P T → EnumConstant → C
  of_constant n = para-EnumConstant D C E M S L P T n.declarator n.constant n.expression n.member n.specifier n.line n.parameter n.type_name

  unfoldable pub of_expression : Nodes D C E M S L P T → Expression → E
  of_expression n = para-Expression D C E M S L P T n.declarator n.constant n.expression n.member n.specifier n.line n.parameter n.type_name

  unfoldable pub of_member : Nodes D C E M S L P T → Member → M
  of_member n = para-Member D C E M S L P T n.declarator n.constant n.expression n.member n.specifier n.line n.parameter n.type_name

  unfoldable pub of_specifier : Nodes D C E M S L P T → Specifier → S
  of_specifier n = para-Specifier D C E M S L P T n.declarator n.constant n.expression n.member n.specifier n.line n.parameter n.type_name

  unfoldable pub of_line : Nodes D C E M S L P T → MemberLine → L
  of_line n = para-MemberLine D C E M S L P T n.declarator n.constant n.expression n.member n.specifier n.line n.parameter n.type_name

  unfoldable pub of_parameter : Nodes D C E M S L P T → Parameter → P
  of_parameter n = para-Parameter D C E M S L P T n.declarator n.constant n.expression n.member n.specifier n.line n.parameter n.type_name

  unfoldable pub of_type_name : Nodes D C E M S L P T → TypeName → T
  of_type_name n = para-TypeName D C E M S L P T n.declarator n.constant n.expression n.member n.specifier n.line n.parameter n.type_name
