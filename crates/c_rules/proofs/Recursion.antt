-- One step of the recursion over expressions: a node's value is made of its parts, each beside its own value.
use Rattle.std.proofs.Common.{◌≡◌, ap, sym, ◌∙◌}
use Rattle.c_tree.specs.declared.expression.Declarator.{Declarator, out-Declarator}
use Rattle.c_tree.specs.declared.expression.EnumConstant.{EnumConstant, out-EnumConstant}
use Rattle.c_tree.specs.declared.expression.Expression.{Expression, out-Expression}
use Rattle.c_tree.specs.declared.expression.Member.{Member, out-Member}
use Rattle.c_tree.specs.declared.expression.Specifier.{Specifier, out-Specifier}
use Rattle.c_tree.specs.declared.expression.MemberLine.{MemberLine, out-MemberLine}
use Rattle.c_tree.specs.declared.expression.Parameter.{Parameter, out-Parameter}
use Rattle.c_tree.specs.declared.expression.TypeName.{TypeName, out-TypeName}
use Rattle.c_tree.specs.declared.expression.Declarator.TheOpen.{Declarator-F, EnumConstant-F, Expression-F, Member-F, Specifier-F, MemberLine-F, Parameter-F, TypeName-F}
use Rattle.c_tree.specs.declared.expression.Declarator.TheViews.{roll-Declarator, roll-EnumConstant, roll-Expression, roll-Member, roll-Specifier, roll-MemberLine, roll-Parameter, roll-TypeName, roll-out-Declarator, roll-out-EnumConstant, roll-out-Expression, roll-out-Member, roll-out-Specifier, roll-out-MemberLine, roll-out-Parameter, roll-out-TypeName}
use Rattle.c_tree.specs.declared.expression.Declarator.TheFolds.{map-Declarator, para-roll-Declarator, map-EnumConstant, para-roll-EnumConstant, map-Expression, para-roll-Expression, map-Member, para-roll-Member, map-Specifier, para-roll-Specifier, map-MemberLine, para-roll-MemberLine, map-Parameter, para-roll-Parameter, map-TypeName, para-roll-TypeName}
use Rattle.c_rules.specs.Recursion.{Nodes, of_declarator, of_constant, of_expression, of_member, of_specifier, of_line, of_parameter, of_type_name, DeclaratorOver, ConstantOver, ExpressionOver, MemberOver, SpecifierOver, LineOver, ParameterOver, TypeNameOver}

module _ {D C E M S L P T : Type 0} (n : Nodes D C E M S L P T) where
  abbrev pub declarator_beside : Declarator-F Declarator EnumConstant Expression Member Specifier MemberLine Parameter TypeName → DeclaratorOver D C E M S L P T
  declarator_beside = map-Declarator Declarator EnumConstant Expression Member Specifier MemberLine Parameter TypeName (Declarator × D) (EnumConstant × C) (Expression × E) (Member × M) (Specifier × S) (MemberLine × L) (Parameter × P) (TypeName × T) (λ y. (y, of_declarator n y)) (λ y. (y, of_constant n y)) (λ y. (y, of_expression n y)) (λ y. (y, of_member n y)) (λ y. (y, of_specifier n y)) (λ y. (y, of_line n y)) (λ y. (y, of_parameter n y)) (λ y. (y, of_type_name n y))

  abbrev pub constant_beside : EnumConstant-F Declarator EnumConstant Expression Member Specifier MemberLine Parameter TypeName → ConstantOver D C E M S L P T
  constant_beside = map-EnumConstant Declarator EnumConstant Expression Member Specifier MemberLine Parameter TypeName (Declarator × D) (EnumConstant × C) (Expression × E) (Member × M) (Specifier × S) (MemberLine × L) (Parameter × P) (TypeName × T) (λ y. (y, of_declarator n y)) (λ y. (y, of_constant n y)) (λ y. (y, of_expression n y)) (λ y. (y, of_member n y)) (λ y. (y, of_specifier n y)) (λ y. (y, of_line n y)) (λ y. (y, of_parameter n y)) (λ y. (y, of_type_name n y))

  abbrev pub expression_beside : Expression-F Declarator EnumConstant Expression Member Specifier MemberLine Parameter TypeName → ExpressionOver D C E M S L P T
  expression_beside = map-Expression Declarator EnumConstant Expression Member Specifier MemberLine Parameter TypeName (Declarator × D) (EnumConstant × C) (Expression × E) (Member × M) (Specifier × S) (MemberLine × L) (Parameter × P) (TypeName × T) (λ y. (y, of_declarator n y)) (λ y. (y, of_constant n y)) (λ y. (y, of_expression n y)) (λ y. (y, of_member n y)) (λ y. (y, of_specifier n y)) (λ y. (y, of_line n y)) (λ y. (y, of_parameter n y)) (λ y. (y, of_type_name n y))

  abbrev pub member_beside : Member-F Declarator EnumConstant Expression Member Specifier MemberLine Parameter TypeName → MemberOver D C E M S L P T
  member_beside = map-Member Declarator EnumConstant Expression Member Specifier MemberLine Parameter TypeName (Declarator × D) (EnumConstant × C) (Expression × E) (Member × M) (Specifier × S) (MemberLine × L) (Parameter × P) (TypeName × T) (λ y. (y, of_declarator n y)) (λ y. (y, of_constant n y)) (λ y. (y, of_expression n y)) (λ y. (y, of_member n y)) (λ y. (y, of_specifier n y)) (λ y. (y, of_line n y)) (λ y. (y, of_parameter n y)) (λ y. (y, of_type_name n y))

  abbrev pub specifier_beside : Specifier-F Declarator EnumConstant Expression Member Specifier MemberLine Parameter TypeName → SpecifierOver D C E M S L P T
  specifier_beside = map-Specifier Declarator EnumConstant Expression Member Specifier MemberLine Parameter TypeName (Declarator × D) (EnumConstant × C) (Expression × E) (Member × M) (Specifier × S) (MemberLine × L) (Parameter × P) (TypeName × T) (λ y. (y, of_declarator n y)) (λ y. (y, of_constant n y)) (λ y. (y, of_expression n y)) (λ y. (y, of_member n y)) (λ y. (y, of_specifier n y)) (λ y. (y, of_line n y)) (λ y. (y, of_parameter n y)) (λ y. (y, of_type_name n y))

  abbrev pub line_beside : MemberLine-F Declarator EnumConstant Expression Member Specifier MemberLine Parameter TypeName → LineOver D C E M S L P T
  line_beside = map-MemberLine Declarator EnumConstant Expression Member Specifier MemberLine Parameter TypeName (Declarator × D) (EnumConstant × C) (Expression × E) (Member × M) (Specifier × S) (MemberLine × L) (Parameter × P) (TypeName × T) (λ y. (y, of_declarator n y)) (λ y. (y, of_constant n y)) (λ y. (y, of_expression n y)) (λ y. (y, of_member n y)) (λ y. (y, of_specifier n y)) (λ y. (y, of_line n y)) (λ y. (y, of_parameter n y)) (λ y. (y, of_type_name n y))

  abbrev pub parameter_beside : Parameter-F Declarator EnumConstant Expression Member Specifier MemberLine Parameter TypeName → ParameterOver D C E M S L P T
  parameter_beside = map-Parameter Declarator EnumConstant Expression Member Specifier MemberLine Parameter TypeName (Declarator × D) (EnumConstant × C) (Expression × E) (Member × M) (Specifier × S) (MemberLine × L) (Parameter × P) (TypeName × T) (λ y. (y, of_declarator n y)) (λ y. (y, of_constant n y)) (λ y. (y, of_expression n y)) (λ y. (y, of_member n y)) (λ y. (y, of_specifier n y)) (λ y. (y, of_line n y)) (λ y. (y, of_parameter n y)) (λ y. (y, of_type_name n y))

  abbrev pub type_name_beside : TypeName-F Declarator EnumConstant Expression Member Specifier MemberLine Parameter TypeName → TypeNameOver D C E M S L P T
  type_name_beside = map-TypeName Declarator EnumConstant Expression Member Specifier MemberLine Parameter TypeName (Declarator × D) (EnumConstant × C) (Expression × E) (Member × M) (Specifier × S) (MemberLine × L) (Parameter × P) (TypeName × T) (λ y. (y, of_declarator n y)) (λ y. (y, of_constant n y)) (λ y. (y, of_expression n y)) (λ y. (y, of_member n y)) (λ y. (y, of_specifier n y)) (λ y. (y, of_line n y)) (λ y. (y, of_parameter n y)) (λ y. (y, of_type_name n y))

  pub declarator_is : (x : Declarator) → of_declarator n x ≡ n.declarator (declarator_beside (out-Declarator x))
  unfolding of_declarator of_constant of_expression of_member of_specifier of_line of_parameter of_type_name
  declarator_is x = ap (λ z. of_declarator n z) (sym (roll-out-Declarator x)) ∙ para-roll-Declarator D C E M S L P T n.declarator n.constant n.expression n.member n.specifier n.line n.parameter n.type_name (out-Declarator x)

  pub constant_is : (x : EnumConstant) → of_constant n x ≡ n.constant (constant_beside (out-EnumConstant x))
  unfolding of_declarator of_constant of_expression of_member of_specifier of_line of_parameter of_type_name
  constant_is x = ap (λ z. of_constant n z) (sym (roll-out-EnumConstant x)) ∙ para-roll-EnumConstant D C E M S L P T n.declarator n.constant n.expression n.member n.specifier n.line n.parameter n.type_name (out-EnumConstant x)

  pub expression_is : (x : Expression) → of_expression n x ≡ n.expression (expression_beside (out-Expression x))
  unfolding of_declarator of_constant of_expression of_member of_specifier of_line of_parameter of_type_name
  expression_is x = ap (λ z. of_expression n z) (sym (roll-out-Expression x)) ∙ para-roll-Expression D C E M S L P T n.declarator n.constant n.expression n.member n.specifier n.line n.parameter n.type_name (out-Expression x)

  pub member_is : (x : Member) → of_member n x ≡ n.member (member_beside (out-Member x))
  unfolding of_declarator of_constant of_expression of_member of_specifier of_line of_parameter of_type_name
  member_is x = ap (λ z. of_member n z) (sym (roll-out-Member x)) ∙ para-roll-Member D C E M S L P T n.declarator n.constant n.expression n.member n.specifier n.line n.parameter n.type_name (out-Member x)

  pub specifier_is : (x : Specifier) → of_specifier n x ≡ n.specifier (specifier_beside (out-Specifier x))
  unfolding of_declarator of_constant of_expression of_member of_specifier of_line of_parameter of_type_name
  specifier_is x = ap (λ z. of_specifier n z) (sym (roll-out-Specifier x)) ∙ para-roll-Specifier D C E M S L P T n.declarator n.constant n.expression n.member n.specifier n.line n.parameter n.type_name (out-Specifier x)

  pub line_is : (x : MemberLine) → of_line n x ≡ n.line (line_beside (out-MemberLine x))
  unfolding of_declarator of_constant of_expression of_member of_specifier of_line of_parameter of_type_name
  line_is x = ap (λ z. of_line n z) (sym (roll-out-MemberLine x)) ∙ para-roll-MemberLine D C E M S L P T n.declarator n.constant n.expression n.member n.specifier n.line n.parameter n.type_name (out-MemberLine x)

  pub parameter_is : (x : Parameter) → of_parameter n x ≡ n.parameter (parameter_beside (out-Parameter x))
  unfolding of_declarator of_constant of_expression of_member of_specifier of_line of_parameter of_type_name
  parameter_is x = ap (λ z. of_parameter n z) (sym (roll-out-Parameter x)) ∙ para-roll-Parameter D C E M S L P T n.declarator n.constant n.expression n.member n.specifier n.line n.parameter n.type_name (out-Parameter x)

  pub type_name_is : (x : TypeName) → of_type_name n x ≡ n.type_name (type_name_beside (out-TypeName x))
  unfolding of_declarator of_constant of_expression of_member of_specifier of_line of_parameter of_type_name
  type_name_is x = ap (λ z. of_type_name n z) (sym (roll-out-TypeName x)) ∙ para-roll-TypeName D C E M S L P T n.declarator n.constant n.expression n.member n.specifier n.line n.parameter n.type_name (out-TypeName x)

  -- the same at a layer
  pub declarator_rolls : (l : Declarator-F Declarator EnumConstant Expression Member Specifier MemberLine Parameter TypeName) → of_declarator n (roll-Declarator l) ≡ n.declarator (declarator_beside l)
  unfolding of_declarator of_constant of_expression of_member of_specifier of_line of_parameter of_type_name
  declarator_rolls l = para-roll-Declarator D C E M S L P T n.declarator n.constant n.expression n.member n.specifier n.line n.parameter n.type_name l

  pub constant_rolls : (l : EnumConstant-F Declarator EnumConstant Expression Member Specifier MemberLine Parameter TypeName) → of_constant n (roll-EnumConstant l) ≡ n.constant (constant_beside l)
  unfolding of_declarator of_constant of_expression of_member of_specifier of_line of_parameter of_type_name
  constant_rolls l = para-roll-EnumConstant D C E M S L P T n.declarator n.constant n.expression n.member n.specifier n.line n.parameter n.type_name l

  pub expression_rolls : (l : Expression-F Declarator EnumConstant Expression Member Specifier MemberLine Parameter TypeName) → of_expression n (roll-Expression l) ≡ n.expression (expression_beside l)
  unfolding of_declarator of_constant of_expression of_member of_specifier of_line of_parameter of_type_name
  expression_rolls l = para-roll-Expression D C E M S L P T n.declarator n.constant n.expression n.member n.specifier n.line n.parameter n.type_name l

  pub member_rolls : (l : Member-F Declarator EnumConstant Expression Member Specifier MemberLine Parameter TypeName) → of_member n (roll-Member l) ≡ n.member (member_beside l)
  unfolding of_declarator of_constant of_expression of_member of_specifier of_line of_parameter of_type_name
  member_rolls l = para-roll-Member D C E M S L P T n.declarator n.constant n.expression n.member n.specifier n.line n.parameter n.type_name l

  pub specifier_rolls : (l : Specifier-F Declarator EnumConstant Expression Member Specifier MemberLine Parameter TypeName) → of_specifier n (roll-Specifier l) ≡ n.specifier (specifier_beside l)
  unfolding of_declarator of_constant of_expression of_member of_specifier of_line of_parameter of_type_name
  specifier_rolls l = para-roll-Specifier D C E M S L P T n.declarator n.constant n.expression n.member n.specifier n.line n.parameter n.type_name l

  pub line_rolls : (l : MemberLine-F Declarator EnumConstant Expression Member Specifier MemberLine Parameter TypeName) → of_line n (roll-MemberLine l) ≡ n.line (line_beside l)
  unfolding of_declarator of_constant of_expression of_member of_specifier of_line of_parameter of_type_name
  line_rolls l = para-roll-MemberLine D C E M S L P T n.declarator n.constant n.expression n.member n.specifier n.line n.parameter n.type_name l

  pub parameter_rolls : (l : Parameter-F Declarator EnumConstant Expression Member Specifier MemberLine Parameter TypeName) → of_parameter n (roll-Parameter l) ≡ n.parameter (parameter_beside l)
  unfolding of_declarator of_constant of_expression of_member of_specifier of_line of_parameter of_type_name
  parameter_rolls l = para-roll-Parameter D C E M S L P T n.declarator n.constant n.expression n.member n.specifier n.line n.parameter n.type_name l

  pub type_name_rolls : (l : TypeName-F Declarator EnumConstant Expression Member Specifier MemberLine Parameter TypeName) → of_type_name n (roll-TypeName l) ≡ n.type_name (type_name_beside l)
  unfolding of_declarator of_constant of_expression of_member of_specifier of_line of_parameter of_type_name
  type_name_rolls l = para-roll-TypeName D C E M S L P T n.declarator n.constant n.expression n.member n.specifier n.line n.parameter n.type_name l
