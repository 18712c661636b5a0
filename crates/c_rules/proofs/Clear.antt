-- Where an expression and its parts break no rule, it and its parts have types.
use Rattle.std.proofs.Common.{◌≡◌, Bool, true, false, ◌&&◌, cond, List, [], ◌∷◌, ◌++◌, map, ap, sym, subst, ◌∙◌}
use Rattle.c_tree.specs.declared.expression.Declarator.{Declarator}
use Rattle.c_tree.specs.declared.expression.EnumConstant.{EnumConstant}
use Rattle.c_tree.specs.declared.expression.Expression.{Expression, out-Expression}
use Rattle.c_tree.specs.declared.expression.Member.{Member}
use Rattle.c_tree.specs.declared.expression.Specifier.{Specifier}
use Rattle.c_tree.specs.declared.expression.MemberLine.{MemberLine}
use Rattle.c_tree.specs.declared.expression.Parameter.{Parameter}
use Rattle.c_tree.specs.declared.expression.TypeName.{TypeName}
use Rattle.c_tree.specs.declared.expression.Declarator.TheOpen.{Declarator-F, EnumConstant-F, Expression-F, Member-F, Specifier-F, MemberLine-F, Parameter-F, TypeName-F}
use Rattle.c_tree.specs.declared.expression.Declarator.TheOpen.{Declarator-F as d, EnumConstant-F as c, Expression-F as e, Member-F as m, Specifier-F as s}
use Rattle.c_tree.specs.declared.expression.Declarator.TheViews.{roll-Declarator, roll-EnumConstant, roll-Expression, roll-Member, roll-Specifier, roll-MemberLine, roll-Parameter, roll-TypeName}
use Rattle.c_tree.specs.declared.expression.Declarator.TheFolds.{map-Declarator, map-EnumConstant, map-Expression, map-Member, map-Specifier, map-MemberLine, map-Parameter, map-TypeName, ind-Declarator, ind-Expression, ind-Specifier}
use Rattle.c_rules.specs.declared.names.Pair.{Pair}
use Rattle.c_rules.specs.Recursion.{of_declarator, of_constant, of_expression, of_member, of_specifier, of_line, of_parameter, of_type_name}
use Rattle.c_rules.specs.Broken.{of_each, broken_in}
use Rattle.c_rules.specs.Typing.{Given, meaning_at, is_assert_fail, is_text, expression_answer, answer_of}
use Rattle.c_rules.specs.Expressions.{in_arguments, in_expression, judging}
use Rattle.c_rules.specs.Found.{AnswerAt, token_of, answering}
use Rattle.c_rules.proofs.Recursion.{declarator_beside, constant_beside, expression_beside, member_beside, specifier_beside, line_beside, parameter_beside, type_name_beside, declarator_rolls, constant_rolls, expression_rolls, member_rolls, specifier_rolls, line_rolls, parameter_rolls, type_name_rolls}
use Rattle.c_rules.proofs.Told.{Tell}
use Rattle.c_rules.proofs.Empty.{first_empty, second_empty}
use Rattle.c_rules.proofs.Typed.{IsTyped, AllTyped, nothing_typed, typed_both, typed_one, answer_beside, of_node, typed_node}

-- ---- lists

pub both : {A : Type 0} → (xs ys : List A) (zs ws : List AnswerAt) → (xs ≡ [] → AllTyped zs) → (ys ≡ [] → AllTyped ws) → xs ++ ys ≡ [] → AllTyped (zs ++ ws)
both xs ys zs ws f g h = typed_both zs ws (f (first_empty xs ys h)) (g (second_empty xs ys h))

-- a part whose expressions have types where it breaks no rule
abbrev Clear : {A X : Type 0} → (A → Bool → List X) → (A → Bool → List AnswerAt) → A → Type 0
Clear j s x = (u : Bool) → j x u ≡ [] → AllTyped (s x u)

module _ {A X : Type 0} (j : A → Bool → List X) (s : A → Bool → List AnswerAt) (u : Bool) where
  pub each : (ps : List ((x : A) × Clear j s x))
      → of_each (λ (p : A × (Bool → List X)). p.1 u) (map (λ y. (y, j y)) (map (λ p. p.0) ps)) ≡ []
      → AllTyped (of_each (λ (p : A × (Bool → List AnswerAt)). p.1 u) (map (λ y. (y, s y)) (map (λ p. p.0) ps)))
  each [] h = nothing_typed
  each (p ∷ ps) h = both _ _ _ _ (p.1 u) (each ps) h

module _ (g : Given) where
  abbrev pub ClearDeclarator : Declarator → Type 0
  ClearDeclarator = Clear (of_declarator (judging g)) (of_declarator (answering g))

  abbrev pub ClearEnumConstant : EnumConstant → Type 0
  ClearEnumConstant = Clear (of_constant (judging g)) (of_constant (answering g))

  abbrev pub ClearExpression : Expression → Type 0
  ClearExpression = Clear (of_expression (judging g)) (of_expression (answering g))

  abbrev pub ClearMember : Member → Type 0
  ClearMember = Clear (of_member (judging g)) (of_member (answering g))

  abbrev pub ClearSpecifier : Specifier → Type 0
  ClearSpecifier = Clear (of_specifier (judging g)) (of_specifier (answering g))

  abbrev pub ClearMemberLine : MemberLine → Type 0
  ClearMemberLine = Clear (of_line (judging g)) (of_line (answering g))

  abbrev pub ClearParameter : Parameter → Type 0
  ClearParameter = Clear (of_parameter (judging g)) (of_parameter (answering g))

  abbrev pub ClearTypeName : TypeName → Type 0
  ClearTypeName = Clear (of_type_name (judging g)) (of_type_name (answering g))

  abbrev declarator_of : Declarator-F ((x : Declarator) × ClearDeclarator x) ((x : EnumConstant) × ClearEnumConstant x) ((x : Expression) × ClearExpression x) ((x : Member) × ClearMember x) ((x : Specifier) × ClearSpecifier x) ((x : MemberLine) × ClearMemberLine x) ((x : Parameter) × ClearParameter x) ((x : TypeName) × ClearTypeName x) → Declarator-F Declarator EnumConstant Expression Member Specifier MemberLine Parameter TypeName
  declarator_of = map-Declarator ((x : Declarator) × ClearDeclarator x) ((x : EnumConstant) × ClearEnumConstant x) ((x : Expression) × ClearExpression x) ((x : Member) × ClearMember x) ((x : Specifier) × ClearSpecifier x) ((x : MemberLine) × ClearMemberLine x) ((x : Parameter) × ClearParameter x) ((x : TypeName) × ClearTypeName x) Declarator EnumConstant Expression Member Specifier MemberLine Parameter TypeName (λ p. p.0) (λ p. p.0) (λ p. p.0) (λ p. p.0) (λ p. p.0) (λ p. p.0) (λ p. p.0) (λ p. p.0)

  abbrev constant_of : EnumConstant-F ((x : Declarator) × ClearDeclarator x) ((x : EnumConstant) × ClearEnumConstant x) ((x : Expression) × ClearExpression x) ((x : Member) × ClearMember x) ((x : Specifier) × ClearSpecifier x) ((x : MemberLine) × ClearMemberLine x) ((x : Parameter) × ClearParameter x) ((x : TypeName) × ClearTypeName x) → EnumConstant-F Declarator EnumConstant Expression Member Specifier MemberLine Parameter TypeName
  constant_of = map-EnumConstant ((x : Declarator) × ClearDeclarator x) ((x : EnumConstant) × ClearEnumConstant x) ((x : Expression) × ClearExpression x) ((x : Member) × ClearMember x) ((x : Specifier) × ClearSpecifier x) ((x : MemberLine) × ClearMemberLine x) ((x : Parameter) × ClearParameter x) ((x : TypeName) × ClearTypeName x) Declarator EnumConstant Expression Member Specifier MemberLine Parameter TypeName (λ p. p.0) (λ p. p.0) (λ p. p.0) (λ p. p.0) (λ p. p.0) (λ p. p.0) (λ p. p.0) (λ p. p.0)

  abbrev expression_of : Expression-F ((x : Declarator) × ClearDeclarator x) ((x : EnumConstant) × ClearEnumConstant x) ((x : Expression) × ClearExpression x) ((x : Member) × ClearMember x) ((x : Specifier) × ClearSpecifier x) ((x : MemberLine) × ClearMemberLine x) ((x : Parameter) × ClearParameter x) ((x : TypeName) × ClearTypeName x) → Expression-F Declarator EnumConstant Expression Member Specifier MemberLine Parameter TypeName
  expression_of = map-Expression ((x : Declarator) × ClearDeclarator x) ((x : EnumConstant) × ClearEnumConstant x) ((x : Expression) × ClearExpression x) ((x : Member) × ClearMember x) ((x : Specifier) × ClearSpecifier x) ((x : MemberLine) × ClearMemberLine x) ((x : Parameter) × ClearParameter x) ((x : TypeName) × ClearTypeName x) Declarator EnumConstant Expression Member Specifier MemberLine Parameter TypeName (λ p. p.0) (λ p. p.0) (λ p. p.0) (λ p. p.0) (λ p. p.0) (λ p. p.0) (λ p. p.0) (λ p. p.0)

  abbrev member_of : Member-F ((x : Declarator) × ClearDeclarator x) ((x : EnumConstant) × ClearEnumConstant x) ((x : Expression) × ClearExpression x) ((x : Member) × ClearMember x) ((x : Specifier) × ClearSpecifier x) ((x : MemberLine) × ClearMemberLine x) ((x : Parameter) × ClearParameter x) ((x : TypeName) × ClearTypeName x) → Member-F Declarator EnumConstant Expression Member Specifier MemberLine Parameter TypeName
  member_of = map-Member ((x : Declarator) × ClearDeclarator x) ((x : EnumConstant) × ClearEnumConstant x) ((x : Expression) × ClearExpression x) ((x : Member) × ClearMember x) ((x : Specifier) × ClearSpecifier x) ((x : MemberLine) × ClearMemberLine x) ((x : Parameter) × ClearParameter x) ((x : TypeName) × ClearTypeName x) Declarator EnumConstant Expression Member Specifier MemberLine Parameter TypeName (λ p. p.0) (λ p. p.0) (λ p. p.0) (λ p. p.0) (λ p. p.0) (λ p. p.0) (λ p. p.0) (λ p. p.0)

  abbrev specifier_of : Specifier-F ((x : Declarator) × ClearDeclarator x) ((x : EnumConstant) × ClearEnumConstant x) ((x : Expression) × ClearExpression x) ((x : Member) × ClearMember x) ((x : Specifier) × ClearSpecifier x) ((x : MemberLine) × ClearMemberLine x) ((x : Parameter) × ClearParameter x) ((x : TypeName) × ClearTypeName x) → Specifier-F Declarator EnumConstant Expression Member Specifier MemberLine Parameter TypeName
  specifier_of = map-Specifier ((x : Declarator) × ClearDeclarator x) ((x : EnumConstant) × ClearEnumConstant x) ((x : Expression) × ClearExpression x) ((x : Member) × ClearMember x) ((x : Specifier) × ClearSpecifier x) ((x : MemberLine) × ClearMemberLine x) ((x : Parameter) × ClearParameter x) ((x : TypeName) × ClearTypeName x) Declarator EnumConstant Expression Member Specifier MemberLine Parameter TypeName (λ p. p.0) (λ p. p.0) (λ p. p.0) (λ p. p.0) (λ p. p.0) (λ p. p.0) (λ p. p.0) (λ p. p.0)

  abbrev line_of : MemberLine-F ((x : Declarator) × ClearDeclarator x) ((x : EnumConstant) × ClearEnumConstant x) ((x : Expression) × ClearExpression x) ((x : Member) × ClearMember x) ((x : Specifier) × ClearSpecifier x) ((x : MemberLine) × ClearMemberLine x) ((x : Parameter) × ClearParameter x) ((x : TypeName) × ClearTypeName x) → MemberLine-F Declarator EnumConstant Expression Member Specifier MemberLine Parameter TypeName
  line_of = map-MemberLine ((x : Declarator) × ClearDeclarator x) ((x : EnumConstant) × ClearEnumConstant x) ((x : Expression) × ClearExpression x) ((x : Member) × ClearMember x) ((x : Specifier) × ClearSpecifier x) ((x : MemberLine) × ClearMemberLine x) ((x : Parameter) × ClearParameter x) ((x : TypeName) × ClearTypeName x) Declarator EnumConstant Expression Member Specifier MemberLine Parameter TypeName (λ p. p.0) (λ p. p.0) (λ p. p.0) (λ p. p.0) (λ p. p.0) (λ p. p.0) (λ p. p.0) (λ p. p.0)

  abbrev parameter_of : Parameter-F ((x : Declarator) × ClearDeclarator x) ((x : EnumConstant) × ClearEnumConstant x) ((x : Expression) × ClearExpression x) ((x : Member) × ClearMember x) ((x : Specifier) × ClearSpecifier x) ((x : MemberLine) × ClearMemberLine x) ((x : Parameter) × ClearParameter x) ((x : TypeName) × ClearTypeName x) → Parameter-F Declarator EnumConstant Expression Member Specifier MemberLine Parameter TypeName
  parameter_of = map-Parameter ((x : Declarator) × ClearDeclarator x) ((x : EnumConstant) × ClearEnumConstant x) ((x : Expression) × ClearExpression x) ((x : Member) × ClearMember x) ((x : Specifier) × ClearSpecifier x) ((x : MemberLine) × ClearMemberLine x) ((x : Parameter) × ClearParameter x) ((x : TypeName) × ClearTypeName x) Declarator EnumConstant Expression Member Specifier MemberLine Parameter TypeName (λ p. p.0) (λ p. p.0) (λ p. p.0) (λ p. p.0) (λ p. p.0) (λ p. p.0) (λ p. p.0) (λ p. p.0)

  abbrev type_name_of : TypeName-F ((x : Declarator) × ClearDeclarator x) ((x : EnumConstant) × ClearEnumConstant x) ((x : Expression) × ClearExpression x) ((x : Member) × ClearMember x) ((x : Specifier) × ClearSpecifier x) ((x : MemberLine) × ClearMemberLine x) ((x : Parameter) × ClearParameter x) ((x : TypeName) × ClearTypeName x) → TypeName-F Declarator EnumConstant Expression Member Specifier MemberLine Parameter TypeName
  type_name_of = map-TypeName ((x : Declarator) × ClearDeclarator x) ((x : EnumConstant) × ClearEnumConstant x) ((x : Expression) × ClearExpression x) ((x : Member) × ClearMember x) ((x : Specifier) × ClearSpecifier x) ((x : MemberLine) × ClearMemberLine x) ((x : Parameter) × ClearParameter x) ((x : TypeName) × ClearTypeName x) Declarator EnumConstant Expression Member Specifier MemberLine Parameter TypeName (λ p. p.0) (λ p. p.0) (λ p. p.0) (λ p. p.0) (λ p. p.0) (λ p. p.0) (λ p. p.0) (λ p. p.0)

  arguments_clear : (texts u : Bool) (ps : List ((x : Expression) × ClearExpression x))
      → in_arguments {E = Expression × (Bool → List Pair)} (λ x. x.0) (λ x. x.1) texts u (map (λ y. (y, of_expression (judging g) y)) (map (λ p. p.0) ps)) ≡ []
      → AllTyped (in_arguments {E = Expression × (Bool → List AnswerAt)} (λ x. x.0) (λ x. x.1) texts u (map (λ y. (y, of_expression (answering g) y)) (map (λ p. p.0) ps)))
  arguments_clear texts u [] h = nothing_typed
  arguments_clear texts u (p ∷ ps) h = both _ _ _ _ (one (texts && is_text p.0)) (arguments_clear texts u ps) h
    where
      one : (b : Bool) → cond b [] (of_expression (judging g) p.0 u) ≡ [] → AllTyped (cond b [] (of_expression (answering g) p.0 u))
      one true i = nothing_typed
      one false i = p.1 u i

  call_clear : (function : (x : Expression) × ClearExpression x) (ps : List ((x : Expression) × ClearExpression x)) (u : Bool) (o : Expression-F Declarator EnumConstant Expression Member Specifier MemberLine Parameter TypeName)
      → elim o as (λ _. List Pair) [
        | e.«Expression::Name» text name ↦ in_arguments {E = Expression × (Bool → List Pair)} (λ x. x.0) (λ x. x.1) (is_assert_fail g.names (meaning_at g.names name)) u (map (λ y. (y, of_expression (judging g) y)) (map (λ p. p.0) ps))
        | _ ↦ of_expression (judging g) function.0 u ++ in_arguments {E = Expression × (Bool → List Pair)} (λ x. x.0) (λ x. x.1) false u (map (λ y. (y, of_expression (judging g) y)) (map (λ p. p.0) ps))
      ] ≡ []
      → AllTyped (elim o as (λ _. List AnswerAt) [
        | e.«Expression::Name» text name ↦ in_arguments {E = Expression × (Bool → List AnswerAt)} (λ x. x.0) (λ x. x.1) (is_assert_fail g.names (meaning_at g.names name)) u (map (λ y. (y, of_expression (answering g) y)) (map (λ p. p.0) ps))
        | _ ↦ of_expression (answering g) function.0 u ++ in_arguments {E = Expression × (Bool → List AnswerAt)} (λ x. x.0) (λ x. x.1) false u (map (λ y. (y, of_expression (answering g) y)) (map (λ p. p.0) ps))
      ])
  call_clear function ps u (e.«Expression::Name» text name) h = arguments_clear (is_assert_fail g.names (meaning_at g.names name)) u ps h
  call_clear function ps u _ h = both _ _ _ _ (function.1 u) (arguments_clear false u ps) h

  in_expression_clear : (y : Expression-F ((x : Declarator) × ClearDeclarator x) ((x : EnumConstant) × ClearEnumConstant x) ((x : Expression) × ClearExpression x) ((x : Member) × ClearMember x) ((x : Specifier) × ClearSpecifier x) ((x : MemberLine) × ClearMemberLine x) ((x : Parameter) × ClearParameter x) ((x : TypeName) × ClearTypeName x)) (u : Bool)
      → in_expression g (λ x. x.0) (λ x. x.1) (λ x. x.1) (expression_beside (judging g) (expression_of y)) u ≡ [] → AllTyped (in_expression g (λ x. x.0) (λ x. x.1) (λ x. x.1) (expression_beside (answering g) (expression_of y)) u)
  in_expression_clear (e.«Expression::Name» name at) u h = nothing_typed
  in_expression_clear (e.Constant kind n at) u h = nothing_typed
  in_expression_clear (e.Text at) u h = nothing_typed
  in_expression_clear (e.Subscript array index at) u h = both _ _ _ _ (array.1 u) (index.1 u) h
  in_expression_clear (e.Call function arguments at) u h = call_clear function arguments u (out-Expression function.0) h
  in_expression_clear (e.Member object name at) u h = object.1 u h
  in_expression_clear (e.PointedMember pointer name at) u h = pointer.1 u h
  in_expression_clear (e.Postfix step operand at) u h = operand.1 u h
  in_expression_clear (e.Prefix step operand at) u h = operand.1 u h
  in_expression_clear (e.Unary operator operand at) u h = operand.1 u h
  in_expression_clear (e.SizeofExpression operand at) u h = operand.1 true h
  in_expression_clear (e.SizeofType type_name at) u h = type_name.1 true h
  in_expression_clear (e.Cast type_name operand at) u h = both _ _ _ _ (type_name.1 u) (operand.1 u) h
  in_expression_clear (e.Binary operator left right at) u h = both _ _ _ _ (left.1 u) (right.1 u) h
  in_expression_clear (e.Conditional test first otherwise at) u h = both _ _ _ _ (both _ _ _ _ (test.1 u) (first.1 u)) (otherwise.1 u) h
  in_expression_clear (e.Assign operator target value at) u h = both _ _ _ _ (target.1 u) (value.1 u) h
  in_expression_clear (e.Comma parts at) u h = each (of_expression (judging g)) (of_expression (answering g)) u parts h

  in_declarator_clear : (y : Declarator-F ((x : Declarator) × ClearDeclarator x) ((x : EnumConstant) × ClearEnumConstant x) ((x : Expression) × ClearExpression x) ((x : Member) × ClearMember x) ((x : Specifier) × ClearSpecifier x) ((x : MemberLine) × ClearMemberLine x) ((x : Parameter) × ClearParameter x) ((x : TypeName) × ClearTypeName x)) (u : Bool)
      → (judging g).declarator (declarator_beside (judging g) (declarator_of y)) u ≡ [] → AllTyped ((answering g).declarator (declarator_beside (answering g) (declarator_of y)) u)
  in_declarator_clear (d.«Declarator::Name» name at) u h = nothing_typed
  in_declarator_clear (d.Unnamed at) u h = nothing_typed
  in_declarator_clear (d.Pointer qualifiers inner at) u h = inner.1 u h
  in_declarator_clear (d.Array inner size at) u h = both _ _ _ _ (inner.1 u) (size.1 u) h
  in_declarator_clear (d.OpenArray inner at) u h = inner.1 u h
  in_declarator_clear (d.«Declarator::Function» inner ps variadic at) u h = both _ _ _ _ (inner.1 u) (each (of_parameter (judging g)) (of_parameter (answering g)) u ps) h

  in_constant_clear : (y : EnumConstant-F ((x : Declarator) × ClearDeclarator x) ((x : EnumConstant) × ClearEnumConstant x) ((x : Expression) × ClearExpression x) ((x : Member) × ClearMember x) ((x : Specifier) × ClearSpecifier x) ((x : MemberLine) × ClearMemberLine x) ((x : Parameter) × ClearParameter x) ((x : TypeName) × ClearTypeName x)) (u : Bool)
      → (judging g).constant (constant_beside (judging g) (constant_of y)) u ≡ [] → AllTyped ((answering g).constant (constant_beside (answering g) (constant_of y)) u)
  in_constant_clear (c.Next name at) u h = nothing_typed
  in_constant_clear (c.Valued name value at) u h = value.1 u h

  in_member_clear : (y : Member-F ((x : Declarator) × ClearDeclarator x) ((x : EnumConstant) × ClearEnumConstant x) ((x : Expression) × ClearExpression x) ((x : Member) × ClearMember x) ((x : Specifier) × ClearSpecifier x) ((x : MemberLine) × ClearMemberLine x) ((x : Parameter) × ClearParameter x) ((x : TypeName) × ClearTypeName x)) (u : Bool)
      → (judging g).member (member_beside (judging g) (member_of y)) u ≡ [] → AllTyped ((answering g).member (member_beside (answering g) (member_of y)) u)
  in_member_clear (m.Plain x) u h = x.1 u h
  in_member_clear (m.BitField x width at) u h = both _ _ _ _ (x.1 u) (width.1 u) h
  in_member_clear (m.UnnamedBitField width at) u h = width.1 u h

  in_specifier_clear : (y : Specifier-F ((x : Declarator) × ClearDeclarator x) ((x : EnumConstant) × ClearEnumConstant x) ((x : Expression) × ClearExpression x) ((x : Member) × ClearMember x) ((x : Specifier) × ClearSpecifier x) ((x : MemberLine) × ClearMemberLine x) ((x : Parameter) × ClearParameter x) ((x : TypeName) × ClearTypeName x)) (u : Bool)
      → (judging g).specifier (specifier_beside (judging g) (specifier_of y)) u ≡ [] → AllTyped ((answering g).specifier (specifier_beside (answering g) (specifier_of y)) u)
  in_specifier_clear (s.Struct tag lines at) u h = each (of_line (judging g)) (of_line (answering g)) u lines h
  in_specifier_clear (s.Enum tag constants at) u h = each (of_constant (judging g)) (of_constant (answering g)) u constants h
  in_specifier_clear _ u h = nothing_typed

  in_line_clear : (y : MemberLine-F ((x : Declarator) × ClearDeclarator x) ((x : EnumConstant) × ClearEnumConstant x) ((x : Expression) × ClearExpression x) ((x : Member) × ClearMember x) ((x : Specifier) × ClearSpecifier x) ((x : MemberLine) × ClearMemberLine x) ((x : Parameter) × ClearParameter x) ((x : TypeName) × ClearTypeName x)) (u : Bool)
      → (judging g).line (line_beside (judging g) (line_of y)) u ≡ [] → AllTyped ((answering g).line (line_beside (answering g) (line_of y)) u)
  in_line_clear y u h = both _ _ _ _ (each (of_specifier (judging g)) (of_specifier (answering g)) u y.specifiers) (each (of_member (judging g)) (of_member (answering g)) u y.members) h

  in_parameter_clear : (y : Parameter-F ((x : Declarator) × ClearDeclarator x) ((x : EnumConstant) × ClearEnumConstant x) ((x : Expression) × ClearExpression x) ((x : Member) × ClearMember x) ((x : Specifier) × ClearSpecifier x) ((x : MemberLine) × ClearMemberLine x) ((x : Parameter) × ClearParameter x) ((x : TypeName) × ClearTypeName x)) (u : Bool)
      → (judging g).parameter (parameter_beside (judging g) (parameter_of y)) u ≡ [] → AllTyped ((answering g).parameter (parameter_beside (answering g) (parameter_of y)) u)
  in_parameter_clear y u h = both _ _ _ _ (each (of_specifier (judging g)) (of_specifier (answering g)) u y.specifiers) (y.declarator.1 u) h

  in_type_name_clear : (y : TypeName-F ((x : Declarator) × ClearDeclarator x) ((x : EnumConstant) × ClearEnumConstant x) ((x : Expression) × ClearExpression x) ((x : Member) × ClearMember x) ((x : Specifier) × ClearSpecifier x) ((x : MemberLine) × ClearMemberLine x) ((x : Parameter) × ClearParameter x) ((x : TypeName) × ClearTypeName x)) (u : Bool)
      → (judging g).type_name (type_name_beside (judging g) (type_name_of y)) u ≡ [] → AllTyped ((answering g).type_name (type_name_beside (answering g) (type_name_of y)) u)
  in_type_name_clear y u h = both _ _ _ _ (each (of_specifier (judging g)) (of_specifier (answering g)) u y.specifiers) (y.declarator.1 u) h

  declarator_step : (y : Declarator-F ((x : Declarator) × ClearDeclarator x) ((x : EnumConstant) × ClearEnumConstant x) ((x : Expression) × ClearExpression x) ((x : Member) × ClearMember x) ((x : Specifier) × ClearSpecifier x) ((x : MemberLine) × ClearMemberLine x) ((x : Parameter) × ClearParameter x) ((x : TypeName) × ClearTypeName x)) → ClearDeclarator (roll-Declarator (declarator_of y))
  declarator_step y u h = subst AllTyped (sym (ap (λ f. f u) (declarator_rolls (answering g) (declarator_of y)))) (in_declarator_clear y u (sym (ap (λ f. f u) (declarator_rolls (judging g) (declarator_of y))) ∙ h))

  constant_step : (y : EnumConstant-F ((x : Declarator) × ClearDeclarator x) ((x : EnumConstant) × ClearEnumConstant x) ((x : Expression) × ClearExpression x) ((x : Member) × ClearMember x) ((x : Specifier) × ClearSpecifier x) ((x : MemberLine) × ClearMemberLine x) ((x : Parameter) × ClearParameter x) ((x : TypeName) × ClearTypeName x)) → ClearEnumConstant (roll-EnumConstant (constant_of y))
  constant_step y u h = subst AllTyped (sym (ap (λ f. f u) (constant_rolls (answering g) (constant_of y)))) (in_constant_clear y u (sym (ap (λ f. f u) (constant_rolls (judging g) (constant_of y))) ∙ h))

  member_step : (y : Member-F ((x : Declarator) × ClearDeclarator x) ((x : EnumConstant) × ClearEnumConstant x) ((x : Expression) × ClearExpression x) ((x : Member) × ClearMember x) ((x : Specifier) × ClearSpecifier x) ((x : MemberLine) × ClearMemberLine x) ((x : Parameter) × ClearParameter x) ((x : TypeName) × ClearTypeName x)) → ClearMember (roll-Member (member_of y))
  member_step y u h = subst AllTyped (sym (ap (λ f. f u) (member_rolls (answering g) (member_of y)))) (in_member_clear y u (sym (ap (λ f. f u) (member_rolls (judging g) (member_of y))) ∙ h))

  specifier_step : (y : Specifier-F ((x : Declarator) × ClearDeclarator x) ((x : EnumConstant) × ClearEnumConstant x) ((x : Expression) × ClearExpression x) ((x : Member) × ClearMember x) ((x : Specifier) × ClearSpecifier x) ((x : MemberLine) × ClearMemberLine x) ((x : Parameter) × ClearParameter x) ((x : TypeName) × ClearTypeName x)) → ClearSpecifier (roll-Specifier (specifier_of y))
  specifier_step y u h = subst AllTyped (sym (ap (λ f. f u) (specifier_rolls (answering g) (specifier_of y)))) (in_specifier_clear y u (sym (ap (λ f. f u) (specifier_rolls (judging g) (specifier_of y))) ∙ h))

  line_step : (y : MemberLine-F ((x : Declarator) × ClearDeclarator x) ((x : EnumConstant) × ClearEnumConstant x) ((x : Expression) × ClearExpression x) ((x : Member) × ClearMember x) ((x : Specifier) × ClearSpecifier x) ((x : MemberLine) × ClearMemberLine x) ((x : Parameter) × ClearParameter x) ((x : TypeName) × ClearTypeName x)) → ClearMemberLine (roll-MemberLine (line_of y))
  line_step y u h = subst AllTyped (sym (ap (λ f. f u) (line_rolls (answering g) (line_of y)))) (in_line_clear y u (sym (ap (λ f. f u) (line_rolls (judging g) (line_of y))) ∙ h))

  parameter_step : (y : Parameter-F ((x : Declarator) × ClearDeclarator x) ((x : EnumConstant) × ClearEnumConstant x) ((x : Expression) × ClearExpression x) ((x : Member) × ClearMember x) ((x : Specifier) × ClearSpecifier x) ((x : MemberLine) × ClearMemberLine x) ((x : Parameter) × ClearParameter x) ((x : TypeName) × ClearTypeName x)) → ClearParameter (roll-Parameter (parameter_of y))
  parameter_step y u h = subst AllTyped (sym (ap (λ f. f u) (parameter_rolls (answering g) (parameter_of y)))) (in_parameter_clear y u (sym (ap (λ f. f u) (parameter_rolls (judging g) (parameter_of y))) ∙ h))

  type_name_step : (y : TypeName-F ((x : Declarator) × ClearDeclarator x) ((x : EnumConstant) × ClearEnumConstant x) ((x : Expression) × ClearExpression x) ((x : Member) × ClearMember x) ((x : Specifier) × ClearSpecifier x) ((x : MemberLine) × ClearMemberLine x) ((x : Parameter) × ClearParameter x) ((x : TypeName) × ClearTypeName x)) → ClearTypeName (roll-TypeName (type_name_of y))
  type_name_step y u h = subst AllTyped (sym (ap (λ f. f u) (type_name_rolls (answering g) (type_name_of y)))) (in_type_name_clear y u (sym (ap (λ f. f u) (type_name_rolls (judging g) (type_name_of y))) ∙ h))

module _ (g : Given) (told : Tell g.names) where
  expression_step : (y : Expression-F ((x : Declarator) × ClearDeclarator g x) ((x : EnumConstant) × ClearEnumConstant g x) ((x : Expression) × ClearExpression g x) ((x : Member) × ClearMember g x) ((x : Specifier) × ClearSpecifier g x) ((x : MemberLine) × ClearMemberLine g x) ((x : Parameter) × ClearParameter g x) ((x : TypeName) × ClearTypeName g x)) → ClearExpression g (roll-Expression (expression_of g y))
  expression_step y u h =
      let broken = sym (ap (λ f. f u) (expression_rolls (judging g) (expression_of g y))) ∙ h in
      let parts = in_expression_clear g y u (first_empty _ _ (first_empty _ _ broken)) in
      let own = subst (λ a. broken_in a ≡ []) (answer_beside g (judging g) u (expression_of g y)) (second_empty _ _ broken) in
      let typed = typed_node (expression_answer g (answer_of g) (λ x. x) (expression_of g y) u) (of_node g told u (expression_of g y) parts) own in
      subst AllTyped (sym (ap (λ f. f u) (expression_rolls (answering g) (expression_of g y))))
      (typed_both _ _ parts (typed_one (token_of (expression_beside (answering g) (expression_of g y))) _ (subst IsTyped (sym (answer_beside g (answering g) u (expression_of g y))) typed)))

  pub declarator_clear : (x : Declarator) → ClearDeclarator g x
  declarator_clear = ind-Declarator (ClearDeclarator g) (ClearEnumConstant g) (ClearExpression g) (ClearMember g) (ClearSpecifier g) (ClearMemberLine g) (ClearParameter g) (ClearTypeName g)
      (λ x y is. subst (λ l. ClearDeclarator g (roll-Declarator l)) is (declarator_step g y)) (λ x y is. subst (λ l. ClearEnumConstant g (roll-EnumConstant l)) is (constant_step g y)) (λ x y is. subst (λ l. ClearExpression g (roll-Expression l)) is (expression_step y)) (λ x y is. subst (λ l. ClearMember g (roll-Member l)) is (member_step g y)) (λ x y is. subst (λ l. ClearSpecifier g (roll-Specifier l)) is (specifier_step g y)) (λ x y is. subst (λ l. ClearMemberLine g (roll-MemberLine l)) is (line_step g y)) (λ x y is. subst (λ l. ClearParameter g (roll-Parameter l)) is (parameter_step g y)) (λ x y is. subst (λ l. ClearTypeName g (roll-TypeName l)) is (type_name_step g y))

  pub expression_clear : (x : Expression) → ClearExpression g x
  expression_clear = ind-Expression (ClearDeclarator g) (ClearEnumConstant g) (ClearExpression g) (ClearMember g) (ClearSpecifier g) (ClearMemberLine g) (ClearParameter g) (ClearTypeName g)
      (λ x y is. subst (λ l. ClearDeclarator g (roll-Declarator l)) is (declarator_step g y)) (λ x y is. subst (λ l. ClearEnumConstant g (roll-EnumConstant l)) is (constant_step g y)) (λ x y is. subst (λ l. ClearExpression g (roll-Expression l)) is (expression_step y)) (λ x y is. subst (λ l. ClearMember g (roll-Member l)) is (member_step g y)) (λ x y is. subst (λ l. ClearSpecifier g (roll-Specifier l)) is (specifier_step g y)) (λ x y is. subst (λ l. ClearMemberLine g (roll-MemberLine l)) is (line_step g y)) (λ x y is. subst (λ l. ClearParameter g (roll-Parameter l)) is (parameter_step g y)) (λ x y is. subst (λ l. ClearTypeName g (roll-TypeName l)) is (type_name_step g y))

  pub specifier_clear : (x : Specifier) → ClearSpecifier g x
  specifier_clear = ind-Specifier (ClearDeclarator g) (ClearEnumConstant g) (ClearExpression g) (ClearMember g) (ClearSpecifier g) (ClearMemberLine g) (ClearParameter g) (ClearTypeName g)
      (λ x y is. subst (λ l. ClearDeclarator g (roll-Declarator l)) is (declarator_step g y)) (λ x y is. subst (λ l. ClearEnumConstant g (roll-EnumConstant l)) is (constant_step g y)) (λ x y is. subst (λ l. ClearExpression g (roll-Expression l)) is (expression_step y)) (λ x y is. subst (λ l. ClearMember g (roll-Member l)) is (member_step g y)) (λ x y is. subst (λ l. ClearSpecifier g (roll-Specifier l)) is (specifier_step g y)) (λ x y is. subst (λ l. ClearMemberLine g (roll-MemberLine l)) is (line_step g y)) (λ x y is. subst (λ l. ClearParameter g (roll-Parameter l)) is (parameter_step g y)) (λ x y is. subst (λ l. ClearTypeName g (roll-TypeName l)) is (type_name_step g y))
