-- What the tokens spell is what the readers read: expressions, specifiers and declarators.
use Rattle.std.proofs.Common.{◌≡◌, ℕ, ◌+◌, ◌≤◌, List, length, Option, Bool, false, ◌∙◌, sym, arith}
use Rattle.c_tokens.specs.declared.token.TokenKind.{TokenKind}
use Rattle.c_tree.specs.declared.expression.Expression.{Expression}
use Rattle.c_tree.specs.declared.expression.Specifier.{Specifier}
use Rattle.c_tree.specs.declared.expression.MemberLine.{MemberLine}
use Rattle.c_tree.specs.declared.expression.Member.{Member}
use Rattle.c_tree.specs.declared.expression.EnumConstant.{EnumConstant}
use Rattle.c_tree.specs.declared.expression.Declarator.{Declarator}
use Rattle.c_tree.specs.declared.expression.Parameter.{Parameter}
use Rattle.c_tree.specs.declared.expression.TypeName.{TypeName}
use Rattle.c_tree.specs.declared.scope.Entry.{Entry}
use Rattle.c_tree.specs.Places.{Place, next, enter}
use Rattle.c_tree.specs.Signs.{level}
use Rattle.c_tree.specs.Spells as grammar
use Rattle.c_tree.specs.Spells.{IsExpression, AreAssignments, IsTypeName, AreSpecifiers, AreFurther, IsSpecifier, AreMemberLines, AreMembers, IsMember, AreEnumConstants, IsEnumConstant, IsDecorated, IsDeclarator, IsDirect, AreParameters, IsParameter, IsUnnamed, AreArrays, Role, Unnamed, InParameter, InTypeName, types_now}
use Rattle.c_grammar.specs.Kinds.{kind_at, suffix, below}
use Rattle.c_grammar.specs.ReadExpressions.{Gives}
use Rattle.c_grammar.specs.ReadTypes.{Titles}
use Rattle.c_grammar_laws.proofs.Complete as expression
use Rattle.c_grammar_laws.proofs.Complete.{Enough, Reaches, ReachesItems, ReachesType, exact}
use Rattle.c_grammar_laws.proofs.Leads.{expression_leads, declarator_leads, decorated_leads, members_lead, constants_lead, specifiers_lead, parameters_lead, further_leads, further_no_attribute, further_further, specifiers_begin}
use Rattle.c_grammar_laws.proofs.CompleteTypes.{attributes_goes, qualifiers_goes}
use Rattle.c_grammar_laws.proofs.CompleteSpecifiers as specifier
use Rattle.c_grammar_laws.proofs.CompleteSpecifiers.{ReachesDecorated, ReachesSpecifiers, ReachesFurther, ReachesSpecifier, ReachesLines, ReachesMembers, ReachesMember, ReachesConstants, ReachesConstant}
use Rattle.c_grammar_laws.proofs.CompleteDeclarators as declarator
use Rattle.c_grammar_laws.proofs.CompleteDeclarators.{ReachesDeclarator, ReachesDirect, ReachesParameters, ReachesParameter, ReachesUnnamed, ReachesArrays}

mutual
  pub complete : (kinds : List TokenKind) → (k : ℕ) (p q : Place) (x : Expression) → IsExpression kinds k p q x
      → Reaches kinds k p q x
  complete kinds k from to whole (grammar.name p text a o) = expression.name_goes kinds p text a o
  complete kinds k from to whole (grammar.constant p kind value a) = expression.constant_goes kinds p kind value a
  complete kinds k from to whole (grammar.text p a) = expression.text_goes kinds p a
  complete kinds k from to whole (grammar.brackets p r y a d b) = expression.brackets_goes kinds p r y a (expression.leads kinds 0 (next p) r y d) (complete kinds 0 (next p) r y d) b
  complete kinds k from to whole (grammar.subscript p r s y z d a e b) =
      expression.subscript_goes kinds p r s y z (complete kinds 15 p r y d) a (complete kinds 0 (next r) s z e) b
  complete kinds k from to whole (grammar.call_empty p r y d a b) = expression.call_empty_goes kinds p r y (complete kinds 15 p r y d) a b
  complete kinds k from to whole (grammar.call p r s y ys d a e b) =
      expression.call_goes kinds p r s y ys (complete kinds 15 p r y d) a (expression.items_not_round kinds (next r) s ys e) (complete_items kinds (next r) s ys e) b
  complete kinds k from to whole (grammar.member p r y text d a b) = expression.member_goes kinds p r y text (complete kinds 15 p r y d) a b
  complete kinds k from to whole (grammar.pointed_member p r y text d a b) = expression.pointed_member_goes kinds p r y text (complete kinds 15 p r y d) a b
  complete kinds k from to whole (grammar.postfix p r step y d a) = expression.postfix_goes kinds p r step y (complete kinds 15 p r y d) a
  complete kinds k from to whole (grammar.prefix p r step y a d) = expression.prefix_goes kinds p r step y a (complete kinds 14 (next p) r y d)
  complete kinds k from to whole (grammar.unary p r operator y a d) = expression.unary_goes kinds p r operator y a (complete kinds 13 (next p) r y d)
  complete kinds k from to whole (grammar.sizeof_expression p r y a d) =
      expression.sizeof_expression_goes kinds p r y a (expression.leads_inside kinds 14 (next p) r y d (omega arith)) (complete kinds 14 (next p) r y d)
  complete kinds k from to whole (grammar.sizeof_type p r t a b d c) = expression.sizeof_type_goes kinds p r t a b (complete_type kinds (next (next p)) r t d) c
  complete kinds k from to whole (grammar.cast p r s t y a d b e) = expression.cast_goes kinds p r s t y a (complete_type kinds (next p) r t d) b (complete kinds 13 (next r) s y e)
  complete kinds k from to whole (grammar.binary p r s operator y z d a e) =
      expression.binary_goes kinds p r s operator y z (complete kinds (level operator) p r y d) a (complete kinds (level operator + 1) (next r) s z e)
  complete kinds k from to whole (grammar.conditional p r s t y z w d a e b f) =
      expression.conditional_goes kinds p r s t y z w (complete kinds 3 p r y d) a (complete kinds 0 (next r) s z e) b (complete kinds 2 (next s) t w f)
  complete kinds k from to whole (grammar.assign p r s operator y z d a e) =
      expression.assign_goes kinds p r s operator y z (complete kinds 14 p r y d) a (complete kinds 1 (next r) s z e)
  complete kinds k from to whole (grammar.comma p r s y ys d a e) = expression.comma_goes kinds p r s y ys (complete kinds 1 p r y d) a (complete_items kinds (next r) s ys e)
  complete kinds k from to whole (grammar.pass j p r y d) = expression.pass_goes kinds j p r y (complete kinds (j + 1) p r y d)

  pub complete_items : (kinds : List TokenKind) → (p q : Place) (xs : List Expression) → AreAssignments kinds p q xs
      → ReachesItems kinds p q xs
  complete_items kinds from to whole (grammar.one_assignment p r x d) = expression.one_goes kinds p r x (complete kinds 1 p r x d)
  complete_items kinds from to whole (grammar.more_assignments p r s x ys d a e) =
      expression.more_items_goes kinds p r s x ys (complete kinds 1 p r x d) a (complete_items kinds (next r) s ys e)

  pub complete_type : (kinds : List TokenKind) (p q : Place) (t : TypeName) → IsTypeName kinds p q t → ReachesType kinds p q t
  complete_type kinds from to whole (grammar.type_name p q r defines list inner d e) =
      declarator.type_name_goes kinds p q r defines list inner (specifiers_begin kinds p q defines list d) (complete_specifiers kinds p q defines list d) e
      (complete_unnamed kinds InTypeName q r inner e)

  pub complete_specifiers : (kinds : List TokenKind) (p q : Place) (defines : Bool) (list : List Specifier) → AreSpecifiers kinds p q defines list → ReachesSpecifiers kinds p q defines list
  complete_specifiers kinds from to defines whole (grammar.all_specifiers p q r more list a f) =
      specifier.all_specifiers_goes kinds p q r more list (attributes_goes kinds p q a) (further_no_attribute kinds false q r more list f) (complete_further kinds false q r more list f)

  complete_further : (kinds : List TokenKind) (typed : Bool) (p q : Place) (defines : Bool) (list : List Specifier) → AreFurther kinds typed p q defines list
      → ReachesFurther kinds typed p q defines list
  complete_further kinds typed from to defines whole (grammar.last_specifier t p q r role x d a e) =
      specifier.last_specifier_goes kinds t p q r role x (complete_specifier kinds t p q role x d) a (attributes_goes kinds q r a) e
  complete_further kinds typed from to defines whole (grammar.more_specifiers t p q r s role more x list d a f) =
      specifier.more_specifiers_goes kinds t p q r s role more x list (complete_specifier kinds t p q role x d) a (attributes_goes kinds q r a) (further_leads kinds (types_now t role) r s more list f)
      (further_no_attribute kinds (types_now t role) r s more list f) (further_further kinds (types_now t role) r s more list f) (complete_further kinds (types_now t role) r s more list f)

  complete_specifier : (kinds : List TokenKind) (typed : Bool) (p q : Place) (role : Role) (x : Specifier) → IsSpecifier kinds typed p q role x → ReachesSpecifier kinds typed p q role x
  complete_specifier kinds typed from to role whole (grammar.storage_word t p word a) = specifier.storage_goes kinds t p word a
  complete_specifier kinds typed from to role whole (grammar.function_word t p word a) = specifier.function_goes kinds t p word a
  complete_specifier kinds typed from to role whole (grammar.qualifier_word t p word a) = specifier.qualifier_goes kinds t p word a
  complete_specifier kinds typed from to role whole (grammar.base_word t p word a) = specifier.base_goes kinds t p word a
  complete_specifier kinds typed from to role whole (grammar.type_word t p kind a) = specifier.type_word_goes kinds t p kind a
  complete_specifier kinds typed from to role whole (grammar.struct_body t p q r tag lines a g b d c) =
      specifier.struct_body_goes kinds t p q r tag lines a g b (complete_lines kinds (next q) r lines d) c
  complete_specifier kinds typed from to role whole (grammar.struct_tag t p tag a b) = specifier.struct_tag_goes kinds t p tag a b
  complete_specifier kinds typed from to role whole (grammar.enum_body t p q r tag constants a g b d c) =
      specifier.enum_body_goes kinds t p q r tag constants a g b (complete_constants kinds (next q) r constants d) c
  complete_specifier kinds typed from to role whole (grammar.enum_tag t p tag a b) = specifier.enum_tag_goes kinds t p tag a b
  complete_specifier kinds typed from to role whole (grammar.typedef_name p text a b) = specifier.typedef_goes kinds p text a b

  complete_lines : (kinds : List TokenKind) (p q : Place) (xs : List MemberLine) → AreMemberLines kinds p q xs → ReachesLines kinds p q xs
  complete_lines kinds from to whole (grammar.no_lines p) = specifier.no_lines_goes kinds p
  complete_lines kinds from to whole (grammar.more_lines p q r s defines list members lines d e a f) =
      specifier.more_lines_goes kinds p q r s defines list members lines (specifiers_lead kinds p q defines list d) (complete_specifiers kinds p q defines list d) (members_lead kinds q r members e)
      (complete_members kinds q r members e) a (complete_lines kinds (next r) s lines f)

  complete_members : (kinds : List TokenKind) (p q : Place) (xs : List Member) → AreMembers kinds p q xs → ReachesMembers kinds p q xs
  complete_members kinds from to whole (grammar.one_member p q x d) = specifier.one_member_goes kinds p q x (complete_member kinds p q x d)
  complete_members kinds from to whole (grammar.more_members p q r x xs d a e) =
      specifier.more_members_goes kinds p q r x xs (complete_member kinds p q x d) a (complete_members kinds (next q) r xs e)

  complete_member : (kinds : List TokenKind) (p q : Place) (x : Member) → IsMember kinds p q x → ReachesMember kinds p q x
  complete_member kinds from to whole (grammar.plain_member p q name parameters inner d) =
      specifier.plain_member_goes kinds p q name parameters inner (decorated_leads kinds p q name parameters inner d) (complete_decorated kinds p q name parameters inner d)
  complete_member kinds from to whole (grammar.bit_field p q r name parameters inner width d a e) =
      specifier.bit_field_goes kinds p q r name parameters inner width (decorated_leads kinds p q name parameters inner d) (complete_decorated kinds p q name parameters inner d) a
      (complete kinds 2 (next q) r width e)
  complete_member kinds from to whole (grammar.unnamed_bit_field p q width a e) = specifier.unnamed_bit_field_goes kinds p q width a (complete kinds 2 (next p) q width e)

  complete_constants : (kinds : List TokenKind) (p q : Place) (xs : List EnumConstant) → AreEnumConstants kinds p q xs → ReachesConstants kinds p q xs
  complete_constants kinds from to whole (grammar.one_constant p q x d) = specifier.one_constant_goes kinds p q x (complete_constant kinds p q x d)
  complete_constants kinds from to whole (grammar.last_constant p q x d a) = specifier.last_constant_goes kinds p q x (complete_constant kinds p q x d) a
  complete_constants kinds from to whole (grammar.more_constants p q r x xs d a e) =
      specifier.more_constants_goes kinds p q r x xs (complete_constant kinds p q x d) a (constants_lead kinds (next q) r xs e) (complete_constants kinds (next q) r xs e)

  complete_constant : (kinds : List TokenKind) (p q : Place) (x : EnumConstant) → IsEnumConstant kinds p q x → ReachesConstant kinds p q x
  complete_constant kinds from to whole (grammar.plain_constant p text a) = specifier.plain_constant_goes kinds p text a
  complete_constant kinds from to whole (grammar.valued_constant p q text value a b d) =
      specifier.valued_constant_goes kinds p q text value a b (complete kinds 2 (next (next p)) q value d)

  pub complete_decorated : (kinds : List TokenKind) (p q : Place) (name : List ℕ) (parameters : Option (List Entry)) (inner : Declarator) → IsDecorated kinds p q name parameters inner
      → ReachesDecorated kinds p q (Titles name parameters inner)
  complete_decorated kinds from to name parameters whole (grammar.decorated p q r n ps inner d a) =
      declarator.decorated_goes kinds p q r (Titles n ps inner) (complete_declarator kinds p q n ps inner d) a (attributes_goes kinds q r a)

  complete_declarator : (kinds : List TokenKind) (p q : Place) (name : List ℕ) (parameters : Option (List Entry)) (inner : Declarator) → IsDeclarator kinds p q name parameters inner
      → ReachesDeclarator kinds p q (Titles name parameters inner)
  complete_declarator kinds from to name parameters whole (grammar.pointer p q r list n ps inner a b d) =
      declarator.pointer_goes kinds p q r list n ps inner a (qualifiers_goes kinds (next p) q list b) (declarator_leads kinds q r n ps inner d) (complete_declarator kinds q r n ps inner d)
  complete_declarator kinds from to name parameters whole (grammar.direct p q n ps inner d) =
      declarator.direct_goes kinds p q (Titles n ps inner) (complete_direct kinds p q n ps inner d)

  complete_direct : (kinds : List TokenKind) (p q : Place) (name : List ℕ) (parameters : Option (List Entry)) (inner : Declarator) → IsDirect kinds p q name parameters inner
      → ReachesDirect kinds p q (Titles name parameters inner)
  complete_direct kinds from to name parameters whole (grammar.declared_name p text a) = declarator.name_goes kinds p text a
  complete_direct kinds from to name parameters whole (grammar.declarator_brackets p q n ps inner a d c) =
      declarator.brackets_goes kinds p q (Titles n ps inner) a (complete_decorated kinds (next p) q n ps inner d) c
  complete_direct kinds from to name parameters whole (grammar.array p q r n ps inner size d a e b) =
      declarator.array_goes kinds p q r n ps inner size (complete_direct kinds p q n ps inner d) a (expression_leads kinds 2 (next q) r size e) (complete kinds 2 (next q) r size e) b
  complete_direct kinds from to name parameters whole (grammar.open_array p q n ps inner d a b) = declarator.open_array_goes kinds p q n ps inner (complete_direct kinds p q n ps inner d) a b
  complete_direct kinds from to name parameters whole (grammar.function_empty p q n ps inner d a b) =
      declarator.function_empty_goes kinds p q n ps inner (complete_direct kinds p q n ps inner d) a b
  complete_direct kinds from to name parameters whole (grammar.function_parameters p q r n ps inner list variadic d a e b) =
      declarator.function_goes kinds p q r n ps inner list variadic (complete_direct kinds p q n ps inner d) a (parameters_lead kinds (enter (next q)) r list variadic e)
      (complete_parameters kinds (enter (next q)) r list variadic e) b

  complete_parameters : (kinds : List TokenKind) (p q : Place) (list : List Parameter) (variadic : Option ℕ) → AreParameters kinds p q list variadic → ReachesParameters kinds p q list variadic
  complete_parameters kinds from to whole variadic (grammar.one_parameter p q x d) = declarator.one_parameter_goes kinds p q x (complete_parameter kinds p q x d)
  complete_parameters kinds from to whole variadic (grammar.variadic_parameters p q x d a b) = declarator.variadic_goes kinds p q x (complete_parameter kinds p q x d) a b
  complete_parameters kinds from to whole variadic (grammar.more_parameters p q r x list dots d a e) =
      declarator.more_parameters_goes kinds p q r x list dots (complete_parameter kinds p q x d) a (parameters_lead kinds (next q) r list dots e)
      (complete_parameters kinds (next q) r list dots e)

  complete_parameter : (kinds : List TokenKind) (p q : Place) (x : Parameter) → IsParameter kinds p q x → ReachesParameter kinds p q x
  complete_parameter kinds from to whole (grammar.named_parameter p q r defines list name parameters inner d e) =
      declarator.named_parameter_goes kinds p q r defines list name parameters inner (complete_specifiers kinds p q defines list d) (decorated_leads kinds q r name parameters inner e)
      (complete_decorated kinds q r name parameters inner e)
  complete_parameter kinds from to whole (grammar.unnamed_parameter p q r defines list inner d e) =
      declarator.unnamed_parameter_goes kinds p q r defines list inner (complete_specifiers kinds p q defines list d) e (complete_unnamed kinds InParameter q r inner e)

  complete_unnamed : (kinds : List TokenKind) (unnamed : Unnamed) (p q : Place) (inner : Declarator) → IsUnnamed kinds unnamed p q inner → ReachesUnnamed kinds unnamed p q inner
  complete_unnamed kinds unnamed from to whole (grammar.no_declarator p) = declarator.no_declarator_goes kinds p
  complete_unnamed kinds unnamed from to whole (grammar.unnamed_arrays p q inner d) = declarator.unnamed_arrays_goes kinds p q inner d (complete_arrays kinds p q inner d)
  complete_unnamed kinds unnamed from to whole (grammar.unnamed_pointer u p q r list inner a b may d) =
      declarator.unnamed_pointer_goes kinds u p q r list inner a (qualifiers_goes kinds (next p) q list b) may d (complete_unnamed kinds u q r inner d)

  complete_arrays : (kinds : List TokenKind) (p q : Place) (inner : Declarator) → AreArrays kinds p q inner → ReachesArrays kinds p q inner
  complete_arrays kinds from to whole (grammar.no_arrays p) = declarator.no_arrays_goes kinds p
  complete_arrays kinds from to whole (grammar.unnamed_array p q r inner size d a e b) =
      declarator.unnamed_array_goes kinds p q r inner size (complete_arrays kinds p q inner d) a (complete kinds 2 (next q) r size e) b

enough_for_all : (kinds : List TokenKind) (p : Place) → Enough kinds (length kinds + 1) p
enough_for_all kinds p = omega arith

-- tokens spell one expression of a level, where what comes next ends it
pub one_expression : (kinds : List TokenKind) → (k : ℕ) (p q r : Place) (x y : Expression) → k ≤ 14
    → IsExpression kinds k p q x → below (suffix (kind_at kinds q)) ≤ k → IsExpression kinds k p r y → below (suffix (kind_at kinds r)) ≤ k → (x ≡ y) × (q ≡ r)
one_expression kinds k p q r x y le d a f b =
    let i = exact kinds k p q x (complete kinds k p q x d) (length kinds + 1) le a (enough_for_all kinds p) in
    let j = exact kinds k p r y (complete kinds k p r y f) (length kinds + 1) le b (enough_for_all kinds p) in
    let same : Gives x q ≡ Gives y r = sym i.1 ∙ j.1 in
    (cc, cc)
