-- The own tokens of expressions and types rise, within the tokens that spell them.
use Rattle.std.proofs.Common.{◌≡◌, ℕ, ◌+◌, ◌≤◌, Bool, false, List, [], ◌∷◌, ◌++◌, Option, None, ap, sym, subst, ◌∙◌, arith}
use Rattle.c_tokens.specs.declared.token.TokenKind.{TokenKind}
use Rattle.c_tree.specs.declared.expression.Declarator.{Declarator}
use Rattle.c_tree.specs.declared.expression.Declarator.TheVariants as declarator_node
use Rattle.c_tree.specs.declared.expression.EnumConstant.{EnumConstant}
use Rattle.c_tree.specs.declared.expression.EnumConstant.TheVariants as constant_node
use Rattle.c_tree.specs.declared.expression.Expression.{Expression}
use Rattle.c_tree.specs.declared.expression.Expression.TheVariants as tree
use Rattle.c_tree.specs.declared.expression.Member.{Member}
use Rattle.c_tree.specs.declared.expression.Member.TheVariants as member_node
use Rattle.c_tree.specs.declared.expression.Specifier.{Specifier}
use Rattle.c_tree.specs.declared.expression.Specifier.TheVariants as specifier_node
use Rattle.c_tree.specs.declared.expression.MemberLine.{MemberLine}
use Rattle.c_tree.specs.declared.expression.Parameter.{Parameter}
use Rattle.c_tree.specs.declared.expression.TypeName.{TypeName}
use Rattle.c_tree.specs.declared.expression.Qualifier.{Qualifier}
use Rattle.c_tree.specs.declared.expression.MemberLine as line_view
use Rattle.c_tree.specs.declared.expression.Parameter as parameter_view
use Rattle.c_tree.specs.declared.expression.TypeName as type_name_view
use Rattle.c_tree.specs.declared.expression.Declarator.TheOpen.{Declarator-F, EnumConstant-F, Expression-F, Member-F, Specifier-F, MemberLine-F, Parameter-F, TypeName-F}
use Rattle.c_tree.specs.declared.expression.Declarator.TheOpen.{Declarator-F as d, EnumConstant-F as c, Expression-F as e, Member-F as m, Specifier-F as s}
use Rattle.c_tree.specs.declared.expression.Declarator.TheViews.{roll-Declarator, roll-EnumConstant, roll-Expression, roll-Member, roll-Specifier, roll-MemberLine, roll-Parameter, roll-TypeName}
use Rattle.c_tree.specs.declared.expression.Declarator.TheFolds.{map-Declarator, fold-roll-Declarator, map-EnumConstant, fold-roll-EnumConstant, map-Expression, fold-roll-Expression, map-Member, fold-roll-Member, map-Specifier, fold-roll-Specifier, map-MemberLine, fold-roll-MemberLine, map-Parameter, fold-roll-Parameter, map-TypeName, fold-roll-TypeName}
use Rattle.c_tree.specs.declared.scope.Entry.{Entry}
use Rattle.c_tree.specs.Places.{Place, next, enter}
use Rattle.c_tree.specs.Signs.{level}
use Rattle.c_tree.specs.Spells as grammar
use Rattle.c_tree.specs.Spells.{IsBalanced, AreAttributes, AreQualifiers, IsTag, IsExpression, AreAssignments, IsTypeName, AreSpecifiers, AreFurther, IsSpecifier, AreMemberLines, AreMembers, IsMember, AreEnumConstants, IsEnumConstant, IsDecorated, IsDeclarator, IsDirect, AreParameters, IsParameter, IsUnnamed, AreArrays, Unnamed, Role, types_now}
use Rattle.c_tree.specs.OwnTokens.{Numbers, each_in_turn, declarator_step, constant_step, expression_step, member_step, specifier_step, line_step, parameter_step, type_name_step, declarator_tokens, constant_tokens, expression_tokens, member_tokens, specifier_tokens, line_tokens, parameter_tokens, type_name_tokens}
use Rattle.c_grammar_laws.proofs.Rising.{IsRising, rises_none, sooner, later, joined, headed, alone, inside}

-- ---- one layer

abbrev layer_declarator : Declarator-F Declarator EnumConstant Expression Member Specifier MemberLine Parameter TypeName → Declarator-F Numbers Numbers Numbers Numbers Numbers Numbers Numbers Numbers
layer_declarator = map-Declarator Declarator EnumConstant Expression Member Specifier MemberLine Parameter TypeName Numbers Numbers Numbers Numbers Numbers Numbers Numbers Numbers declarator_tokens constant_tokens expression_tokens member_tokens specifier_tokens line_tokens parameter_tokens type_name_tokens

pub as_declarator : (x : Declarator) (l : Declarator-F Declarator EnumConstant Expression Member Specifier MemberLine Parameter TypeName) (a b : ℕ) → roll-Declarator l ≡ x → IsRising a b (declarator_step (layer_declarator l)) → IsRising a b (declarator_tokens x)
unfolding declarator_tokens constant_tokens expression_tokens member_tokens specifier_tokens line_tokens parameter_tokens type_name_tokens
as_declarator x l a b e h = subst (IsRising a b) (sym (fold-roll-Declarator Numbers Numbers Numbers Numbers Numbers Numbers Numbers Numbers declarator_step constant_step expression_step member_step specifier_step line_step parameter_step type_name_step l) ∙ ap declarator_tokens e) h

abbrev layer_constant : EnumConstant-F Declarator EnumConstant Expression Member Specifier MemberLine Parameter TypeName → EnumConstant-F Numbers Numbers Numbers Numbers Numbers Numbers Numbers Numbers
layer_constant = map-EnumConstant Declarator EnumConstant Expression Member Specifier MemberLine Parameter TypeName Numbers Numbers Numbers Numbers Numbers Numbers Numbers Numbers declarator_tokens constant_tokens expression_tokens member_tokens specifier_tokens line_tokens parameter_tokens type_name_tokens

pub as_constant : (x : EnumConstant) (l : EnumConstant-F Declarator EnumConstant Expression Member Specifier MemberLine Parameter TypeName) (a b : ℕ) → roll-EnumConstant l ≡ x → IsRising a b (constant_step (layer_constant l)) → IsRising a b (constant_tokens x)
unfolding declarator_tokens constant_tokens expression_tokens member_tokens specifier_tokens line_tokens parameter_tokens type_name_tokens
as_constant x l a b e h = subst (IsRising a b) (sym (fold-roll-EnumConstant Numbers Numbers Numbers Numbers Numbers Numbers Numbers Numbers declarator_step constant_step expression_step member_step specifier_step line_step parameter_step type_name_step l) ∙ ap constant_tokens e) h

abbrev layer_expression : Expression-F Declarator EnumConstant Expression Member Specifier MemberLine Parameter TypeName → Expression-F Numbers Numbers Numbers Numbers Numbers Numbers Numbers Numbers
layer_expression = map-Expression Declarator EnumConstant Expression Member Specifier MemberLine Parameter TypeName Numbers Numbers Numbers Numbers Numbers Numbers Numbers Numbers declarator_tokens constant_tokens expression_tokens member_tokens specifier_tokens line_tokens parameter_tokens type_name_tokens

pub as_expression : (x : Expression) (l : Expression-F Declarator EnumConstant Expression Member Specifier MemberLine Parameter TypeName) (a b : ℕ) → roll-Expression l ≡ x → IsRising a b (expression_step (layer_expression l)) → IsRising a b (expression_tokens x)
unfolding declarator_tokens constant_tokens expression_tokens member_tokens specifier_tokens line_tokens parameter_tokens type_name_tokens
as_expression x l a b e h = subst (IsRising a b) (sym (fold-roll-Expression Numbers Numbers Numbers Numbers Numbers Numbers Numbers Numbers declarator_step constant_step expression_step member_step specifier_step line_step parameter_step type_name_step l) ∙ ap expression_tokens e) h

abbrev layer_member : Member-F Declarator EnumConstant Expression Member Specifier MemberLine Parameter TypeName → Member-F Numbers Numbers Numbers Numbers Numbers Numbers Numbers Numbers
layer_member = map-Member Declarator EnumConstant Expression Member Specifier MemberLine Parameter TypeName Numbers Numbers Numbers Numbers Numbers Numbers Numbers Numbers declarator_tokens constant_tokens expression_tokens member_tokens specifier_tokens line_tokens parameter_tokens type_name_tokens

pub as_member : (x : Member) (l : Member-F Declarator EnumConstant Expression Member Specifier MemberLine Parameter TypeName) (a b : ℕ) → roll-Member l ≡ x → IsRising a b (member_step (layer_member l)) → IsRising a b (member_tokens x)
unfolding declarator_tokens constant_tokens expression_tokens member_tokens specifier_tokens line_tokens parameter_tokens type_name_tokens
as_member x l a b e h = subst (IsRising a b) (sym (fold-roll-Member Numbers Numbers Numbers Numbers Numbers Numbers Numbers Numbers declarator_step constant_step expression_step member_step specifier_step line_step parameter_step type_name_step l) ∙ ap member_tokens e) h

abbrev layer_specifier : Specifier-F Declarator EnumConstant Expression Member Specifier MemberLine Parameter TypeName → Specifier-F Numbers Numbers Numbers Numbers Numbers Numbers Numbers Numbers
layer_specifier = map-Specifier Declarator EnumConstant Expression Member Specifier MemberLine Parameter TypeName Numbers Numbers Numbers Numbers Numbers Numbers Numbers Numbers declarator_tokens constant_tokens expression_tokens member_tokens specifier_tokens line_tokens parameter_tokens type_name_tokens

pub as_specifier : (x : Specifier) (l : Specifier-F Declarator EnumConstant Expression Member Specifier MemberLine Parameter TypeName) (a b : ℕ) → roll-Specifier l ≡ x → IsRising a b (specifier_step (layer_specifier l)) → IsRising a b (specifier_tokens x)
unfolding declarator_tokens constant_tokens expression_tokens member_tokens specifier_tokens line_tokens parameter_tokens type_name_tokens
as_specifier x l a b e h = subst (IsRising a b) (sym (fold-roll-Specifier Numbers Numbers Numbers Numbers Numbers Numbers Numbers Numbers declarator_step constant_step expression_step member_step specifier_step line_step parameter_step type_name_step l) ∙ ap specifier_tokens e) h

abbrev layer_line : MemberLine-F Declarator EnumConstant Expression Member Specifier MemberLine Parameter TypeName → MemberLine-F Numbers Numbers Numbers Numbers Numbers Numbers Numbers Numbers
layer_line = map-MemberLine Declarator EnumConstant Expression Member Specifier MemberLine Parameter TypeName Numbers Numbers Numbers Numbers Numbers Numbers Numbers Numbers declarator_tokens constant_tokens expression_tokens member_tokens specifier_tokens line_tokens parameter_tokens type_name_tokens

pub as_line : (x : MemberLine) (l : MemberLine-F Declarator EnumConstant Expression Member Specifier MemberLine Parameter TypeName) (a b : ℕ) → roll-MemberLine l ≡ x → IsRising a b (line_step (layer_line l)) → IsRising a b (line_tokens x)
unfolding declarator_tokens constant_tokens expression_tokens member_tokens specifier_tokens line_tokens parameter_tokens type_name_tokens
as_line x l a b e h = subst (IsRising a b) (sym (fold-roll-MemberLine Numbers Numbers Numbers Numbers Numbers Numbers Numbers Numbers declarator_step constant_step expression_step member_step specifier_step line_step parameter_step type_name_step l) ∙ ap line_tokens e) h

abbrev layer_parameter : Parameter-F Declarator EnumConstant Expression Member Specifier MemberLine Parameter TypeName → Parameter-F Numbers Numbers Numbers Numbers Numbers Numbers Numbers Numbers
layer_parameter = map-Parameter Declarator EnumConstant Expression Member Specifier MemberLine Parameter TypeName Numbers Numbers Numbers Numbers Numbers Numbers Numbers Numbers declarator_tokens constant_tokens expression_tokens member_tokens specifier_tokens line_tokens parameter_tokens type_name_tokens

pub as_parameter : (x : Parameter) (l : Parameter-F Declarator EnumConstant Expression Member Specifier MemberLine Parameter TypeName) (a b : ℕ) → roll-Parameter l ≡ x → IsRising a b (parameter_step (layer_parameter l)) → IsRising a b (parameter_tokens x)
unfolding declarator_tokens constant_tokens expression_tokens member_tokens specifier_tokens line_tokens parameter_tokens type_name_tokens
as_parameter x l a b e h = subst (IsRising a b) (sym (fold-roll-Parameter Numbers Numbers Numbers Numbers Numbers Numbers Numbers Numbers declarator_step constant_step expression_step member_step specifier_step line_step parameter_step type_name_step l) ∙ ap parameter_tokens e) h

abbrev layer_type_name : TypeName-F Declarator EnumConstant Expression Member Specifier MemberLine Parameter TypeName → TypeName-F Numbers Numbers Numbers Numbers Numbers Numbers Numbers Numbers
layer_type_name = map-TypeName Declarator EnumConstant Expression Member Specifier MemberLine Parameter TypeName Numbers Numbers Numbers Numbers Numbers Numbers Numbers Numbers declarator_tokens constant_tokens expression_tokens member_tokens specifier_tokens line_tokens parameter_tokens type_name_tokens

pub as_type_name : (x : TypeName) (l : TypeName-F Declarator EnumConstant Expression Member Specifier MemberLine Parameter TypeName) (a b : ℕ) → roll-TypeName l ≡ x → IsRising a b (type_name_step (layer_type_name l)) → IsRising a b (type_name_tokens x)
unfolding declarator_tokens constant_tokens expression_tokens member_tokens specifier_tokens line_tokens parameter_tokens type_name_tokens
as_type_name x l a b e h = subst (IsRising a b) (sym (fold-roll-TypeName Numbers Numbers Numbers Numbers Numbers Numbers Numbers Numbers declarator_step constant_step expression_step member_step specifier_step line_step parameter_step type_name_step l) ∙ ap type_name_tokens e) h

-- ---- what has no tokens of its own

balanced_goes : (kinds : List TokenKind) (p q : Place) → IsBalanced kinds p q → p.at ≤ q.at
balanced_goes kinds from to (grammar.balanced_nothing p) = omega arith
balanced_goes kinds from to (grammar.balanced_token p q kind a f b) = let i = balanced_goes kinds (next p) q b in let le : p.at + 1 ≤ q.at = i in omega arith
balanced_goes kinds from to (grammar.balanced_group p q r bracket a b c d) =
    let i : p.at + 1 ≤ q.at = balanced_goes kinds (next p) q b in
    let j : q.at + 1 ≤ r.at = balanced_goes kinds (next q) r d in
    omega arith

pub attributes_skip : (kinds : List TokenKind) (p q : Place) → AreAttributes kinds p q → p.at ≤ q.at
attributes_skip kinds from to (grammar.no_attributes p) = omega arith
attributes_skip kinds from to (grammar.extension p q a b) = let i : p.at + 1 ≤ q.at = attributes_skip kinds (next p) q b in omega arith
attributes_skip kinds from to (grammar.attribute p q r a b c d e f g) =
    let i : p.at + 1 + 1 + 1 ≤ q.at = balanced_goes kinds (next (next (next p))) q d in
    let j : q.at + 1 + 1 ≤ r.at = attributes_skip kinds (next (next q)) r g in
    omega arith

qualifiers_skip : (kinds : List TokenKind) (p q : Place) (list : List Qualifier) → AreQualifiers kinds p q list → p.at ≤ q.at
qualifiers_skip kinds from to whole (grammar.no_qualifiers p) = omega arith
qualifiers_skip kinds from to whole (grammar.more_qualifiers p q qualifier further a b) = let i : p.at + 1 ≤ q.at = qualifiers_skip kinds (next p) q further b in omega arith

tag_skips : (kinds : List TokenKind) (p q : Place) (tag : Option (List ℕ)) → IsTag kinds p q tag → p.at ≤ q.at
tag_skips kinds from to whole (grammar.no_tag p) = omega arith
tag_skips kinds from to whole (grammar.tag p text a) = omega arith

-- ---- expressions and types

mutual
  pub expression_rises : (kinds : List TokenKind) (k : ℕ) (p q : Place) (x : Expression) → IsExpression kinds k p q x → IsRising p.at q.at (expression_tokens x)
  expression_rises kinds k from to whole (grammar.name p text a b) = as_expression _ (e.«Expression::Name» text p.at) p.at (p.at + 1) (tree.rolls-Name text p.at) (alone p.at (p.at + 1) (omega arith))
  expression_rises kinds k from to whole (grammar.constant p kind value a) = as_expression _ (e.Constant kind value p.at) p.at (p.at + 1) (tree.rolls-Constant kind value p.at) (alone p.at (p.at + 1) (omega arith))
  expression_rises kinds k from to whole (grammar.text p a) = as_expression _ (e.Text p.at) p.at (p.at + 1) (tree.rolls-Text p.at) (alone p.at (p.at + 1) (omega arith))
  expression_rises kinds k from to whole (grammar.brackets p q x a d b) = inside p.at q.at (expression_tokens x) (expression_rises kinds 0 (next p) q x d)
  expression_rises kinds k from to whole (grammar.subscript p q r array index d a f b) =
      as_expression _ (e.Subscript array index q.at) p.at (r.at + 1) (tree.rolls-Subscript array index q.at)
      (joined p.at q.at (r.at + 1) (expression_tokens array) (q.at ∷ expression_tokens index) (expression_rises kinds 15 p q array d)
      (headed q.at (r.at + 1) (expression_tokens index) (later (q.at + 1) r.at (r.at + 1) (expression_tokens index) (omega arith) (expression_rises kinds 0 (next q) r index f))))
  expression_rises kinds k from to whole (grammar.call_empty p q function d a b) =
      as_expression _ (e.Call function [] q.at) p.at (q.at + 1 + 1) (tree.rolls-Call function [] q.at)
      (joined p.at q.at (q.at + 1 + 1) (expression_tokens function) (q.at ∷ []) (expression_rises kinds 15 p q function d) (alone q.at (q.at + 1 + 1) (omega arith)))
  expression_rises kinds k from to whole (grammar.call p q r function arguments d a f b) =
      as_expression _ (e.Call function arguments q.at) p.at (r.at + 1) (tree.rolls-Call function arguments q.at)
      (joined p.at q.at (r.at + 1) (expression_tokens function) (q.at ∷ each_in_turn expression_tokens arguments) (expression_rises kinds 15 p q function d)
      (headed q.at (r.at + 1) (each_in_turn expression_tokens arguments)
      (later (q.at + 1) r.at (r.at + 1) (each_in_turn expression_tokens arguments) (omega arith) (assignments_rise kinds (next q) r arguments f))))
  expression_rises kinds k from to whole (grammar.member p q object text d a b) =
      as_expression _ (e.Member object text q.at) p.at (q.at + 1 + 1) (tree.rolls-Member object text q.at)
      (joined p.at q.at (q.at + 1 + 1) (expression_tokens object) (q.at ∷ []) (expression_rises kinds 15 p q object d) (alone q.at (q.at + 1 + 1) (omega arith)))
  expression_rises kinds k from to whole (grammar.pointed_member p q pointer text d a b) =
      as_expression _ (e.PointedMember pointer text q.at) p.at (q.at + 1 + 1) (tree.rolls-PointedMember pointer text q.at)
      (joined p.at q.at (q.at + 1 + 1) (expression_tokens pointer) (q.at ∷ []) (expression_rises kinds 15 p q pointer d) (alone q.at (q.at + 1 + 1) (omega arith)))
  expression_rises kinds k from to whole (grammar.postfix p q step operand d a) =
      as_expression _ (e.Postfix step operand q.at) p.at (q.at + 1) (tree.rolls-Postfix step operand q.at)
      (joined p.at q.at (q.at + 1) (expression_tokens operand) (q.at ∷ []) (expression_rises kinds 15 p q operand d) (alone q.at (q.at + 1) (omega arith)))
  expression_rises kinds k from to whole (grammar.prefix p q step operand a d) =
      as_expression _ (e.Prefix step operand p.at) p.at q.at (tree.rolls-Prefix step operand p.at) (headed p.at q.at (expression_tokens operand) (expression_rises kinds 14 (next p) q operand d))
  expression_rises kinds k from to whole (grammar.unary p q operator operand a d) =
      as_expression _ (e.Unary operator operand p.at) p.at q.at (tree.rolls-Unary operator operand p.at) (headed p.at q.at (expression_tokens operand) (expression_rises kinds 13 (next p) q operand d))
  expression_rises kinds k from to whole (grammar.sizeof_expression p q operand a d) =
      as_expression _ (e.SizeofExpression operand p.at) p.at q.at (tree.rolls-SizeofExpression operand p.at)
      (headed p.at q.at (expression_tokens operand) (expression_rises kinds 14 (next p) q operand d))
  expression_rises kinds k from to whole (grammar.sizeof_type p q named a b d f) =
      as_expression _ (e.SizeofType named p.at) p.at (q.at + 1) (tree.rolls-SizeofType named p.at)
      (headed p.at (q.at + 1) (type_name_tokens named) (inside (p.at + 1) q.at (type_name_tokens named) (type_name_rises kinds (next (next p)) q named d)))
  expression_rises kinds k from to whole (grammar.cast p q r named operand a d b f) =
      as_expression _ (e.Cast named operand p.at) p.at r.at (tree.rolls-Cast named operand p.at)
      (headed p.at r.at (type_name_tokens named ++ expression_tokens operand) (joined (p.at + 1) q.at r.at (type_name_tokens named) (expression_tokens operand) (type_name_rises kinds (next p) q named d)
      (sooner q.at (q.at + 1) r.at (expression_tokens operand) (omega arith) (expression_rises kinds 13 (next q) r operand f))))
  expression_rises kinds k from to whole (grammar.binary p q r operator left right d a f) =
      as_expression _ (e.Binary operator left right q.at) p.at r.at (tree.rolls-Binary operator left right q.at)
      (joined p.at q.at r.at (expression_tokens left) (q.at ∷ expression_tokens right) (expression_rises kinds (level operator) p q left d)
      (headed q.at r.at (expression_tokens right) (expression_rises kinds (level operator + 1) (next q) r right f)))
  expression_rises kinds k from to whole (grammar.conditional p q r s test chosen otherwise d a f b g) =
      as_expression _ (e.Conditional test chosen otherwise q.at) p.at s.at (tree.rolls-Conditional test chosen otherwise q.at)
      (joined p.at q.at s.at (expression_tokens test) (q.at ∷ (expression_tokens chosen ++ expression_tokens otherwise)) (expression_rises kinds 3 p q test d)
      (headed q.at s.at (expression_tokens chosen ++ expression_tokens otherwise)
      (joined (q.at + 1) r.at s.at (expression_tokens chosen) (expression_tokens otherwise) (expression_rises kinds 0 (next q) r chosen f)
      (sooner r.at (r.at + 1) s.at (expression_tokens otherwise) (omega arith) (expression_rises kinds 2 (next r) s otherwise g)))))
  expression_rises kinds k from to whole (grammar.assign p q r operator target value d a f) =
      as_expression _ (e.Assign operator target value q.at) p.at r.at (tree.rolls-Assign operator target value q.at)
      (joined p.at q.at r.at (expression_tokens target) (q.at ∷ expression_tokens value) (expression_rises kinds 14 p q target d)
      (headed q.at r.at (expression_tokens value) (expression_rises kinds 1 (next q) r value f)))
  expression_rises kinds k from to whole (grammar.comma p q r first further d a f) =
      as_expression _ (e.Comma (first ∷ further) q.at) p.at r.at (tree.rolls-Comma (first ∷ further) q.at)
      (joined p.at q.at r.at (expression_tokens first) (q.at ∷ each_in_turn expression_tokens further) (expression_rises kinds 1 p q first d)
      (headed q.at r.at (each_in_turn expression_tokens further) (assignments_rise kinds (next q) r further f)))
  expression_rises kinds k from to whole (grammar.pass j p q x d) = expression_rises kinds (j + 1) p q x d

  assignments_rise : (kinds : List TokenKind) (p q : Place) (xs : List Expression) → AreAssignments kinds p q xs → IsRising p.at q.at (each_in_turn expression_tokens xs)
  assignments_rise kinds from to whole (grammar.one_assignment p q x d) = joined p.at q.at q.at (expression_tokens x) [] (expression_rises kinds 1 p q x d) (rises_none q.at q.at (omega arith))
  assignments_rise kinds from to whole (grammar.more_assignments p q r x further d a f) =
      joined p.at q.at r.at (expression_tokens x) (each_in_turn expression_tokens further) (expression_rises kinds 1 p q x d)
      (sooner q.at (q.at + 1) r.at (each_in_turn expression_tokens further) (omega arith) (assignments_rise kinds (next q) r further f))

  type_name_rises : (kinds : List TokenKind) (p q : Place) (x : TypeName) → IsTypeName kinds p q x → IsRising p.at q.at (type_name_tokens x)
  type_name_rises kinds from to whole (grammar.type_name p q r defines list inner d f) =
      as_type_name _ (record { specifiers = list; declarator = inner }) p.at r.at (type_name_view.rolls-TypeName' (record { specifiers = list; declarator = inner }))
      (joined p.at q.at r.at (each_in_turn specifier_tokens list) (declarator_tokens inner) (specifiers_rise kinds p q defines list d) (unnamed_rises kinds grammar.InTypeName q r inner f))

  pub specifiers_rise : (kinds : List TokenKind) (p q : Place) (defines : Bool) (list : List Specifier) → AreSpecifiers kinds p q defines list → IsRising p.at q.at (each_in_turn specifier_tokens list)
  specifiers_rise kinds from to defines whole (grammar.all_specifiers p q r more list a f) =
      sooner p.at q.at r.at (each_in_turn specifier_tokens list) (attributes_skip kinds p q a) (further_rise kinds false q r more list f)

  further_rise : (kinds : List TokenKind) (typed : Bool) (p q : Place) (defines : Bool) (list : List Specifier) → AreFurther kinds typed p q defines list
      → IsRising p.at q.at (each_in_turn specifier_tokens list)
  further_rise kinds typed from to defines whole (grammar.last_specifier t p q r role x d a f) =
      joined p.at q.at r.at (specifier_tokens x) [] (specifier_rises kinds t p q role x d) (rises_none q.at r.at (attributes_skip kinds q r a))
  further_rise kinds typed from to defines whole (grammar.more_specifiers t p q r s role more x list d a f) =
      joined p.at q.at s.at (specifier_tokens x) (each_in_turn specifier_tokens list) (specifier_rises kinds t p q role x d)
      (sooner q.at r.at s.at (each_in_turn specifier_tokens list) (attributes_skip kinds q r a) (further_rise kinds (types_now t role) r s more list f))

  specifier_rises : (kinds : List TokenKind) (typed : Bool) (p q : Place) (role : Role) (x : Specifier) → IsSpecifier kinds typed p q role x → IsRising p.at q.at (specifier_tokens x)
  specifier_rises kinds typed from to role whole (grammar.storage_word t p word a) =
      as_specifier _ (s.Storage word p.at) p.at (p.at + 1) (specifier_node.rolls-Storage word p.at) (alone p.at (p.at + 1) (omega arith))
  specifier_rises kinds typed from to role whole (grammar.function_word t p word a) =
      as_specifier _ (s.«Specifier::Function» word p.at) p.at (p.at + 1) (specifier_node.rolls-Function word p.at) (alone p.at (p.at + 1) (omega arith))
  specifier_rises kinds typed from to role whole (grammar.qualifier_word t p word a) =
      as_specifier _ (s.Qualified word p.at) p.at (p.at + 1) (specifier_node.rolls-Qualified word p.at) (alone p.at (p.at + 1) (omega arith))
  specifier_rises kinds typed from to role whole (grammar.base_word t p word a) =
      as_specifier _ (s.Base word p.at) p.at (p.at + 1) (specifier_node.rolls-Base word p.at) (alone p.at (p.at + 1) (omega arith))
  specifier_rises kinds typed from to role whole (grammar.type_word t p kind a) =
      as_specifier _ (s.TypeWord kind p.at) p.at (p.at + 1) (specifier_node.rolls-TypeWord kind p.at) (alone p.at (p.at + 1) (omega arith))
  specifier_rises kinds typed from to role whole (grammar.struct_body t p q r tag lines a g b f h) =
      as_specifier _ (s.Struct tag lines p.at) p.at (r.at + 1) (specifier_node.rolls-Struct tag lines p.at)
      (headed p.at (r.at + 1) (each_in_turn line_tokens lines) (sooner (p.at + 1) q.at (r.at + 1) (each_in_turn line_tokens lines) (tag_skips kinds (next p) q tag g)
      (inside q.at r.at (each_in_turn line_tokens lines) (lines_rise kinds (next q) r lines f))))
  specifier_rises kinds typed from to role whole (grammar.struct_tag t p tag a b) =
      as_specifier _ (s.StructTag tag p.at) p.at (p.at + 1 + 1) (specifier_node.rolls-StructTag tag p.at) (alone p.at (p.at + 1 + 1) (omega arith))
  specifier_rises kinds typed from to role whole (grammar.enum_body t p q r tag constants a g b f h) =
      as_specifier _ (s.Enum tag constants p.at) p.at (r.at + 1) (specifier_node.rolls-Enum tag constants p.at)
      (headed p.at (r.at + 1) (each_in_turn constant_tokens constants) (sooner (p.at + 1) q.at (r.at + 1) (each_in_turn constant_tokens constants) (tag_skips kinds (next p) q tag g)
      (inside q.at r.at (each_in_turn constant_tokens constants) (constants_rise kinds (next q) r constants f))))
  specifier_rises kinds typed from to role whole (grammar.enum_tag t p tag a b) =
      as_specifier _ (s.EnumTag tag p.at) p.at (p.at + 1 + 1) (specifier_node.rolls-EnumTag tag p.at) (alone p.at (p.at + 1 + 1) (omega arith))
  specifier_rises kinds typed from to role whole (grammar.typedef_name p text a b) =
      as_specifier _ (s.TypedefName text p.at) p.at (p.at + 1) (specifier_node.rolls-TypedefName text p.at) (alone p.at (p.at + 1) (omega arith))

  lines_rise : (kinds : List TokenKind) (p q : Place) (xs : List MemberLine) → AreMemberLines kinds p q xs → IsRising p.at q.at (each_in_turn line_tokens xs)
  lines_rise kinds from to whole (grammar.no_lines p) = rises_none p.at p.at (omega arith)
  lines_rise kinds from to whole (grammar.more_lines p q r s defines list members lines d f a g) =
      let line : MemberLine = record { specifiers = list; members = members } in
      joined p.at r.at s.at (line_tokens line) (each_in_turn line_tokens lines)
      (as_line line (record { specifiers = list; members = members }) p.at r.at (line_view.rolls-MemberLine' (record { specifiers = list; members = members }))
      (joined p.at q.at r.at (each_in_turn specifier_tokens list) (each_in_turn member_tokens members) (specifiers_rise kinds p q defines list d) (members_rise kinds q r members f)))
      (sooner r.at (r.at + 1) s.at (each_in_turn line_tokens lines) (omega arith) (lines_rise kinds (next r) s lines g))

  members_rise : (kinds : List TokenKind) (p q : Place) (xs : List Member) → AreMembers kinds p q xs → IsRising p.at q.at (each_in_turn member_tokens xs)
  members_rise kinds from to whole (grammar.one_member p q x d) = joined p.at q.at q.at (member_tokens x) [] (member_rises kinds p q x d) (rises_none q.at q.at (omega arith))
  members_rise kinds from to whole (grammar.more_members p q r x further d a f) =
      joined p.at q.at r.at (member_tokens x) (each_in_turn member_tokens further) (member_rises kinds p q x d)
      (sooner q.at (q.at + 1) r.at (each_in_turn member_tokens further) (omega arith) (members_rise kinds (next q) r further f))

  member_rises : (kinds : List TokenKind) (p q : Place) (x : Member) → IsMember kinds p q x → IsRising p.at q.at (member_tokens x)
  member_rises kinds from to whole (grammar.plain_member p q name parameters inner d) =
      as_member _ (m.Plain inner) p.at q.at (member_node.rolls-Plain inner) (decorated_rises kinds p q name parameters inner d)
  member_rises kinds from to whole (grammar.bit_field p q r name parameters inner width d a f) =
      as_member _ (m.BitField inner width q.at) p.at r.at (member_node.rolls-BitField inner width q.at)
      (joined p.at q.at r.at (declarator_tokens inner) (q.at ∷ expression_tokens width) (decorated_rises kinds p q name parameters inner d)
      (headed q.at r.at (expression_tokens width) (expression_rises kinds 2 (next q) r width f)))
  member_rises kinds from to whole (grammar.unnamed_bit_field p q width a f) =
      as_member _ (m.UnnamedBitField width p.at) p.at q.at (member_node.rolls-UnnamedBitField width p.at) (headed p.at q.at (expression_tokens width) (expression_rises kinds 2 (next p) q width f))

  constants_rise : (kinds : List TokenKind) (p q : Place) (xs : List EnumConstant) → AreEnumConstants kinds p q xs → IsRising p.at q.at (each_in_turn constant_tokens xs)
  constants_rise kinds from to whole (grammar.one_constant p q x d) = joined p.at q.at q.at (constant_tokens x) [] (constant_rises kinds p q x d) (rises_none q.at q.at (omega arith))
  constants_rise kinds from to whole (grammar.last_constant p q x d a) = joined p.at q.at (q.at + 1) (constant_tokens x) [] (constant_rises kinds p q x d) (rises_none q.at (q.at + 1) (omega arith))
  constants_rise kinds from to whole (grammar.more_constants p q r x further d a f) =
      joined p.at q.at r.at (constant_tokens x) (each_in_turn constant_tokens further) (constant_rises kinds p q x d)
      (sooner q.at (q.at + 1) r.at (each_in_turn constant_tokens further) (omega arith) (constants_rise kinds (next q) r further f))

  constant_rises : (kinds : List TokenKind) (p q : Place) (x : EnumConstant) → IsEnumConstant kinds p q x → IsRising p.at q.at (constant_tokens x)
  constant_rises kinds from to whole (grammar.plain_constant p text a) =
      as_constant _ (c.Next text p.at) p.at (p.at + 1) (constant_node.rolls-Next text p.at) (alone p.at (p.at + 1) (omega arith))
  constant_rises kinds from to whole (grammar.valued_constant p q text value a b f) =
      as_constant _ (c.Valued text value p.at) p.at q.at (constant_node.rolls-Valued text value p.at)
      (headed p.at q.at (expression_tokens value) (sooner (p.at + 1) (p.at + 1 + 1) q.at (expression_tokens value) (omega arith) (expression_rises kinds 2 (next (next p)) q value f)))

  pub decorated_rises : (kinds : List TokenKind) (p q : Place) (name : List ℕ) (parameters : Option (List Entry)) (x : Declarator) → IsDecorated kinds p q name parameters x
      → IsRising p.at q.at (declarator_tokens x)
  decorated_rises kinds from to name parameters whole (grammar.decorated p q r n ps inner f a) =
      later p.at q.at r.at (declarator_tokens inner) (attributes_skip kinds q r a) (declarator_rises kinds p q n ps inner f)

  declarator_rises : (kinds : List TokenKind) (p q : Place) (name : List ℕ) (parameters : Option (List Entry)) (x : Declarator) → IsDeclarator kinds p q name parameters x
      → IsRising p.at q.at (declarator_tokens x)
  declarator_rises kinds from to name parameters whole (grammar.pointer p q r qualifiers n ps inner a b f) =
      as_declarator _ (d.Pointer qualifiers inner p.at) p.at r.at (declarator_node.rolls-Pointer qualifiers inner p.at)
      (headed p.at r.at (declarator_tokens inner) (sooner (p.at + 1) q.at r.at (declarator_tokens inner) (qualifiers_skip kinds (next p) q qualifiers b) (declarator_rises kinds q r n ps inner f)))
  declarator_rises kinds from to name parameters whole (grammar.direct p q n ps inner f) = direct_rises kinds p q n ps inner f

  direct_rises : (kinds : List TokenKind) (p q : Place) (name : List ℕ) (parameters : Option (List Entry)) (x : Declarator) → IsDirect kinds p q name parameters x
      → IsRising p.at q.at (declarator_tokens x)
  direct_rises kinds from to name parameters whole (grammar.declared_name p text a) =
      as_declarator _ (d.«Declarator::Name» text p.at) p.at (p.at + 1) (declarator_node.rolls-Name text p.at) (alone p.at (p.at + 1) (omega arith))
  direct_rises kinds from to name parameters whole (grammar.declarator_brackets p q n ps inner a f b) = inside p.at q.at (declarator_tokens inner) (decorated_rises kinds (next p) q n ps inner f)
  direct_rises kinds from to name parameters whole (grammar.array p q r n ps inner size f a g b) =
      as_declarator _ (d.Array inner size q.at) p.at (r.at + 1) (declarator_node.rolls-Array inner size q.at)
      (joined p.at q.at (r.at + 1) (declarator_tokens inner) (q.at ∷ expression_tokens size) (direct_rises kinds p q n ps inner f)
      (headed q.at (r.at + 1) (expression_tokens size) (later (q.at + 1) r.at (r.at + 1) (expression_tokens size) (omega arith) (expression_rises kinds 2 (next q) r size g))))
  direct_rises kinds from to name parameters whole (grammar.open_array p q n ps inner f a b) =
      as_declarator _ (d.OpenArray inner q.at) p.at (q.at + 1 + 1) (declarator_node.rolls-OpenArray inner q.at)
      (joined p.at q.at (q.at + 1 + 1) (declarator_tokens inner) (q.at ∷ []) (direct_rises kinds p q n ps inner f) (alone q.at (q.at + 1 + 1) (omega arith)))
  direct_rises kinds from to name parameters whole (grammar.function_empty p q n ps inner f a b) =
      as_declarator _ (d.«Declarator::Function» inner [] None q.at) p.at (q.at + 1 + 1) (declarator_node.rolls-Function inner [] None q.at)
      (joined p.at q.at (q.at + 1 + 1) (declarator_tokens inner) (q.at ∷ []) (direct_rises kinds p q n ps inner f) (alone q.at (q.at + 1 + 1) (omega arith)))
  direct_rises kinds from to name parameters whole (grammar.function_parameters p q r n ps inner list variadic f a g b) =
      as_declarator _ (d.«Declarator::Function» inner list variadic q.at) p.at (r.at + 1) (declarator_node.rolls-Function inner list variadic q.at)
      (joined p.at q.at (r.at + 1) (declarator_tokens inner) (q.at ∷ each_in_turn parameter_tokens list) (direct_rises kinds p q n ps inner f)
      (headed q.at (r.at + 1) (each_in_turn parameter_tokens list)
      (later (q.at + 1) r.at (r.at + 1) (each_in_turn parameter_tokens list) (omega arith) (parameters_rise kinds (enter (next q)) r list variadic g))))

  parameters_rise : (kinds : List TokenKind) (p q : Place) (xs : List Parameter) (variadic : Option ℕ) → AreParameters kinds p q xs variadic → IsRising p.at q.at (each_in_turn parameter_tokens xs)
  parameters_rise kinds from to whole variadic (grammar.one_parameter p q x f) = joined p.at q.at q.at (parameter_tokens x) [] (parameter_rises kinds p q x f) (rises_none q.at q.at (omega arith))
  parameters_rise kinds from to whole variadic (grammar.variadic_parameters p q x f a b) =
      joined p.at q.at (q.at + 1 + 1) (parameter_tokens x) [] (parameter_rises kinds p q x f) (rises_none q.at (q.at + 1 + 1) (omega arith))
  parameters_rise kinds from to whole variadic (grammar.more_parameters p q r x further is_variadic f a g) =
      joined p.at q.at r.at (parameter_tokens x) (each_in_turn parameter_tokens further) (parameter_rises kinds p q x f)
      (sooner q.at (q.at + 1) r.at (each_in_turn parameter_tokens further) (omega arith) (parameters_rise kinds (next q) r further is_variadic g))

  parameter_rises : (kinds : List TokenKind) (p q : Place) (x : Parameter) → IsParameter kinds p q x → IsRising p.at q.at (parameter_tokens x)
  parameter_rises kinds from to whole (grammar.named_parameter p q r defines list name parameters inner f g) =
      as_parameter _ (record { specifiers = list; declarator = inner }) p.at r.at (parameter_view.rolls-Parameter' (record { specifiers = list; declarator = inner }))
      (joined p.at q.at r.at (each_in_turn specifier_tokens list) (declarator_tokens inner) (specifiers_rise kinds p q defines list f) (decorated_rises kinds q r name parameters inner g))
  parameter_rises kinds from to whole (grammar.unnamed_parameter p q r defines list inner f g) =
      as_parameter _ (record { specifiers = list; declarator = inner }) p.at r.at (parameter_view.rolls-Parameter' (record { specifiers = list; declarator = inner }))
      (joined p.at q.at r.at (each_in_turn specifier_tokens list) (declarator_tokens inner) (specifiers_rise kinds p q defines list f) (unnamed_rises kinds grammar.InParameter q r inner g))

  unnamed_rises : (kinds : List TokenKind) (unnamed : Unnamed) (p q : Place) (x : Declarator) → IsUnnamed kinds unnamed p q x → IsRising p.at q.at (declarator_tokens x)
  unnamed_rises kinds unnamed from to whole (grammar.no_declarator p) = as_declarator _ (d.Unnamed p.at) p.at p.at (declarator_node.rolls-Unnamed p.at) (rises_none p.at p.at (omega arith))
  unnamed_rises kinds unnamed from to whole (grammar.unnamed_arrays p q inner f) = arrays_rise kinds p q inner f
  unnamed_rises kinds unnamed from to whole (grammar.unnamed_pointer u p q r qualifiers inner a b h f) =
      as_declarator _ (d.Pointer qualifiers inner p.at) p.at r.at (declarator_node.rolls-Pointer qualifiers inner p.at)
      (headed p.at r.at (declarator_tokens inner) (sooner (p.at + 1) q.at r.at (declarator_tokens inner) (qualifiers_skip kinds (next p) q qualifiers b) (unnamed_rises kinds u q r inner f)))

  arrays_rise : (kinds : List TokenKind) (p q : Place) (x : Declarator) → AreArrays kinds p q x → IsRising p.at q.at (declarator_tokens x)
  arrays_rise kinds from to whole (grammar.no_arrays p) = as_declarator _ (d.Unnamed p.at) p.at p.at (declarator_node.rolls-Unnamed p.at) (rises_none p.at p.at (omega arith))
  arrays_rise kinds from to whole (grammar.unnamed_array p q r inner size f a g b) =
      as_declarator _ (d.Array inner size q.at) p.at (r.at + 1) (declarator_node.rolls-Array inner size q.at)
      (joined p.at q.at (r.at + 1) (declarator_tokens inner) (q.at ∷ expression_tokens size) (arrays_rise kinds p q inner f)
      (headed q.at (r.at + 1) (expression_tokens size) (later (q.at + 1) r.at (r.at + 1) (expression_tokens size) (omega arith) (expression_rises kinds 2 (next q) r size g))))
