-- With which tokens declarations and statements begin.
use Rattle.std.proofs.Common.{◌≡◌, ℕ, ◌+◌, List, Option, Some, None, Bool, true, false, refl, ap, ◌∙◌, sym, subst, inl, inr}
use Rattle.std.specs.Prelude.{◌⊎◌}
use Rattle.c_tokens.specs.declared.token.TokenKind.{TokenKind}
use Rattle.c_tokens.specs.declared.token.TokenKind.TheVariants as token
use Rattle.c_tree.specs.declared.expression.Step.{Step}
use Rattle.c_tree.specs.declared.expression.Step.TheVariants as step
use Rattle.c_tree.specs.declared.expression.UnaryOperator.{UnaryOperator}
use Rattle.c_tree.specs.declared.expression.UnaryOperator.TheVariants as unary
use Rattle.c_tree.specs.declared.expression.BinaryOperator.{BinaryOperator}
use Rattle.c_tree.specs.declared.expression.BinaryOperator.TheVariants as binary
use Rattle.c_tree.specs.declared.expression.AssignOperator.{AssignOperator}
use Rattle.c_tree.specs.declared.expression.AssignOperator.TheVariants as assign
use Rattle.c_tree.specs.declared.expression.Expression.{Expression}
use Rattle.c_tree.specs.declared.expression.Specifier.{Specifier}
use Rattle.c_tree.specs.declared.declaration.Declaration.{Declaration}
use Rattle.c_tree.specs.declared.statement.Statement.{Statement}
use Rattle.c_tree.specs.declared.statement.Branch.{Branch}
use Rattle.c_tree.specs.declared.statement.BlockItem.{BlockItem}
use Rattle.c_tree.specs.Places.{Place, At, next}
use Rattle.c_tree.specs.Signs.{step_sign, unary_sign, binary_sign, assign_sign, level}
use Rattle.c_tree.specs.Spells as grammar
use Rattle.c_tree.specs.Spells.{IsExpression, AreAttributes, AreSpecifiers, AreFurther, IsSpecifier, Role}
use Rattle.c_tree.specs.SpellsStatements as statements
use Rattle.c_tree.specs.SpellsStatements.{IsDeclaration, IsStatement, IsChain, AreItems}
use Rattle.c_grammar.specs.Kinds.{begins_type, is_start, start}
use Rattle.c_grammar.specs.Marks as sign
use Rattle.c_grammar.specs.Marks.{Mark, mark, mark_at, mark_of}
use Rattle.c_grammar.specs.ReadStatements.{is_colon, declares, declares_by}
use Rattle.c_grammar_laws.proofs.MarkLaws.{mark-storage_sign, mark-function_sign, mark-qualifier_sign, mark-base_sign}
use Rattle.c_grammar_laws.proofs.Complete.{leads}
use Rattle.c_grammar_laws.proofs.CompleteTypes.{is_curly_close}
use Rattle.c_grammar_laws.proofs.CompleteSpecifiers.{operand_no_close}
use Rattle.c_grammar_laws.proofs.CompleteDeclarations.{names_lead}
use Rattle.c_grammar_laws.proofs.Leads.{is_operand, begins_specifiers, begins_declarator, expression_leads, specifiers_lead, further_leads, specifiers_begin}

-- ---- a name before `:` is no expression that goes on

abbrev colon_at : Option TokenKind → Bool
colon_at k = is_colon (mark k)

binary_no_colon : (operator : BinaryOperator) → is_colon (mark_of (binary_sign operator)) ≡ false
binary_no_colon binary.LogicalOr = refl
binary_no_colon binary.LogicalAnd = refl
binary_no_colon binary.BitOr = refl
binary_no_colon binary.BitXor = refl
binary_no_colon binary.BitAnd = refl
binary_no_colon binary.Equal = refl
binary_no_colon binary.NotEqual = refl
binary_no_colon binary.Less = refl
binary_no_colon binary.Greater = refl
binary_no_colon binary.LessEqual = refl
binary_no_colon binary.GreaterEqual = refl
binary_no_colon binary.ShiftLeft = refl
binary_no_colon binary.ShiftRight = refl
binary_no_colon binary.Add = refl
binary_no_colon binary.Subtract = refl
binary_no_colon binary.Multiply = refl
binary_no_colon binary.Divide = refl
binary_no_colon binary.Remainder = refl

assign_no_colon : (operator : AssignOperator) → is_colon (mark_of (assign_sign operator)) ≡ false
assign_no_colon assign.Plain = refl
assign_no_colon assign.Multiply = refl
assign_no_colon assign.Divide = refl
assign_no_colon assign.Remainder = refl
assign_no_colon assign.Add = refl
assign_no_colon assign.Subtract = refl
assign_no_colon assign.ShiftLeft = refl
assign_no_colon assign.ShiftRight = refl
assign_no_colon assign.BitAnd = refl
assign_no_colon assign.BitXor = refl
assign_no_colon assign.BitOr = refl

step_no_colon : (step : Step) → is_colon (mark_of (step_sign step)) ≡ false
step_no_colon step.Increment = refl
step_no_colon step.Decrement = refl

-- it ends after the name, or goes on with another token than `:`
abbrev pub Second : List TokenKind → Place → Place → Type 0
Second kinds p q = (q ≡ next p) ⊎ (is_colon (mark_at kinds (next p)) ≡ false)

second_by : (kinds : List TokenKind) (p r q : Place) → Second kinds p r → is_colon (mark_at kinds r) ≡ false → Second kinds p q
second_by kinds p r q (inl e) h = inr (subst (λ z. is_colon (mark_at kinds z) ≡ false) e h)
second_by kinds p r q (inr b) h = inr b

abbrev pub is_name : Mark → Bool
is_name (sign.Name text) = true
is_name _ = false

step_no_name : (step : Step) → is_name (mark_of (step_sign step)) ≡ false
step_no_name step.Increment = refl
step_no_name step.Decrement = refl

unary_no_name : (operator : UnaryOperator) → is_name (mark_of (unary_sign operator)) ≡ false
unary_no_name unary.Address = refl
unary_no_name unary.Indirection = refl
unary_no_name unary.Plus = refl
unary_no_name unary.Minus = refl
unary_no_name unary.Complement = refl
unary_no_name unary.Not = refl

abbrev name_at : Option TokenKind → Bool
name_at k = is_name (mark k)

not_both : {B : Type 0} (b : Bool) → b ≡ true → b ≡ false → B
not_both b h g = absurd (let z : true ≡ false = sym h ∙ g in cc)

pub expression_second : (kinds : List TokenKind) (k : ℕ) (p q : Place) (x : Expression) → IsExpression kinds k p q x → is_name (mark_at kinds p) ≡ true → Second kinds p q
expression_second kinds k from to whole (grammar.name p text a o) h = inl refl
expression_second kinds k from to whole (grammar.constant p kind value a) h = not_both (is_name (mark_at kinds p)) h (ap name_at a)
expression_second kinds k from to whole (grammar.text p a) h = not_both (is_name (mark_at kinds p)) h (ap name_at a)
expression_second kinds k from to whole (grammar.brackets p r y a d b) h = not_both (is_name (mark_at kinds p)) h (ap name_at a)
expression_second kinds k from to whole (grammar.subscript p r s y z d a e b) h = second_by kinds p r (next s) (expression_second kinds 15 p r y d h) (ap colon_at a)
expression_second kinds k from to whole (grammar.call_empty p r y d a b) h = second_by kinds p r (next (next r)) (expression_second kinds 15 p r y d h) (ap colon_at a)
expression_second kinds k from to whole (grammar.call p r s y ys d a e b) h = second_by kinds p r (next s) (expression_second kinds 15 p r y d h) (ap colon_at a)
expression_second kinds k from to whole (grammar.member p r y text d a b) h = second_by kinds p r (next (next r)) (expression_second kinds 15 p r y d h) (ap colon_at a)
expression_second kinds k from to whole (grammar.pointed_member p r y text d a b) h = second_by kinds p r (next (next r)) (expression_second kinds 15 p r y d h) (ap colon_at a)
expression_second kinds k from to whole (grammar.postfix p r step y d a) h = second_by kinds p r (next r) (expression_second kinds 15 p r y d h) (ap colon_at a ∙ step_no_colon step)
expression_second kinds k from to whole (grammar.prefix p r step y a d) h = not_both (is_name (mark_at kinds p)) h (ap name_at a ∙ step_no_name step)
expression_second kinds k from to whole (grammar.unary p r operator y a d) h = not_both (is_name (mark_at kinds p)) h (ap name_at a ∙ unary_no_name operator)
expression_second kinds k from to whole (grammar.sizeof_expression p r y a d) h = not_both (is_name (mark_at kinds p)) h (ap name_at a)
expression_second kinds k from to whole (grammar.sizeof_type p r t a b d c) h = not_both (is_name (mark_at kinds p)) h (ap name_at a)
expression_second kinds k from to whole (grammar.cast p r s t y a d b e) h = not_both (is_name (mark_at kinds p)) h (ap name_at a)
expression_second kinds k from to whole (grammar.binary p r s operator y z d a e) h =
    second_by kinds p r s (expression_second kinds (level operator) p r y d h) (ap colon_at a ∙ binary_no_colon operator)
expression_second kinds k from to whole (grammar.conditional p r s t y z w d a e b f) h = second_by kinds p r t (expression_second kinds 3 p r y d h) (ap colon_at a)
expression_second kinds k from to whole (grammar.assign p r s operator y z d a e) h = second_by kinds p r s (expression_second kinds 14 p r y d h) (ap colon_at a ∙ assign_no_colon operator)
expression_second kinds k from to whole (grammar.comma p r s y ys d a e) h = second_by kinds p r s (expression_second kinds 1 p r y d h) (ap colon_at a)
expression_second kinds k from to whole (grammar.pass j p r y d) h = expression_second kinds (j + 1) p r y d h

-- ---- a declaration is no label

abbrev Declares : List TokenKind → Place → Type 0
Declares kinds p = declares kinds p ≡ begins_type kinds p

declares_unnamed : (kinds : List TokenKind) (p : Place) (m after : Mark) → is_name m ≡ false → declares_by kinds p m after ≡ begins_type kinds p
declares_unnamed kinds p (sign.Name text) after h = cc
declares_unnamed kinds p _ after h = refl

declares_no_colon : (kinds : List TokenKind) (p : Place) (m after : Mark) → is_colon after ≡ false → declares_by kinds p m after ≡ begins_type kinds p
declares_no_colon kinds p (sign.Name text) sign.Colon h = cc
declares_no_colon kinds p _ _ h = refl

unnamed : (kinds : List TokenKind) (p : Place) → is_name (mark_at kinds p) ≡ false → Declares kinds p
unnamed kinds p h = declares_unnamed kinds p (mark_at kinds p) (mark_at kinds (next p)) h

-- a name is the only one of its kind
abbrev Named : List TokenKind → Place → Place → Type 0
Named kinds p q = (is_name (mark_at kinds p) ≡ false) ⊎ (q ≡ next p)

specifier_named : (kinds : List TokenKind) (typed : Bool) (p q : Place) (role : Role) (x : Specifier) → IsSpecifier kinds typed p q role x → Named kinds p q
specifier_named kinds typed from to role whole (grammar.storage_word t p word a) = inl (ap name_at a ∙ ap is_name (mark-storage_sign word))
specifier_named kinds typed from to role whole (grammar.function_word t p word a) = inl (ap name_at a ∙ ap is_name (mark-function_sign word))
specifier_named kinds typed from to role whole (grammar.qualifier_word t p word a) = inl (ap name_at a ∙ ap is_name (mark-qualifier_sign word))
specifier_named kinds typed from to role whole (grammar.base_word t p word a) = inl (ap name_at a ∙ ap is_name (mark-base_sign word))
specifier_named kinds typed from to role whole (grammar.type_word t p kind a) = inl (ap name_at a)
specifier_named kinds typed from to role whole (grammar.struct_body t p q r tag lines a g b d c) = inl (ap name_at a)
specifier_named kinds typed from to role whole (grammar.struct_tag t p tag a b) = inl (ap name_at a)
specifier_named kinds typed from to role whole (grammar.enum_body t p q r tag constants a g b d c) = inl (ap name_at a)
specifier_named kinds typed from to role whole (grammar.enum_tag t p tag a b) = inl (ap name_at a)
specifier_named kinds typed from to role whole (grammar.typedef_name p text a b) = inr refl

attributes_no_colon : (kinds : List TokenKind) (p q : Place) → AreAttributes kinds p q → is_colon (mark_at kinds q) ≡ false → is_colon (mark_at kinds p) ≡ false
attributes_no_colon kinds from to (grammar.no_attributes p) h = h
attributes_no_colon kinds from to (grammar.extension p q a d) h = ap colon_at a
attributes_no_colon kinds from to (grammar.attribute p q r a b c d e f g) h = ap colon_at a

named_declares : (kinds : List TokenKind) (p q : Place) → Named kinds p q → is_colon (mark_at kinds q) ≡ false → Declares kinds p
named_declares kinds p q (inl h) c = unnamed kinds p h
named_declares kinds p q (inr e) c =
    declares_no_colon kinds p (mark_at kinds p) (mark_at kinds (next p)) (subst (λ z. is_colon (mark_at kinds z) ≡ false) e c)

begins_no_colon : (m : Mark) → begins_specifiers m ≡ true → is_colon m ≡ false
begins_no_colon sign.Colon h = cc
begins_no_colon _ h = refl

further_declares : (kinds : List TokenKind) (typed : Bool) (p q : Place) (defines : Bool) (list : List Specifier) → AreFurther kinds typed p q defines list → is_colon (mark_at kinds q) ≡ false
    → Declares kinds p
further_declares kinds typed from to defines whole (grammar.last_specifier t p q r role x d a e) c =
    named_declares kinds p q (specifier_named kinds t p q role x d) (attributes_no_colon kinds q r a c)
further_declares kinds typed from to defines whole (grammar.more_specifiers t p q r s role more x list d a f) c =
    named_declares kinds p q (specifier_named kinds t p q role x d) (attributes_no_colon kinds q r a (begins_no_colon (mark_at kinds r) (further_leads kinds _ r s more list f)))

attributes_declare : (kinds : List TokenKind) (p q : Place) → AreAttributes kinds p q → Declares kinds q → Declares kinds p
attributes_declare kinds from to (grammar.no_attributes p) h = h
attributes_declare kinds from to (grammar.extension p q a d) h = unnamed kinds p (ap name_at a)
attributes_declare kinds from to (grammar.attribute p q r a b c d e f g) h = unnamed kinds p (ap name_at a)

specifiers_declare : (kinds : List TokenKind) (p q : Place) (defines : Bool) (list : List Specifier) → AreSpecifiers kinds p q defines list → is_colon (mark_at kinds q) ≡ false → Declares kinds p
specifiers_declare kinds from to defines whole (grammar.all_specifiers p q r more list a f) c = attributes_declare kinds p q a (further_declares kinds false q r more list f c)

declarator_no_colon : (m : Mark) → begins_declarator m ≡ true → is_colon m ≡ false
declarator_no_colon sign.Colon h = cc
declarator_no_colon _ h = refl

pub declaration_declares : (kinds : List TokenKind) (p q : Place) (x : Declaration) → IsDeclaration kinds p q x → declares kinds p ≡ true
declaration_declares kinds from to whole (statements.no_names p q defines list d a) =
    specifiers_declare kinds p q defines list d (ap colon_at a) ∙ specifiers_begin kinds p q defines list d
declaration_declares kinds from to whole (statements.some_names p q r defines list names d e a) =
    specifiers_declare kinds p q defines list d (declarator_no_colon (mark_at kinds q) (names_lead kinds defines q r names e)) ∙ specifiers_begin kinds p q defines list d

pub declaration_leads : (kinds : List TokenKind) (p q : Place) (x : Declaration) → IsDeclaration kinds p q x → begins_specifiers (mark_at kinds p) ≡ true
declaration_leads kinds from to whole (statements.no_names p q defines list d a) = specifiers_lead kinds p q defines list d
declaration_leads kinds from to whole (statements.some_names p q r defines list names d e a) = specifiers_lead kinds p q defines list d

pub declaration_begins : (kinds : List TokenKind) (p q : Place) (x : Declaration) → IsDeclaration kinds p q x → begins_type kinds p ≡ true
declaration_begins kinds from to whole (statements.no_names p q defines list d a) = specifiers_begin kinds p q defines list d
declaration_begins kinds from to whole (statements.some_names p q r defines list names d e a) = specifiers_begin kinds p q defines list d

-- ---- statements

declares_false : (kinds : List TokenKind) (p : Place) (m after : Mark) → begins_type kinds p ≡ false → declares_by kinds p m after ≡ false
declares_false kinds p (sign.Name text) sign.Colon h = refl
declares_false kinds p _ _ h = h

abbrev begins_by : Place → Option TokenKind → Bool
begins_by p k = is_start p (start k)

plainly : (kinds : List TokenKind) (p : Place) → begins_type kinds p ≡ false → declares kinds p ≡ false
plainly kinds p h = declares_false kinds p (mark_at kinds p) (mark_at kinds (next p)) h

pub chain_leads : (kinds : List TokenKind) (ends_open : Bool) (p q : Place) (branches : List Branch) (x : Option Statement) → IsChain kinds ends_open p q branches x → At kinds p token.If
chain_leads kinds ends_open from to branches otherwise (statements.last_if p q r o test body a b d) = a
chain_leads kinds ends_open from to branches otherwise (statements.last_else p q r s o test body x a b d e f g) = a
chain_leads kinds ends_open from to branches otherwise (statements.else_if p q r s o test body more x a b d e f) = a

pub statement_not_declared : (kinds : List TokenKind) (ends_open : Bool) (p q : Place) (x : Statement) → IsStatement kinds ends_open p q x → declares kinds p ≡ false
statement_not_declared kinds ends_open from to whole (statements.block p q items a d b) = plainly kinds p (ap (begins_by p) a)
statement_not_declared kinds ends_open from to whole (statements.empty_statement p a) = plainly kinds p (ap (begins_by p) a)
statement_not_declared kinds ends_open from to whole (statements.value_statement p q x d a) = plainly kinds p (leads kinds 0 p q x d)
statement_not_declared kinds ends_open from to whole (statements.label p q o name body a b d) =
    ap (λ k. declares_by kinds p (mark k) (mark_at kinds (next p))) a ∙ ap (λ k. declares_by kinds p (sign.Name name) (mark k)) b
statement_not_declared kinds ends_open from to whole (statements.case_label p q r o value body a d b e) = plainly kinds p (ap (begins_by p) a)
statement_not_declared kinds ends_open from to whole (statements.default_label p q o body a b d) = plainly kinds p (ap (begins_by p) a)
statement_not_declared kinds ends_open from to whole (statements.if_alone p q o branches d) = plainly kinds p (ap (begins_by p) (chain_leads kinds o p q branches None d))
statement_not_declared kinds ends_open from to whole (statements.if_else p q o branches x d) = plainly kinds p (ap (begins_by p) (chain_leads kinds o p q branches (Some x) d))
statement_not_declared kinds ends_open from to whole (statements.switch_on p q r o value body a b d) = plainly kinds p (ap (begins_by p) a)
statement_not_declared kinds ends_open from to whole (statements.while_loop p q r o test body a b d) = plainly kinds p (ap (begins_by p) a)
statement_not_declared kinds ends_open from to whole (statements.do_loop p q r o body test a d b e c) = plainly kinds p (ap (begins_by p) a)
statement_not_declared kinds ends_open from to whole (statements.for_loop p q r s t o first test step body a b c d e f g h) = plainly kinds p (ap (begins_by p) a)
statement_not_declared kinds ends_open from to whole (statements.break_out p a b) = plainly kinds p (ap (begins_by p) a)
statement_not_declared kinds ends_open from to whole (statements.continue_on p a b) = plainly kinds p (ap (begins_by p) a)
statement_not_declared kinds ends_open from to whole (statements.return_from p q value a d b) = plainly kinds p (ap (begins_by p) a)

abbrev close_at : Option TokenKind → Bool
close_at k = is_curly_close (mark k)

pub statement_leads : (kinds : List TokenKind) (ends_open : Bool) (p q : Place) (x : Statement) → IsStatement kinds ends_open p q x → is_curly_close (mark_at kinds p) ≡ false
statement_leads kinds ends_open from to whole (statements.block p q items a d b) = ap close_at a
statement_leads kinds ends_open from to whole (statements.empty_statement p a) = ap close_at a
statement_leads kinds ends_open from to whole (statements.value_statement p q x d a) = operand_no_close (mark_at kinds p) (expression_leads kinds 0 p q x d)
statement_leads kinds ends_open from to whole (statements.label p q o name body a b d) = ap close_at a
statement_leads kinds ends_open from to whole (statements.case_label p q r o value body a d b e) = ap close_at a
statement_leads kinds ends_open from to whole (statements.default_label p q o body a b d) = ap close_at a
statement_leads kinds ends_open from to whole (statements.if_alone p q o branches d) = ap close_at (chain_leads kinds o p q branches None d)
statement_leads kinds ends_open from to whole (statements.if_else p q o branches x d) = ap close_at (chain_leads kinds o p q branches (Some x) d)
statement_leads kinds ends_open from to whole (statements.switch_on p q r o value body a b d) = ap close_at a
statement_leads kinds ends_open from to whole (statements.while_loop p q r o test body a b d) = ap close_at a
statement_leads kinds ends_open from to whole (statements.do_loop p q r o body test a d b e c) = ap close_at a
statement_leads kinds ends_open from to whole (statements.for_loop p q r s t o first test step body a b c d e f g h) = ap close_at a
statement_leads kinds ends_open from to whole (statements.break_out p a b) = ap close_at a
statement_leads kinds ends_open from to whole (statements.continue_on p a b) = ap close_at a
statement_leads kinds ends_open from to whole (statements.return_from p q value a d b) = ap close_at a

abbrev pub is_else : Mark → Bool
is_else sign.Else = true
is_else _ = false

abbrev else_at : Option TokenKind → Bool
else_at k = is_else (mark k)

operand_no_else : (m : Mark) → is_operand m ≡ true → is_else m ≡ false
operand_no_else sign.Else h = cc
operand_no_else _ h = refl

pub statement_no_else : (kinds : List TokenKind) (ends_open : Bool) (p q : Place) (x : Statement) → IsStatement kinds ends_open p q x → is_else (mark_at kinds p) ≡ false
statement_no_else kinds ends_open from to whole (statements.block p q items a d b) = ap else_at a
statement_no_else kinds ends_open from to whole (statements.empty_statement p a) = ap else_at a
statement_no_else kinds ends_open from to whole (statements.value_statement p q x d a) = operand_no_else (mark_at kinds p) (expression_leads kinds 0 p q x d)
statement_no_else kinds ends_open from to whole (statements.label p q o name body a b d) = ap else_at a
statement_no_else kinds ends_open from to whole (statements.case_label p q r o value body a d b e) = ap else_at a
statement_no_else kinds ends_open from to whole (statements.default_label p q o body a b d) = ap else_at a
statement_no_else kinds ends_open from to whole (statements.if_alone p q o branches d) = ap else_at (chain_leads kinds o p q branches None d)
statement_no_else kinds ends_open from to whole (statements.if_else p q o branches x d) = ap else_at (chain_leads kinds o p q branches (Some x) d)
statement_no_else kinds ends_open from to whole (statements.switch_on p q r o value body a b d) = ap else_at a
statement_no_else kinds ends_open from to whole (statements.while_loop p q r o test body a b d) = ap else_at a
statement_no_else kinds ends_open from to whole (statements.do_loop p q r o body test a d b e c) = ap else_at a
statement_no_else kinds ends_open from to whole (statements.for_loop p q r s t o first test step body a b c d e f g h) = ap else_at a
statement_no_else kinds ends_open from to whole (statements.break_out p a b) = ap else_at a
statement_no_else kinds ends_open from to whole (statements.continue_on p a b) = ap else_at a
statement_no_else kinds ends_open from to whole (statements.return_from p q value a d b) = ap else_at a

specifiers_no_else : (m : Mark) → begins_specifiers m ≡ true → is_else m ≡ false
specifiers_no_else sign.Else h = cc
specifiers_no_else _ h = refl

-- no item of a block begins with `else`
pub items_no_else : (kinds : List TokenKind) (p q : Place) (xs : List BlockItem) → AreItems kinds p q xs → At kinds q token.RightBrace → is_else (mark_at kinds p) ≡ false
items_no_else kinds from to whole (statements.no_items p) b = ap else_at b
items_no_else kinds from to whole (statements.declared_item p q r x xs d e) b = specifiers_no_else (mark_at kinds p) (declaration_leads kinds p q x d)
items_no_else kinds from to whole (statements.statement_item p q r o x xs d e) b = statement_no_else kinds o p q x d
