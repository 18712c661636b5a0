-- With which tokens the parts of the grammar begin, and what each lets stand before it.
use Rattle.std.proofs.Common.{◌≡◌, ℕ, ◌+◌, List, Option, Some, Bool, true, false, refl, ap, ◌∙◌}
use Rattle.c_tokens.specs.declared.token.TokenKind.{TokenKind}
use Rattle.c_tree.specs.declared.expression.Step.{Step}
use Rattle.c_tree.specs.declared.expression.Step.TheVariants as step
use Rattle.c_tree.specs.declared.expression.UnaryOperator.{UnaryOperator}
use Rattle.c_tree.specs.declared.expression.UnaryOperator.TheVariants as unary
use Rattle.c_tree.specs.declared.expression.StorageWord.{StorageWord}
use Rattle.c_tree.specs.declared.expression.FunctionWord.{FunctionWord}
use Rattle.c_tree.specs.declared.expression.Qualifier.{Qualifier}
use Rattle.c_tree.specs.declared.expression.BaseWord.{BaseWord}
use Rattle.c_tree.specs.declared.expression.Expression.{Expression}
use Rattle.c_tree.specs.declared.expression.Specifier.{Specifier}
use Rattle.c_tree.specs.declared.expression.Member.{Member}
use Rattle.c_tree.specs.declared.expression.EnumConstant.{EnumConstant}
use Rattle.c_tree.specs.declared.expression.Declarator.{Declarator}
use Rattle.c_tree.specs.declared.expression.Parameter.{Parameter}
use Rattle.c_tree.specs.declared.scope.Entry.{Entry}
use Rattle.c_tree.specs.Places.{Place}
use Rattle.c_tree.specs.Signs.{step_sign, unary_sign, level, storage_sign, function_sign, qualifier_sign, base_sign}
use Rattle.c_tree.specs.Spells as grammar
use Rattle.c_tree.specs.Spells.{IsExpression, AreAttributes, AreSpecifiers, AreFurther, IsSpecifier, EndsSpecifiers, AreMembers, IsMember, AreEnumConstants, IsEnumConstant, IsDecorated, IsDeclarator, IsDirect, AreParameters, IsParameter, Role}
use Rattle.c_grammar.specs.Kinds.{kind_at, Word, start, begins_type, is_start}
use Rattle.c_grammar.specs.Marks as sign
use Rattle.c_grammar.specs.Marks.{Mark, mark, mark_at, mark_of, extends_declarator, follows_specifiers}
use Rattle.c_grammar.specs.ReadTypes.{goes_further, is_further}
use Rattle.c_grammar_laws.proofs.MarkLaws.{mark-storage_sign, mark-function_sign, mark-qualifier_sign, mark-base_sign, start-mark, start_marked, mark_means}

-- an expression begins with it
abbrev pub is_operand : Mark → Bool
is_operand (sign.Name text) = true
is_operand sign.RoundOpens = true
is_operand sign.Star = true
is_operand sign.NoMark = true
is_operand _ = false

-- a declarator begins with it
abbrev pub begins_declarator : Mark → Bool
begins_declarator (sign.Name text) = true
begins_declarator sign.RoundOpens = true
begins_declarator sign.Star = true
begins_declarator _ = false

-- specifiers begin with it
abbrev pub begins_specifiers : Mark → Bool
begins_specifiers (sign.Name text) = true
begins_specifiers sign.Attribute = true
begins_specifiers sign.Extension = true
begins_specifiers (sign.Stores word) = true
begins_specifiers (sign.Functions word) = true
begins_specifiers (sign.Qualifies word) = true
begins_specifiers (sign.Bases word) = true
begins_specifiers (sign.TypeWords kind) = true
begins_specifiers sign.Structs = true
begins_specifiers sign.Enums = true
begins_specifiers _ = false

abbrev pub is_attribute : Mark → Bool
is_attribute sign.Attribute = true
is_attribute sign.Extension = true
is_attribute _ = false

abbrev pub is_curly : Mark → Bool
is_curly sign.CurlyOpens = true
is_curly _ = false

abbrev pub is_suffix : Mark → Bool
is_suffix sign.RoundOpens = true
is_suffix sign.SquareOpens = true
is_suffix _ = false

-- ---- expressions

step_operand : (step : Step) → is_operand (mark_of (step_sign step)) ≡ true
step_operand step.Increment = refl
step_operand step.Decrement = refl

unary_operand : (operator : UnaryOperator) → is_operand (mark_of (unary_sign operator)) ≡ true
unary_operand unary.Address = refl
unary_operand unary.Indirection = refl
unary_operand unary.Plus = refl
unary_operand unary.Minus = refl
unary_operand unary.Complement = refl
unary_operand unary.Not = refl

abbrev operand_at : Option TokenKind → Bool
operand_at k = is_operand (mark k)

pub expression_leads : (kinds : List TokenKind) (k : ℕ) (p q : Place) (x : Expression) → IsExpression kinds k p q x → is_operand (mark_at kinds p) ≡ true
expression_leads kinds k from to whole (grammar.name p text a o) = ap operand_at a
expression_leads kinds k from to whole (grammar.constant p kind value a) = ap operand_at a
expression_leads kinds k from to whole (grammar.text p a) = ap operand_at a
expression_leads kinds k from to whole (grammar.brackets p r y a d b) = ap operand_at a
expression_leads kinds k from to whole (grammar.subscript p r s y z d a e b) = expression_leads kinds 15 p r y d
expression_leads kinds k from to whole (grammar.call_empty p r y d a b) = expression_leads kinds 15 p r y d
expression_leads kinds k from to whole (grammar.call p r s y ys d a e b) = expression_leads kinds 15 p r y d
expression_leads kinds k from to whole (grammar.member p r y text d a b) = expression_leads kinds 15 p r y d
expression_leads kinds k from to whole (grammar.pointed_member p r y text d a b) = expression_leads kinds 15 p r y d
expression_leads kinds k from to whole (grammar.postfix p r step y d a) = expression_leads kinds 15 p r y d
expression_leads kinds k from to whole (grammar.prefix p r step y a d) = ap operand_at a ∙ step_operand step
expression_leads kinds k from to whole (grammar.unary p r operator y a d) = ap operand_at a ∙ unary_operand operator
expression_leads kinds k from to whole (grammar.sizeof_expression p r y a d) = ap operand_at a
expression_leads kinds k from to whole (grammar.sizeof_type p r t a b d c) = ap operand_at a
expression_leads kinds k from to whole (grammar.cast p r s t y a d b e) = ap operand_at a
expression_leads kinds k from to whole (grammar.binary p r s operator y z d a e) = expression_leads kinds (level operator) p r y d
expression_leads kinds k from to whole (grammar.conditional p r s t y z w d a e b f) = expression_leads kinds 3 p r y d
expression_leads kinds k from to whole (grammar.assign p r s operator y z d a e) = expression_leads kinds 14 p r y d
expression_leads kinds k from to whole (grammar.comma p r s y ys d a e) = expression_leads kinds 1 p r y d
expression_leads kinds k from to whole (grammar.pass j p r y d) = expression_leads kinds (j + 1) p r y d

-- ---- declarators

pub direct_leads : (kinds : List TokenKind) (p q : Place) (name : List ℕ) (parameters : Option (List Entry)) (inner : Declarator) → IsDirect kinds p q name parameters inner
    → begins_declarator (mark_at kinds p) ≡ true
direct_leads kinds from to name parameters whole (grammar.declared_name p text a) = ap (λ k. begins_declarator (mark k)) a
direct_leads kinds from to name parameters whole (grammar.declarator_brackets p q n ps x a d b) = ap (λ k. begins_declarator (mark k)) a
direct_leads kinds from to name parameters whole (grammar.array p q r n ps x size d a e b) = direct_leads kinds p q n ps x d
direct_leads kinds from to name parameters whole (grammar.open_array p q n ps x d a b) = direct_leads kinds p q n ps x d
direct_leads kinds from to name parameters whole (grammar.function_empty p q n ps x d a b) = direct_leads kinds p q n ps x d
direct_leads kinds from to name parameters whole (grammar.function_parameters p q r n ps x list variadic d a e b) = direct_leads kinds p q n ps x d

pub declarator_leads : (kinds : List TokenKind) (p q : Place) (name : List ℕ) (parameters : Option (List Entry)) (inner : Declarator) → IsDeclarator kinds p q name parameters inner
    → begins_declarator (mark_at kinds p) ≡ true
declarator_leads kinds from to name parameters whole (grammar.pointer p q r list n ps x a b d) = ap (λ k. begins_declarator (mark k)) a
declarator_leads kinds from to name parameters whole (grammar.direct p q n ps x d) = direct_leads kinds p q n ps x d

pub decorated_leads : (kinds : List TokenKind) (p q : Place) (name : List ℕ) (parameters : Option (List Entry)) (inner : Declarator) → IsDecorated kinds p q name parameters inner
    → begins_declarator (mark_at kinds p) ≡ true
decorated_leads kinds from to name parameters whole (grammar.decorated p q r n ps x d a) = declarator_leads kinds p q n ps x d

pub declarator_follows : (m : Mark) → begins_declarator m ≡ true → follows_specifiers m ≡ true
declarator_follows (sign.Name text) h = refl
declarator_follows sign.RoundOpens h = refl
declarator_follows sign.Star h = refl
declarator_follows _ h = cc

pub member_leads : (kinds : List TokenKind) (p q : Place) (x : Member) → IsMember kinds p q x → follows_specifiers (mark_at kinds p) ≡ true
member_leads kinds from to whole (grammar.plain_member p q name parameters inner d) =
    declarator_follows (mark_at kinds p) (decorated_leads kinds p q name parameters inner d)
member_leads kinds from to whole (grammar.bit_field p q r name parameters inner width d a e) =
    declarator_follows (mark_at kinds p) (decorated_leads kinds p q name parameters inner d)
member_leads kinds from to whole (grammar.unnamed_bit_field p q width a e) = ap (λ k. follows_specifiers (mark k)) a

pub members_lead : (kinds : List TokenKind) (p q : Place) (xs : List Member) → AreMembers kinds p q xs → follows_specifiers (mark_at kinds p) ≡ true
members_lead kinds from to whole (grammar.one_member p q x d) = member_leads kinds p q x d
members_lead kinds from to whole (grammar.more_members p q r x xs d a e) = member_leads kinds p q x d

pub constant_leads : (kinds : List TokenKind) (p q : Place) (x : EnumConstant) → IsEnumConstant kinds p q x → is_operand (mark_at kinds p) ≡ true
constant_leads kinds from to whole (grammar.plain_constant p text a) = ap operand_at a
constant_leads kinds from to whole (grammar.valued_constant p q text value a b d) = ap operand_at a

pub constants_lead : (kinds : List TokenKind) (p q : Place) (xs : List EnumConstant) → AreEnumConstants kinds p q xs → is_operand (mark_at kinds p) ≡ true
constants_lead kinds from to whole (grammar.one_constant p q x d) = constant_leads kinds p q x d
constants_lead kinds from to whole (grammar.last_constant p q x d a) = constant_leads kinds p q x d
constants_lead kinds from to whole (grammar.more_constants p q r x xs d a e) = constant_leads kinds p q x d

-- ---- specifiers

abbrev word_at : Option TokenKind → Bool
word_at k = begins_specifiers (mark k)

pub specifier_leads : (kinds : List TokenKind) (typed : Bool) (p q : Place) (role : Role) (x : Specifier) → IsSpecifier kinds typed p q role x → begins_specifiers (mark_at kinds p) ≡ true
specifier_leads kinds typed from to role whole (grammar.storage_word t p word a) = ap word_at a ∙ ap begins_specifiers (mark-storage_sign word)
specifier_leads kinds typed from to role whole (grammar.function_word t p word a) = ap word_at a ∙ ap begins_specifiers (mark-function_sign word)
specifier_leads kinds typed from to role whole (grammar.qualifier_word t p word a) = ap word_at a ∙ ap begins_specifiers (mark-qualifier_sign word)
specifier_leads kinds typed from to role whole (grammar.base_word t p word a) = ap word_at a ∙ ap begins_specifiers (mark-base_sign word)
specifier_leads kinds typed from to role whole (grammar.type_word t p kind a) = ap word_at a
specifier_leads kinds typed from to role whole (grammar.struct_body t p q r tag lines a g b d c) = ap word_at a
specifier_leads kinds typed from to role whole (grammar.struct_tag t p tag a b) = ap word_at a
specifier_leads kinds typed from to role whole (grammar.enum_body t p q r tag constants a g b d c) = ap word_at a
specifier_leads kinds typed from to role whole (grammar.enum_tag t p tag a b) = ap word_at a
specifier_leads kinds typed from to role whole (grammar.typedef_name p text a b) = ap word_at a

pub further_leads : (kinds : List TokenKind) (typed : Bool) (p q : Place) (defines : Bool) (list : List Specifier) → AreFurther kinds typed p q defines list → begins_specifiers (mark_at kinds p) ≡ true
further_leads kinds typed from to defines whole (grammar.last_specifier t p q r role x d a e) = specifier_leads kinds t p q role x d
further_leads kinds typed from to defines whole (grammar.more_specifiers t p q r s role more x list d a f) = specifier_leads kinds t p q role x d

attributes_lead : (kinds : List TokenKind) (p q : Place) → AreAttributes kinds p q → begins_specifiers (mark_at kinds q) ≡ true → begins_specifiers (mark_at kinds p) ≡ true
attributes_lead kinds from to (grammar.no_attributes p) h = h
attributes_lead kinds from to (grammar.extension p q a d) h = ap word_at a
attributes_lead kinds from to (grammar.attribute p q r a b c d e f g) h = ap word_at a

pub specifiers_lead : (kinds : List TokenKind) (p q : Place) (defines : Bool) (list : List Specifier) → AreSpecifiers kinds p q defines list → begins_specifiers (mark_at kinds p) ≡ true
specifiers_lead kinds from to defines whole (grammar.all_specifiers p q r more list a f) = attributes_lead kinds p q a (further_leads kinds false q r more list f)

pub parameter_leads : (kinds : List TokenKind) (p q : Place) (x : Parameter) → IsParameter kinds p q x → begins_specifiers (mark_at kinds p) ≡ true
parameter_leads kinds from to whole (grammar.named_parameter p q r defines list name parameters inner d e) = specifiers_lead kinds p q defines list d
parameter_leads kinds from to whole (grammar.unnamed_parameter p q r defines list inner d e) = specifiers_lead kinds p q defines list d

pub parameters_lead : (kinds : List TokenKind) (p q : Place) (list : List Parameter) (variadic : Option ℕ) → AreParameters kinds p q list variadic → begins_specifiers (mark_at kinds p) ≡ true
parameters_lead kinds from to list variadic (grammar.one_parameter p q x d) = parameter_leads kinds p q x d
parameters_lead kinds from to list variadic (grammar.variadic_parameters p q x d a b) = parameter_leads kinds p q x d
parameters_lead kinds from to list variadic (grammar.more_parameters p q r x further dots d a e) = parameter_leads kinds p q x d

-- ---- where specifiers begin, and where they end

abbrev begins_by : Place → Option TokenKind → Bool
begins_by p k = is_start p (start k)

abbrev further_by : Bool → Place → Option TokenKind → Bool
further_by typed p k = is_further typed p (start k)

pub storage_start : (word : StorageWord) → start (Some (storage_sign word)) ≡ Word
storage_start word = start-mark (Some (storage_sign word)) ∙ ap start_marked (mark-storage_sign word)

pub function_start : (word : FunctionWord) → start (Some (function_sign word)) ≡ Word
function_start word = start-mark (Some (function_sign word)) ∙ ap start_marked (mark-function_sign word)

pub qualifier_start : (word : Qualifier) → start (Some (qualifier_sign word)) ≡ Word
qualifier_start word = start-mark (Some (qualifier_sign word)) ∙ ap start_marked (mark-qualifier_sign word)

pub base_start : (word : BaseWord) → start (Some (base_sign word)) ≡ Word
base_start word = start-mark (Some (base_sign word)) ∙ ap start_marked (mark-base_sign word)

specifier_further : (kinds : List TokenKind) (typed : Bool) (p q : Place) (role : Role) (x : Specifier) → IsSpecifier kinds typed p q role x → goes_further kinds typed p ≡ true
specifier_further kinds typed from to role whole (grammar.storage_word t p word a) = ap (further_by t p) a ∙ ap (is_further t p) (storage_start word)
specifier_further kinds typed from to role whole (grammar.function_word t p word a) = ap (further_by t p) a ∙ ap (is_further t p) (function_start word)
specifier_further kinds typed from to role whole (grammar.qualifier_word t p word a) = ap (further_by t p) a ∙ ap (is_further t p) (qualifier_start word)
specifier_further kinds typed from to role whole (grammar.base_word t p word a) = ap (further_by t p) a ∙ ap (is_further t p) (base_start word)
specifier_further kinds typed from to role whole (grammar.type_word t p kind a) = ap (further_by t p) a
specifier_further kinds typed from to role whole (grammar.struct_body t p q r tag lines a g b d c) = ap (further_by t p) a
specifier_further kinds typed from to role whole (grammar.struct_tag t p tag a b) = ap (further_by t p) a
specifier_further kinds typed from to role whole (grammar.enum_body t p q r tag constants a g b d c) = ap (further_by t p) a
specifier_further kinds typed from to role whole (grammar.enum_tag t p tag a b) = ap (further_by t p) a
specifier_further kinds typed from to role whole (grammar.typedef_name p text a b) = ap (further_by false p) a ∙ b

-- specifiers go on with a further one
pub further_further : (kinds : List TokenKind) (typed : Bool) (p q : Place) (defines : Bool) (list : List Specifier) → AreFurther kinds typed p q defines list → goes_further kinds typed p ≡ true
further_further kinds typed from to defines whole (grammar.last_specifier t p q r role x d a e) = specifier_further kinds t p q role x d
further_further kinds typed from to defines whole (grammar.more_specifiers t p q r s role more x list d a f) = specifier_further kinds t p q role x d

specifier_begins : (kinds : List TokenKind) (typed : Bool) (p q : Place) (role : Role) (x : Specifier) → IsSpecifier kinds typed p q role x → begins_type kinds p ≡ true
specifier_begins kinds typed from to role whole (grammar.storage_word t p word a) = ap (begins_by p) a ∙ ap (is_start p) (storage_start word)
specifier_begins kinds typed from to role whole (grammar.function_word t p word a) = ap (begins_by p) a ∙ ap (is_start p) (function_start word)
specifier_begins kinds typed from to role whole (grammar.qualifier_word t p word a) = ap (begins_by p) a ∙ ap (is_start p) (qualifier_start word)
specifier_begins kinds typed from to role whole (grammar.base_word t p word a) = ap (begins_by p) a ∙ ap (is_start p) (base_start word)
specifier_begins kinds typed from to role whole (grammar.type_word t p kind a) = ap (begins_by p) a
specifier_begins kinds typed from to role whole (grammar.struct_body t p q r tag lines a g b d c) = ap (begins_by p) a
specifier_begins kinds typed from to role whole (grammar.struct_tag t p tag a b) = ap (begins_by p) a
specifier_begins kinds typed from to role whole (grammar.enum_body t p q r tag constants a g b d c) = ap (begins_by p) a
specifier_begins kinds typed from to role whole (grammar.enum_tag t p tag a b) = ap (begins_by p) a
specifier_begins kinds typed from to role whole (grammar.typedef_name p text a b) = ap (begins_by p) a ∙ b

further_begins : (kinds : List TokenKind) (typed : Bool) (p q : Place) (defines : Bool) (list : List Specifier) → AreFurther kinds typed p q defines list → begins_type kinds p ≡ true
further_begins kinds typed from to defines whole (grammar.last_specifier t p q r role x d a e) = specifier_begins kinds t p q role x d
further_begins kinds typed from to defines whole (grammar.more_specifiers t p q r s role more x list d a f) = specifier_begins kinds t p q role x d

attributes_begin : (kinds : List TokenKind) (p q : Place) → AreAttributes kinds p q → begins_type kinds q ≡ true → begins_type kinds p ≡ true
attributes_begin kinds from to (grammar.no_attributes p) h = h
attributes_begin kinds from to (grammar.extension p q a d) h = ap (begins_by p) a
attributes_begin kinds from to (grammar.attribute p q r a b c d e f g) h = ap (begins_by p) a

pub specifiers_begin : (kinds : List TokenKind) (p q : Place) (defines : Bool) (list : List Specifier) → AreSpecifiers kinds p q defines list → begins_type kinds p ≡ true
specifiers_begin kinds from to defines whole (grammar.all_specifiers p q r more list a f) = attributes_begin kinds p q a (further_begins kinds false q r more list f)

no_further_by : (kinds : List TokenKind) (typed : Bool) (p : Place) (m : Mark) → mark_at kinds p ≡ m → follows_specifiers m ≡ true → EndsSpecifiers kinds typed p
    → is_further typed p (start_marked m) ≡ false
no_further_by kinds true p (sign.Name text) e h f = refl
no_further_by kinds false p (sign.Name text) e h f = f text (mark_means (kind_at kinds p) (sign.Name text) e (λ z. cc))
no_further_by kinds typed p sign.RoundOpens e h f = refl
no_further_by kinds typed p sign.Star e h f = refl
no_further_by kinds typed p sign.Semicolon e h f = refl
no_further_by kinds typed p sign.Colon e h f = refl
no_further_by kinds typed p sign.RoundCloses e h f = refl
no_further_by kinds typed p sign.Comma e h f = refl
no_further_by kinds typed p sign.SquareOpens e h f = refl
no_further_by kinds typed p _ e h f = cc

-- specifiers end there
pub no_further : (kinds : List TokenKind) (typed : Bool) (p : Place) → follows_specifiers (mark_at kinds p) ≡ true → EndsSpecifiers kinds typed p → goes_further kinds typed p ≡ false
no_further kinds typed p h f = ap (is_further typed p) (start-mark (kind_at kinds p)) ∙ no_further_by kinds typed p (mark_at kinds p) refl h f

-- ---- which marks exclude one another

pub follows_no_attribute : (m : Mark) → follows_specifiers m ≡ true → is_attribute m ≡ false
follows_no_attribute sign.Attribute h = cc
follows_no_attribute sign.Extension h = cc
follows_no_attribute _ h = refl

pub follows_no_curly : (m : Mark) → follows_specifiers m ≡ true → is_curly m ≡ false
follows_no_curly sign.CurlyOpens h = cc
follows_no_curly _ h = refl

pub begins_no_curly : (m : Mark) → begins_specifiers m ≡ true → is_curly m ≡ false
begins_no_curly sign.CurlyOpens h = cc
begins_no_curly _ h = refl

-- no attribute stands there, or one that hides what follows
pub attributes_no_curly : (kinds : List TokenKind) (p q : Place) → AreAttributes kinds p q → is_curly (mark_at kinds q) ≡ false → is_curly (mark_at kinds p) ≡ false
attributes_no_curly kinds from to (grammar.no_attributes p) h = h
attributes_no_curly kinds from to (grammar.extension p q a d) h = ap (λ k. is_curly (mark k)) a
attributes_no_curly kinds from to (grammar.attribute p q r a b c d e f g) h = ap (λ k. is_curly (mark k)) a

pub attributes_no_suffix : (kinds : List TokenKind) (p q : Place) → AreAttributes kinds p q → is_suffix (mark_at kinds q) ≡ false → is_suffix (mark_at kinds p) ≡ false
attributes_no_suffix kinds from to (grammar.no_attributes p) h = h
attributes_no_suffix kinds from to (grammar.extension p q a d) h = ap (λ k. is_suffix (mark k)) a
attributes_no_suffix kinds from to (grammar.attribute p q r a b c d e f g) h = ap (λ k. is_suffix (mark k)) a

pub extends_no_suffix : (m : Mark) → extends_declarator m ≡ false → is_suffix m ≡ false
extends_no_suffix sign.RoundOpens h = cc
extends_no_suffix sign.SquareOpens h = cc
extends_no_suffix _ h = refl

pub extends_no_attribute : (m : Mark) → extends_declarator m ≡ false → is_attribute m ≡ false
extends_no_attribute sign.Attribute h = cc
extends_no_attribute sign.Extension h = cc
extends_no_attribute _ h = refl

specifier_no_attribute : (kinds : List TokenKind) (typed : Bool) (p q : Place) (role : Role) (x : Specifier) → IsSpecifier kinds typed p q role x → is_attribute (mark_at kinds p) ≡ false
specifier_no_attribute kinds typed from to role whole (grammar.storage_word t p word a) = ap (λ k. is_attribute (mark k)) a ∙ ap is_attribute (mark-storage_sign word)
specifier_no_attribute kinds typed from to role whole (grammar.function_word t p word a) = ap (λ k. is_attribute (mark k)) a ∙ ap is_attribute (mark-function_sign word)
specifier_no_attribute kinds typed from to role whole (grammar.qualifier_word t p word a) = ap (λ k. is_attribute (mark k)) a ∙ ap is_attribute (mark-qualifier_sign word)
specifier_no_attribute kinds typed from to role whole (grammar.base_word t p word a) = ap (λ k. is_attribute (mark k)) a ∙ ap is_attribute (mark-base_sign word)
specifier_no_attribute kinds typed from to role whole (grammar.type_word t p kind a) = ap (λ k. is_attribute (mark k)) a
specifier_no_attribute kinds typed from to role whole (grammar.struct_body t p q r tag lines a g b d c) = ap (λ k. is_attribute (mark k)) a
specifier_no_attribute kinds typed from to role whole (grammar.struct_tag t p tag a b) = ap (λ k. is_attribute (mark k)) a
specifier_no_attribute kinds typed from to role whole (grammar.enum_body t p q r tag constants a g b d c) = ap (λ k. is_attribute (mark k)) a
specifier_no_attribute kinds typed from to role whole (grammar.enum_tag t p tag a b) = ap (λ k. is_attribute (mark k)) a
specifier_no_attribute kinds typed from to role whole (grammar.typedef_name p text a b) = ap (λ k. is_attribute (mark k)) a

pub further_no_attribute : (kinds : List TokenKind) (typed : Bool) (p q : Place) (defines : Bool) (list : List Specifier) → AreFurther kinds typed p q defines list → is_attribute (mark_at kinds p) ≡ false
further_no_attribute kinds typed from to defines whole (grammar.last_specifier t p q r role x d a e) = specifier_no_attribute kinds t p q role x d
further_no_attribute kinds typed from to defines whole (grammar.more_specifiers t p q r s role more x list d a f) = specifier_no_attribute kinds t p q role x d
