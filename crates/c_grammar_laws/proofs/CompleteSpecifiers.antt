-- What the tokens spell is what the reader of specifiers reads: members, constants, specifiers.
use Rattle.std.proofs.Common.{◌≡◌, ℕ, zero, suc, ◌+◌, ◌<◌, ◌≤◌, List, [], ◌∷◌, Option, Some, None, Bool, true, false, refl, ap, ◌∙◌, sym, subst, arith, inl, inr}
use Rattle.std.specs.Prelude.{◌⊎◌, if◌then◌else◌}
use Rattle.kv_num.specs.declared.types.IntType.{IntType}
use Rattle.c_tokens.specs.declared.token.TokenKind.{TokenKind}
use Rattle.c_tokens.specs.declared.token.TokenKind.TheVariants as token
use Rattle.c_tree.specs.declared.expression.StorageWord.{StorageWord}
use Rattle.c_tree.specs.declared.expression.FunctionWord.{FunctionWord}
use Rattle.c_tree.specs.declared.expression.Qualifier.{Qualifier}
use Rattle.c_tree.specs.declared.expression.BaseWord.{BaseWord}
use Rattle.c_tree.specs.declared.expression.Expression.{Expression}
use Rattle.c_tree.specs.declared.expression.Specifier.{Specifier}
use Rattle.c_tree.specs.declared.expression.Specifier.TheVariants as specifier_node
use Rattle.c_tree.specs.declared.expression.MemberLine.{MemberLine}
use Rattle.c_tree.specs.declared.expression.Member.{Member}
use Rattle.c_tree.specs.declared.expression.Member.TheVariants as member_node
use Rattle.c_tree.specs.declared.expression.EnumConstant.{EnumConstant}
use Rattle.c_tree.specs.declared.expression.EnumConstant.TheVariants as constant_node
use Rattle.c_tree.specs.declared.expression.Declarator.{Declarator}
use Rattle.c_tree.specs.declared.scope.Entry.{Entry}
use Rattle.c_tree.specs.Places.{Place, At, next, declare, IsTypedefName}
use Rattle.c_tree.specs.Signs.{storage_sign, function_sign, qualifier_sign, base_sign}
use Rattle.c_tree.specs.Spells as grammar
use Rattle.c_tree.specs.Spells.{AreAttributes, IsTag, EndsSpecifiers, Role, Types, Modifies, storage_role, types_now, defines_now}
use Rattle.c_grammar.specs.declared.kinds.Suffix.TheVariants.{Commas, NoSuffix}
use Rattle.c_grammar.specs.Kinds.{kind_at, suffix, below}
use Rattle.c_grammar.specs.Marks as sign
use Rattle.c_grammar.specs.Marks.{follows_specifiers, Mark, mark, mark_at, extends_declarator}
use Rattle.c_grammar.specs.ReadExpressions.{Outcome, Gives, Refuses, and_then, ReadsExpression}
use Rattle.c_grammar.specs.ReadTypes as rule
use Rattle.c_grammar.specs.ReadTypes.{attributes, ListOf, separated, listed, Specific, Plays, Specified, Specifies, Titled, Titles, ReadsSpecifiers, ReadsDeclarator}
use Rattle.c_grammar.specs.Readers.{read, specifiers, perhaps, declarator, struct_with, enum_with}
use Rattle.c_grammar_laws.proofs.MarkLaws.{mark-storage_sign, mark-function_sign, mark-qualifier_sign, mark-base_sign}
use Rattle.c_grammar_laws.proofs.TypeSteps.{lines_on, further_on, specifiers_on}
use Rattle.c_grammar_laws.proofs.Complete.{Enough, Reaches, exact, below_at}
use Rattle.c_grammar_laws.proofs.Leads.{is_operand, begins_declarator, begins_specifiers, is_attribute, is_curly, no_further, follows_no_attribute, follows_no_curly, begins_no_curly, attributes_no_curly}
use Rattle.c_grammar_laws.proofs.CompleteTypes.{then_on, curly_closes_on, semicolon_on, Inside, inside, ReachesAttributes, separated_one, separated_more, listed_one, listed_last, listed_more, is_curly_close}

-- ---- what is shown of each part

abbrev pub struct_at : List TokenKind → ℕ → ListOf MemberLine
struct_at kinds n = struct_with kinds (read kinds n) (specifiers kinds n) (perhaps kinds n) n

abbrev pub enum_at : List TokenKind → ℕ → ListOf EnumConstant
enum_at kinds n = enum_with kinds (read kinds n) n

abbrev pub member_at : List TokenKind → ℕ → Place → Outcome Member
member_at kinds n = rule.member kinds (read kinds n) (declarator kinds n)

abbrev pub ReachesDecorated : List TokenKind → Place → Place → Titled → Type 0
ReachesDecorated kinds p q d = (n : ℕ) → extends_declarator (mark_at kinds q) ≡ false → Enough kinds n p → (p.at < q.at) × (declarator kinds n p ≡ Gives d q)

abbrev pub ReachesSpecifiers : List TokenKind → Place → Place → Bool → List Specifier → Type 0
ReachesSpecifiers kinds p q defines list = (n : ℕ) → follows_specifiers (mark_at kinds q) ≡ true → Enough kinds n p
    → (p.at < q.at) × (specifiers kinds n p ≡ Gives (Specifies defines list) q)

abbrev pub ReachesFurther : List TokenKind → Bool → Place → Place → Bool → List Specifier → Type 0
ReachesFurther kinds typed p q defines list = (n c : ℕ) → follows_specifiers (mark_at kinds q) ≡ true → Enough kinds (suc n) p → Enough kinds c p
    → (p.at < q.at) × (rule.further kinds (struct_at kinds n) (enum_at kinds n) c typed p ≡ Gives (Specifies defines list) q)

abbrev pub ReachesSpecifier : List TokenKind → Bool → Place → Place → Role → Specifier → Type 0
ReachesSpecifier kinds typed p q role x = (n : ℕ) → is_curly (mark_at kinds q) ≡ false → Enough kinds (suc n) p
    → (p.at < q.at) × Inside kinds p × (rule.specifier_by kinds (struct_at kinds n) (enum_at kinds n) typed p (mark_at kinds p) ≡ Gives (Plays role x) q)

abbrev pub ReachesLines : List TokenKind → Place → Place → List MemberLine → Type 0
ReachesLines kinds p q xs = (n c : ℕ) → At kinds q token.RightBrace → Enough kinds n p → Enough kinds c p
    → (p.at ≤ q.at) × (rule.lines kinds (specifiers kinds n) (separated kinds (member_at kinds n) n) c p ≡ Gives xs q)

abbrev pub ReachesMembers : List TokenKind → Place → Place → List Member → Type 0
ReachesMembers kinds p q xs = (n c : ℕ) → At kinds q token.Semicolon → Enough kinds n p → Enough kinds c p
    → (p.at < q.at) × (separated kinds (member_at kinds n) c p ≡ Gives xs q)

abbrev EndsMember : List TokenKind → Place → Type 0
EndsMember kinds q = At kinds q token.Comma ⊎ At kinds q token.Semicolon

abbrev pub ReachesMember : List TokenKind → Place → Place → Member → Type 0
ReachesMember kinds p q x = (n : ℕ) → EndsMember kinds q → Enough kinds n p → (p.at < q.at) × (member_at kinds n p ≡ Gives x q)

abbrev pub ReachesConstants : List TokenKind → Place → Place → List EnumConstant → Type 0
ReachesConstants kinds p q xs = (n c : ℕ) → At kinds q token.RightBrace → Enough kinds n p → Enough kinds c p
    → (p.at < q.at) × (listed kinds (rule.constant kinds (read kinds n)) c p ≡ Gives xs q)

abbrev EndsConstant : List TokenKind → Place → Type 0
EndsConstant kinds q = At kinds q token.Comma ⊎ At kinds q token.RightBrace

abbrev pub ReachesConstant : List TokenKind → Place → Place → EnumConstant → Type 0
ReachesConstant kinds p q x = (n : ℕ) → EndsConstant kinds q → Enough kinds n p → (p.at < q.at) × (rule.constant kinds (read kinds n) p ≡ Gives x q)

-- ---- members

member_other : (kinds : List TokenKind) (rd : ReadsExpression) (dc : ReadsDeclarator) (p : Place) (m : Mark) → begins_declarator m ≡ true
    → rule.member_by kinds rd dc p m ≡ and_then (dc p) (λ d q. rule.member_after rd d q (mark_at kinds q))
member_other kinds rd dc p sign.Colon h = cc
member_other kinds rd dc p _ h = refl

pub plain_member_goes : (kinds : List TokenKind) (p q : Place) (name : List ℕ) (parameters : Option (List Entry)) (inner : Declarator) → begins_declarator (mark_at kinds p) ≡ true
    → ReachesDecorated kinds p q (Titles name parameters inner) → ReachesMember kinds p q (member_node.Plain inner)
plain_member_goes kinds p q name parameters inner l ih n (inl a) e =
    let i = ih n (ap (λ k. extends_declarator (mark k)) a) e in (
      i.0,
      member_other kinds (read kinds n) (declarator kinds n) p (mark_at kinds p) l ∙ then_on (declarator kinds n p) (Titles name parameters inner) q _ i.1
          ∙ ap (λ k. rule.member_after (read kinds n) (Titles name parameters inner) q (mark k)) a,
    )
plain_member_goes kinds p q name parameters inner l ih n (inr a) e =
    let i = ih n (ap (λ k. extends_declarator (mark k)) a) e in (
      i.0,
      member_other kinds (read kinds n) (declarator kinds n) p (mark_at kinds p) l ∙ then_on (declarator kinds n p) (Titles name parameters inner) q _ i.1
          ∙ ap (λ k. rule.member_after (read kinds n) (Titles name parameters inner) q (mark k)) a,
    )

member_below : (kinds : List TokenKind) (q : Place) → EndsMember kinds q → below (suffix (kind_at kinds q)) ≤ 2
member_below kinds q (inl a) = below_at kinds 2 q token.Comma Commas a refl (omega arith)
member_below kinds q (inr a) = below_at kinds 2 q token.Semicolon NoSuffix a refl (omega arith)

pub bit_field_goes : (kinds : List TokenKind) (p q r : Place) (name : List ℕ) (parameters : Option (List Entry)) (inner : Declarator) (width : Expression)
    → begins_declarator (mark_at kinds p) ≡ true → ReachesDecorated kinds p q (Titles name parameters inner) → At kinds q token.Colon → Reaches kinds 2 (next q) r width
    → ReachesMember kinds p r (member_node.BitField inner width q.at)
bit_field_goes kinds p q r name parameters inner width l ih a jh n ends e =
    let i = ih n (ap (λ k. extends_declarator (mark k)) a) e in
    let lt : p.at < q.at = i.0 in
    let j = exact kinds 2 (next q) r width jh n (omega arith) (member_below kinds r ends) (omega (arith, lt)) in
    let lr : q.at + 1 < r.at = j.0 in (
      omega (arith, lt, lr),
      member_other kinds (read kinds n) (declarator kinds n) p (mark_at kinds p) l ∙ then_on (declarator kinds n p) (Titles name parameters inner) q _ i.1
          ∙ ap (λ k. rule.member_after (read kinds n) (Titles name parameters inner) q (mark k)) a ∙ then_on (read kinds n 2 (next q)) width r _ j.1,
    )

pub unnamed_bit_field_goes : (kinds : List TokenKind) (p q : Place) (width : Expression) → At kinds p token.Colon → Reaches kinds 2 (next p) q width
    → ReachesMember kinds p q (member_node.UnnamedBitField width p.at)
unnamed_bit_field_goes kinds p q width a jh n ends e =
    let j = exact kinds 2 (next p) q width jh n (omega arith) (member_below kinds q ends) (omega arith) in
    let lr : p.at + 1 < q.at = j.0 in
    (omega (arith, lr), ap (λ k. rule.member_by kinds (read kinds n) (declarator kinds n) p (mark k)) a ∙ then_on (read kinds n 2 (next p)) width q _ j.1)

pub one_member_goes : (kinds : List TokenKind) (p q : Place) (x : Member) → ReachesMember kinds p q x → ReachesMembers kinds p q (x ∷ [])
one_member_goes kinds p q x ih n zero a e f = absurd (omega arith)
one_member_goes kinds p q x ih n (suc c) a e f =
    let i = ih n (inr a) e in
    (i.0, separated_one kinds (member_at kinds n) c p q x token.Semicolon i.1 a (λ more. refl))

pub more_members_goes : (kinds : List TokenKind) (p q r : Place) (x : Member) (xs : List Member) → ReachesMember kinds p q x → At kinds q token.Comma → ReachesMembers kinds (next q) r xs
    → ReachesMembers kinds p r (x ∷ xs)
more_members_goes kinds p q r x xs ih a jh n zero b e f = absurd (omega arith)
more_members_goes kinds p q r x xs ih a jh n (suc c) b e f =
    let i = ih n (inl a) e in
    let lt : p.at < q.at = i.0 in
    let w = inside kinds q token.Comma a in
    let j = jh n c b (omega (arith, lt)) (omega (arith, lt, w)) in
    let lr : q.at + 1 < r.at = j.0 in
    (omega (arith, lt, lr), separated_more kinds (member_at kinds n) c p q r x xs i.1 a j.1)

-- ---- lines

pub no_lines_goes : (kinds : List TokenKind) (p : Place) → ReachesLines kinds p p []
no_lines_goes kinds p n zero a e f = absurd (omega arith)
no_lines_goes kinds p n (suc c) a e f =
    let members = separated kinds (member_at kinds n) n in (
      omega arith,
      lines_on kinds (specifiers kinds n) members c p
          ∙ ap (λ k. rule.lines_by kinds (specifiers kinds n) members (rule.lines kinds (specifiers kinds n) members c) p (mark k)) a,
    )

lines_other : (kinds : List TokenKind) (sp : ReadsSpecifiers) (members : ListOf Member) (more : ListOf MemberLine) (p : Place) (m : Mark) → begins_specifiers m ≡ true
    → rule.lines_by kinds sp members more p m ≡ and_then (sp p) (rule.line_after kinds members more)
lines_other kinds sp members more p sign.CurlyCloses h = cc
lines_other kinds sp members more p _ h = refl

pub more_lines_goes : (kinds : List TokenKind) (p q r s : Place) (defines : Bool) (list : List Specifier) (xs : List Member) (lines : List MemberLine) → begins_specifiers (mark_at kinds p) ≡ true
    → ReachesSpecifiers kinds p q defines list → follows_specifiers (mark_at kinds q) ≡ true → ReachesMembers kinds q r xs → At kinds r token.Semicolon → ReachesLines kinds (next r) s lines
    → ReachesLines kinds p s (record { specifiers = list; members = xs } ∷ lines)
more_lines_goes kinds p q r s defines list xs lines l ih g jh a kh n zero b e f = absurd (omega arith)
more_lines_goes kinds p q r s defines list xs lines l ih g jh a kh n (suc c) b e f =
    let members = separated kinds (member_at kinds n) n in
    let further = rule.lines kinds (specifiers kinds n) members c in
    let i = ih n g e in
    let lt : p.at < q.at = i.0 in
    let j = jh n n a (omega (arith, lt)) (omega (arith, lt)) in
    let lr : q.at < r.at = j.0 in
    let w = inside kinds r token.Semicolon a in
    let k = kh n c b (omega (arith, lt, lr)) (omega (arith, lt, lr, w)) in
    let ls : r.at + 1 ≤ s.at = k.0 in (
      omega (arith, lt, lr, ls),
      lines_on kinds (specifiers kinds n) members c p ∙ lines_other kinds (specifiers kinds n) members further p (mark_at kinds p) l
          ∙ then_on (specifiers kinds n p) (Specifies defines list) q _ i.1 ∙ then_on (members q) xs r _ j.1 ∙ semicolon_on kinds r _ a ∙ then_on (further (next r)) lines s _ k.1,
    )

-- ---- enumeration constants

pub plain_constant_goes : (kinds : List TokenKind) (p : Place) (text : List ℕ) → At kinds p (token.Name text)
    → ReachesConstant kinds p (declare (next p) text false) (constant_node.Next text p.at)
plain_constant_goes kinds p text a n (inl b) e =
    (omega arith, ap (λ k. rule.constant_by kinds (read kinds n) p (mark k)) a ∙ ap (λ k. rule.constant_after (read kinds n) text p (mark k)) b)
plain_constant_goes kinds p text a n (inr b) e =
    (omega arith, ap (λ k. rule.constant_by kinds (read kinds n) p (mark k)) a ∙ ap (λ k. rule.constant_after (read kinds n) text p (mark k)) b)

constant_below : (kinds : List TokenKind) (q : Place) → EndsConstant kinds q → below (suffix (kind_at kinds q)) ≤ 2
constant_below kinds q (inl a) = below_at kinds 2 q token.Comma Commas a refl (omega arith)
constant_below kinds q (inr a) = below_at kinds 2 q token.RightBrace NoSuffix a refl (omega arith)

pub valued_constant_goes : (kinds : List TokenKind) (p q : Place) (text : List ℕ) (value : Expression) → At kinds p (token.Name text) → At kinds (next p) token.Equal
    → Reaches kinds 2 (next (next p)) q value → ReachesConstant kinds p (declare q text false) (constant_node.Valued text value p.at)
valued_constant_goes kinds p q text value a b jh n ends e =
    let j = exact kinds 2 (next (next p)) q value jh n (omega arith) (constant_below kinds q ends) (omega arith) in
    let lr : p.at + 1 + 1 < q.at = j.0 in (
      omega (arith, lr),
      ap (λ k. rule.constant_by kinds (read kinds n) p (mark k)) a ∙ ap (λ k. rule.constant_after (read kinds n) text p (mark k)) b
          ∙ then_on (read kinds n 2 (next (next p))) value q _ j.1,
    )

pub one_constant_goes : (kinds : List TokenKind) (p q : Place) (x : EnumConstant) → ReachesConstant kinds p q x → ReachesConstants kinds p q (x ∷ [])
one_constant_goes kinds p q x ih n zero a e f = absurd (omega arith)
one_constant_goes kinds p q x ih n (suc c) a e f =
    let i = ih n (inr a) e in
    (i.0, listed_one kinds (rule.constant kinds (read kinds n)) c p q x i.1 a)

pub last_constant_goes : (kinds : List TokenKind) (p q : Place) (x : EnumConstant) → ReachesConstant kinds p q x → At kinds q token.Comma → ReachesConstants kinds p (next q) (x ∷ [])
last_constant_goes kinds p q x ih b n zero a e f = absurd (omega arith)
last_constant_goes kinds p q x ih b n (suc c) a e f =
    let i = ih n (inl b) e in
    let lt : p.at < q.at = i.0 in
    (omega (arith, lt), listed_last kinds (rule.constant kinds (read kinds n)) c p q x i.1 b a)

pub operand_no_close : (m : Mark) → is_operand m ≡ true → is_curly_close m ≡ false
operand_no_close sign.CurlyCloses h = cc
operand_no_close _ h = refl

pub more_constants_goes : (kinds : List TokenKind) (p q r : Place) (x : EnumConstant) (xs : List EnumConstant) → ReachesConstant kinds p q x → At kinds q token.Comma
    → is_operand (mark_at kinds (next q)) ≡ true → ReachesConstants kinds (next q) r xs → ReachesConstants kinds p r (x ∷ xs)
more_constants_goes kinds p q r x xs ih b l jh n zero a e f = absurd (omega arith)
more_constants_goes kinds p q r x xs ih b l jh n (suc c) a e f =
    let i = ih n (inl b) e in
    let lt : p.at < q.at = i.0 in
    let w = inside kinds q token.Comma b in
    let j = jh n c a (omega (arith, lt)) (omega (arith, lt, w)) in
    let lr : q.at + 1 < r.at = j.0 in
    (omega (arith, lt, lr), listed_more kinds (rule.constant kinds (read kinds n)) c p q r x xs i.1 b (operand_no_close (mark_at kinds (next q)) l) j.1)

-- ---- a specifier

abbrev ByMark : List TokenKind → ℕ → Bool → Place → Mark → Outcome Specific
ByMark kinds n typed p m = rule.specifier_by kinds (struct_at kinds n) (enum_at kinds n) typed p m

pub storage_goes : (kinds : List TokenKind) (typed : Bool) (p : Place) (word : StorageWord) → At kinds p (storage_sign word)
    → ReachesSpecifier kinds typed p (next p) (storage_role word) (specifier_node.Storage word p.at)
storage_goes kinds typed p word a n f e =
    let m : mark_at kinds p ≡ sign.Stores word = ap mark a ∙ mark-storage_sign word in (omega arith, inside kinds p (storage_sign word) a, ap (ByMark kinds n typed p) m)

pub function_goes : (kinds : List TokenKind) (typed : Bool) (p : Place) (word : FunctionWord) → At kinds p (function_sign word)
    → ReachesSpecifier kinds typed p (next p) Modifies (specifier_node.Function word p.at)
function_goes kinds typed p word a n f e =
    let m : mark_at kinds p ≡ sign.Functions word = ap mark a ∙ mark-function_sign word in (omega arith, inside kinds p (function_sign word) a, ap (ByMark kinds n typed p) m)

pub qualifier_goes : (kinds : List TokenKind) (typed : Bool) (p : Place) (word : Qualifier) → At kinds p (qualifier_sign word)
    → ReachesSpecifier kinds typed p (next p) Modifies (specifier_node.Qualified word p.at)
qualifier_goes kinds typed p word a n f e =
    let m : mark_at kinds p ≡ sign.Qualifies word = ap mark a ∙ mark-qualifier_sign word in (omega arith, inside kinds p (qualifier_sign word) a, ap (ByMark kinds n typed p) m)

pub base_goes : (kinds : List TokenKind) (typed : Bool) (p : Place) (word : BaseWord) → At kinds p (base_sign word)
    → ReachesSpecifier kinds typed p (next p) Types (specifier_node.Base word p.at)
base_goes kinds typed p word a n f e =
    let m : mark_at kinds p ≡ sign.Bases word = ap mark a ∙ mark-base_sign word in (omega arith, inside kinds p (base_sign word) a, ap (ByMark kinds n typed p) m)

pub type_word_goes : (kinds : List TokenKind) (typed : Bool) (p : Place) (kind : IntType) → At kinds p (token.TypeWord kind)
    → ReachesSpecifier kinds typed p (next p) Types (specifier_node.TypeWord kind p.at)
type_word_goes kinds typed p kind a n f e = (omega arith, inside kinds p (token.TypeWord kind) a, ap (λ k. ByMark kinds n typed p (mark k)) a)

pub typedef_goes : (kinds : List TokenKind) (p : Place) (text : List ℕ) → At kinds p (token.Name text) → IsTypedefName p text
    → ReachesSpecifier kinds false p (next p) Types (specifier_node.TypedefName text p.at)
typedef_goes kinds p text a b n f e = (
  omega arith,
  inside kinds p (token.Name text) a,
  ap (λ k. ByMark kinds n false p (mark k)) a
      ∙ ap (λ c. if c then Gives (Plays Types (specifier_node.TypedefName text p.at)) (next p) else Refuses) b,
)

-- the word and the tag
abbrev StructHeaded : List TokenKind → Place → Place → Option (List ℕ) → Type 0
StructHeaded kinds p q tag = (p.at + 1 ≤ q.at) × ((body : ListOf MemberLine) → rule.struct_by kinds body p (mark_at kinds (next p)) ≡ rule.struct_body kinds body p tag q)

struct_headed_by : (kinds : List TokenKind) (p o q : Place) (tag : Option (List ℕ)) → o ≡ next p → IsTag kinds o q tag → At kinds q token.LeftBrace → StructHeaded kinds p q tag
struct_headed_by kinds p from to whole e (grammar.no_tag o) c =
    let b : At kinds (next p) token.LeftBrace = subst (λ z. At kinds z token.LeftBrace) e c in
    let s : next p ≡ o = sym e in
    subst (λ z. StructHeaded kinds p z None) s (omega arith, λ body. ap (λ k. rule.struct_by kinds body p (mark k)) b)
struct_headed_by kinds p from to whole e (grammar.tag o text a) c =
    let b : At kinds (next p) (token.Name text) = subst (λ z. At kinds z (token.Name text)) e a in
    let d : At kinds (next (next p)) token.LeftBrace = subst (λ z. At kinds (next z) token.LeftBrace) e c in
    let s : next p ≡ o = sym e in
    subst (λ z. StructHeaded kinds p (next z) (Some text)) s
    (omega arith, λ body. ap (λ k. rule.struct_by kinds body p (mark k)) b ∙ ap (λ k. rule.struct_tagged kinds body p text (next (next p)) (mark k)) d)

pub struct_body_goes : (kinds : List TokenKind) (typed : Bool) (p q r : Place) (tag : Option (List ℕ)) (lines : List MemberLine) → At kinds p token.Struct → IsTag kinds (next p) q tag
    → At kinds q token.LeftBrace → ReachesLines kinds (next q) r lines → At kinds r token.RightBrace
    → ReachesSpecifier kinds typed p (next r) Types (specifier_node.Struct tag lines p.at)
struct_body_goes kinds typed p q r tag lines a g b jh c n f e =
    let w = inside kinds p token.Struct a in
    let h = struct_headed_by kinds p (next p) q tag refl g b in
    let lt : p.at + 1 ≤ q.at = h.0 in
    let j = jh n n c (omega (arith, lt, w)) (omega (arith, lt, w)) in
    let lr : q.at + 1 ≤ r.at = j.0 in
    (omega (arith, lt, lr), w, ap (λ k. ByMark kinds n typed p (mark k)) a ∙ h.1 (struct_at kinds n) ∙ then_on (struct_at kinds n (next q)) lines r _ j.1 ∙ curly_closes_on kinds r _ c)

struct_plain : (kinds : List TokenKind) (body : ListOf MemberLine) (p : Place) (tag : List ℕ) (q : Place) (m : Mark) → is_curly m ≡ false
    → rule.struct_tagged kinds body p tag q m ≡ Gives (Plays Types (specifier_node.StructTag tag p.at)) q
struct_plain kinds body p tag q sign.CurlyOpens h = cc
struct_plain kinds body p tag q _ h = refl

pub struct_tag_goes : (kinds : List TokenKind) (typed : Bool) (p : Place) (tag : List ℕ) → At kinds p token.Struct → At kinds (next p) (token.Name tag)
    → ReachesSpecifier kinds typed p (next (next p)) Types (specifier_node.StructTag tag p.at)
struct_tag_goes kinds typed p tag a b n f e = (
  omega arith,
  inside kinds p token.Struct a,
  ap (λ k. ByMark kinds n typed p (mark k)) a ∙ ap (λ k. rule.struct_by kinds (struct_at kinds n) p (mark k)) b
      ∙ struct_plain kinds (struct_at kinds n) p tag (next (next p)) (mark_at kinds (next (next p))) f,
)

abbrev EnumHeaded : List TokenKind → Place → Place → Option (List ℕ) → Type 0
EnumHeaded kinds p q tag = (p.at + 1 ≤ q.at) × ((body : ListOf EnumConstant) → rule.enum_by kinds body p (mark_at kinds (next p)) ≡ rule.enum_body kinds body p tag q)

enum_headed_by : (kinds : List TokenKind) (p o q : Place) (tag : Option (List ℕ)) → o ≡ next p → IsTag kinds o q tag → At kinds q token.LeftBrace → EnumHeaded kinds p q tag
enum_headed_by kinds p from to whole e (grammar.no_tag o) c =
    let b : At kinds (next p) token.LeftBrace = subst (λ z. At kinds z token.LeftBrace) e c in
    let s : next p ≡ o = sym e in
    subst (λ z. EnumHeaded kinds p z None) s (omega arith, λ body. ap (λ k. rule.enum_by kinds body p (mark k)) b)
enum_headed_by kinds p from to whole e (grammar.tag o text a) c =
    let b : At kinds (next p) (token.Name text) = subst (λ z. At kinds z (token.Name text)) e a in
    let d : At kinds (next (next p)) token.LeftBrace = subst (λ z. At kinds (next z) token.LeftBrace) e c in
    let s : next p ≡ o = sym e in
    subst (λ z. EnumHeaded kinds p (next z) (Some text)) s
    (omega arith, λ body. ap (λ k. rule.enum_by kinds body p (mark k)) b ∙ ap (λ k. rule.enum_tagged kinds body p text (next (next p)) (mark k)) d)

pub enum_body_goes : (kinds : List TokenKind) (typed : Bool) (p q r : Place) (tag : Option (List ℕ)) (xs : List EnumConstant) → At kinds p token.Enum → IsTag kinds (next p) q tag
    → At kinds q token.LeftBrace → ReachesConstants kinds (next q) r xs → At kinds r token.RightBrace
    → ReachesSpecifier kinds typed p (next r) Types (specifier_node.Enum tag xs p.at)
enum_body_goes kinds typed p q r tag xs a g b jh c n f e =
    let w = inside kinds p token.Enum a in
    let h = enum_headed_by kinds p (next p) q tag refl g b in
    let lt : p.at + 1 ≤ q.at = h.0 in
    let j = jh n n c (omega (arith, lt, w)) (omega (arith, lt, w)) in
    let lr : q.at + 1 < r.at = j.0 in
    (omega (arith, lt, lr), w, ap (λ k. ByMark kinds n typed p (mark k)) a ∙ h.1 (enum_at kinds n) ∙ then_on (enum_at kinds n (next q)) xs r _ j.1 ∙ curly_closes_on kinds r _ c)

enum_plain : (kinds : List TokenKind) (body : ListOf EnumConstant) (p : Place) (tag : List ℕ) (q : Place) (m : Mark) → is_curly m ≡ false
    → rule.enum_tagged kinds body p tag q m ≡ Gives (Plays Types (specifier_node.EnumTag tag p.at)) q
enum_plain kinds body p tag q sign.CurlyOpens h = cc
enum_plain kinds body p tag q _ h = refl

pub enum_tag_goes : (kinds : List TokenKind) (typed : Bool) (p : Place) (tag : List ℕ) → At kinds p token.Enum → At kinds (next p) (token.Name tag)
    → ReachesSpecifier kinds typed p (next (next p)) Types (specifier_node.EnumTag tag p.at)
enum_tag_goes kinds typed p tag a b n f e = (
  omega arith,
  inside kinds p token.Enum a,
  ap (λ k. ByMark kinds n typed p (mark k)) a ∙ ap (λ k. rule.enum_by kinds (enum_at kinds n) p (mark k)) b
      ∙ enum_plain kinds (enum_at kinds n) p tag (next (next p)) (mark_at kinds (next (next p))) f,
)

-- ---- specifiers

pub last_specifier_goes : (kinds : List TokenKind) (typed : Bool) (p q r : Place) (role : Role) (x : Specifier) → ReachesSpecifier kinds typed p q role x → AreAttributes kinds q r
    → ReachesAttributes kinds q r → EndsSpecifiers kinds (types_now typed role) r → ReachesFurther kinds typed p r (defines_now role false) (x ∷ [])
last_specifier_goes kinds typed p q r role x ih d jh ends n zero f e g = absurd (omega arith)
last_specifier_goes kinds typed p q r role x ih d jh ends n (suc c) f e g =
    let i = ih n (attributes_no_curly kinds q r d (follows_no_curly (mark_at kinds r) f)) e in
    let lt : p.at < q.at = i.0 in
    let w : Inside kinds p = i.1 in
    let j = jh c (follows_no_attribute (mark_at kinds r) f) (omega (arith, lt, w)) in
    let le : q.at ≤ r.at = j.0 in
    let now = types_now typed role in
    let go = rule.further kinds (struct_at kinds n) (enum_at kinds n) c in (
      omega (arith, lt, le),
      further_on kinds (struct_at kinds n) (enum_at kinds n) c typed p ∙ then_on (ByMark kinds n typed p (mark_at kinds p)) (Plays role x) q _ i.2
          ∙ then_on (attributes kinds c q) tt r _ j.1 ∙ ap (rule.further_by go now role x r) (no_further kinds now r f ends),
    )

pub more_specifiers_goes : (kinds : List TokenKind) (typed : Bool) (p q r s : Place) (role : Role) (defines : Bool) (x : Specifier) (list : List Specifier) → ReachesSpecifier kinds typed p q role x
    → AreAttributes kinds q r → ReachesAttributes kinds q r → begins_specifiers (mark_at kinds r) ≡ true → is_attribute (mark_at kinds r) ≡ false
    → rule.goes_further kinds (types_now typed role) r ≡ true → ReachesFurther kinds (types_now typed role) r s defines list
    → ReachesFurther kinds typed p s (defines_now role defines) (x ∷ list)
more_specifiers_goes kinds typed p q r s role defines x list ih d jh l plain goes kh n zero f e g = absurd (omega arith)
more_specifiers_goes kinds typed p q r s role defines x list ih d jh l plain goes kh n (suc c) f e g =
    let i = ih n (attributes_no_curly kinds q r d (begins_no_curly (mark_at kinds r) l)) e in
    let lt : p.at < q.at = i.0 in
    let w : Inside kinds p = i.1 in
    let j = jh c plain (omega (arith, lt, w)) in
    let le : q.at ≤ r.at = j.0 in
    let k = kh n c f (omega (arith, lt, le)) (omega (arith, lt, le, w)) in
    let ls : r.at < s.at = k.0 in
    let now = types_now typed role in
    let go = rule.further kinds (struct_at kinds n) (enum_at kinds n) c in (
      omega (arith, lt, le, ls),
      further_on kinds (struct_at kinds n) (enum_at kinds n) c typed p ∙ then_on (ByMark kinds n typed p (mark_at kinds p)) (Plays role x) q _ i.2
          ∙ then_on (attributes kinds c q) tt r _ j.1 ∙ ap (rule.further_by go now role x r) goes ∙ then_on (go now r) (Specifies defines list) s _ k.1,
    )

pub all_specifiers_goes : (kinds : List TokenKind) (p q r : Place) (defines : Bool) (list : List Specifier) → ReachesAttributes kinds p q → is_attribute (mark_at kinds q) ≡ false
    → ReachesFurther kinds false q r defines list → ReachesSpecifiers kinds p r defines list
all_specifiers_goes kinds p q r defines list ih plain jh zero f e = absurd (omega arith)
all_specifiers_goes kinds p q r defines list ih plain jh (suc n) f e =
    let i = ih (suc n) plain e in
    let le : p.at ≤ q.at = i.0 in
    let j = jh n (suc n) f (omega (arith, le)) (omega (arith, le)) in
    let lr : q.at < r.at = j.0 in
    (omega (arith, le, lr), specifiers_on kinds n p ∙ then_on (attributes kinds (suc n) p) tt q _ i.1 ∙ j.1)
