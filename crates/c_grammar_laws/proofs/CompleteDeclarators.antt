-- What the tokens spell is what the reader of declarators and type names reads.
use Rattle.std.proofs.Common.{◌≡◌, ℕ, zero, suc, ◌+◌, ◌<◌, ◌≤◌, List, [], ◌∷◌, Option, Some, None, Bool, true, false, refl, ap, ◌∙◌, sym, subst, arith, inl, inr}
use Rattle.std.specs.Prelude.{◌⊎◌, if◌then◌else◌}
use Rattle.c_tokens.specs.declared.token.TokenKind.{TokenKind}
use Rattle.c_tokens.specs.declared.token.TokenKind.TheVariants as token
use Rattle.c_tree.specs.declared.expression.Qualifier.{Qualifier}
use Rattle.c_tree.specs.declared.expression.Expression.{Expression}
use Rattle.c_tree.specs.declared.expression.Specifier.{Specifier}
use Rattle.c_tree.specs.declared.expression.Declarator.{Declarator}
use Rattle.c_tree.specs.declared.expression.Declarator.TheVariants as declarator_node
use Rattle.c_tree.specs.declared.expression.Parameter.{Parameter}
use Rattle.c_tree.specs.declared.scope.Entry.{Entry}
use Rattle.c_tree.specs.Places.{Place, At, next, declare, enter, leave, first_of}
use Rattle.c_tree.specs.Spells as grammar
use Rattle.c_tree.specs.Spells.{AreAttributes, IsUnnamed, AreArrays, nearest, Unnamed, InParameter, InTypeName, may_all_qualify}
use Rattle.c_grammar.specs.declared.kinds.Suffix.TheVariants.{NoSuffix}
use Rattle.c_grammar.specs.Kinds.{begins_type}
use Rattle.c_grammar.specs.Marks as sign
use Rattle.c_grammar.specs.Marks.{follows_specifiers, Mark, mark, mark_at, extends_declarator}
use Rattle.c_grammar.specs.ReadExpressions.{Outcome, Gives, Refuses, and_then, ReadsExpression}
use Rattle.c_grammar.specs.ReadTypes as rule
use Rattle.c_grammar.specs.ReadTypes.{attributes, ListOf, Specified, Specifies, Titled, Titles, Takes, Taken, Perhaps, With, Without, Suffixes, qualifiers}
use Rattle.c_grammar.specs.Readers.{read, specifiers, perhaps, declarator}
use Rattle.c_grammar_laws.proofs.Steps.{then_gives}
use Rattle.c_grammar_laws.proofs.TypeSteps.{suffixes_on, parameters_on, arrays_on, unnamed_on, perhaps_on}
use Rattle.c_grammar_laws.proofs.Complete.{Enough, Reaches, ReachesType, exact, below_at}
use Rattle.c_grammar_laws.proofs.Leads.{is_operand, begins_declarator, begins_specifiers, is_suffix, declarator_follows, extends_no_suffix, extends_no_attribute, attributes_no_suffix}
use Rattle.c_grammar_laws.proofs.CompleteTypes.{then_on, closes_on, square_closes_on, inside, ReachesAttributes, ReachesQualifiers, is_qualifier}
use Rattle.c_grammar_laws.proofs.CompleteSpecifiers.{ReachesDecorated, ReachesSpecifiers}

-- ---- what is shown of each part

abbrev pub parameter_at : List TokenKind → ℕ → Place → Outcome Parameter
parameter_at kinds n = rule.parameter (attributes kinds n) (specifiers kinds n) (perhaps kinds n)

abbrev pub suffixes_at : List TokenKind → ℕ → ℕ → Suffixes
suffixes_at kinds n c = rule.suffixes kinds (read kinds n) (rule.parameters kinds (parameter_at kinds n) n) c

abbrev pub ReachesDeclarator : List TokenKind → Place → Place → Titled → Type 0
ReachesDeclarator kinds p q d = (n : ℕ) → is_suffix (mark_at kinds q) ≡ false → Enough kinds n p → (p.at < q.at) × (perhaps kinds n p ≡ Gives (With d) q)

abbrev pub ReachesDirect : List TokenKind → Place → Place → Titled → Type 0
ReachesDirect kinds p q d = (n : ℕ) → Enough kinds (suc n) p
    → (c : ℕ) × Enough kinds c q × (p.at < q.at) × (perhaps kinds (suc n) p ≡ and_then (suffixes_at kinds n c d q) rule.titled)

abbrev pub ReachesParameters : List TokenKind → Place → Place → List Parameter → Option ℕ → Type 0
ReachesParameters kinds p q list variadic = (n c : ℕ) → At kinds q token.RightParenthesis → Enough kinds n p → Enough kinds c p
    → (p.at < q.at) × (rule.parameters kinds (parameter_at kinds n) c p ≡ Gives (Taken list variadic) q)

abbrev pub EndsParameter : List TokenKind → Place → Type 0
EndsParameter kinds q = At kinds q token.Comma ⊎ At kinds q token.RightParenthesis

abbrev pub ReachesParameter : List TokenKind → Place → Place → Parameter → Type 0
ReachesParameter kinds p q x = (n : ℕ) → EndsParameter kinds q → Enough kinds n p → (p.at < q.at) × (parameter_at kinds n p ≡ Gives x q)

abbrev pub ReachesUnnamed : List TokenKind → Unnamed → Place → Place → Declarator → Type 0
ReachesUnnamed kinds InParameter p q inner = (n : ℕ) → EndsParameter kinds q → Enough kinds n p → (p.at ≤ q.at) × (perhaps kinds n p ≡ Gives (Without inner) q)
ReachesUnnamed kinds InTypeName p q inner = (n c : ℕ) → At kinds q token.RightParenthesis → Enough kinds n p → Enough kinds c p
    → (p.at ≤ q.at) × (rule.unnamed kinds (read kinds n) c p ≡ Gives inner q)

abbrev pub ReachesArrays : List TokenKind → Place → Place → Declarator → Type 0
ReachesArrays kinds p q inner = (n c : ℕ) → Enough kinds n p → Enough kinds c p
    → (m : ℕ) × Enough kinds m q × (p.at ≤ q.at) × (rule.arrays kinds (read kinds n) c (declarator_node.Unnamed p.at) p ≡ rule.arrays kinds (read kinds n) m inner q)

abbrev ByMark : List TokenKind → ℕ → Place → Mark → Outcome Perhaps
ByMark kinds n p m = rule.perhaps_with kinds (read kinds n) (specifiers kinds n) (perhaps kinds n) n p m

perhaps_at : (kinds : List TokenKind) (n : ℕ) (p : Place) (kind : TokenKind) → At kinds p kind → perhaps kinds (suc n) p ≡ ByMark kinds n p (mark (Some kind))
perhaps_at kinds n p kind a = perhaps_on kinds n p ∙ ap (λ k. ByMark kinds n p (mark k)) a

-- ---- direct declarators

pub name_goes : (kinds : List TokenKind) (p : Place) (text : List ℕ) → At kinds p (token.Name text) → ReachesDirect kinds p (next p) (Titles text None (declarator_node.Name text p.at))
name_goes kinds p text a n e = (n, omega (arith, inside kinds p (token.Name text) a), omega arith, perhaps_at kinds n p (token.Name text) a)

pub brackets_goes : (kinds : List TokenKind) (p q : Place) (d : Titled) → At kinds p token.LeftParenthesis → ReachesDecorated kinds (next p) q d → At kinds q token.RightParenthesis
    → ReachesDirect kinds p (next q) d
brackets_goes kinds p q d a ih c n e =
    let w = inside kinds p token.LeftParenthesis a in
    let i = ih n (ap (λ k. extends_declarator (mark k)) c) (omega (arith, w)) in
    let lt : p.at + 1 < q.at = i.0 in
    (n, omega (arith, lt, w), omega (arith, lt), perhaps_at kinds n p token.LeftParenthesis a ∙ then_on (declarator kinds n (next p)) d q _ i.1 ∙ closes_on kinds q _ c)

array_sized : (kinds : List TokenKind) (rd : ReadsExpression) (go : Suffixes) (name : List ℕ) (parameters : Option (List Entry)) (inner : Declarator) (q : Place) (m : Mark) → is_operand m ≡ true
    → rule.array_by kinds rd go (Titles name parameters inner) q m
    ≡ and_then (rd 2 (next q)) (λ size r. rule.where_square_closes (mark_at kinds r) (go (Titles name parameters (declarator_node.Array inner size q.at)) (next r)))
array_sized kinds rd go name parameters inner q sign.SquareCloses h = cc
array_sized kinds rd go name parameters inner q _ h = refl

suffix_step : (kinds : List TokenKind) (n c : ℕ) (d : Titled) (q : Place) (kind : TokenKind) → At kinds q kind
    → suffixes_at kinds n (suc c) d q ≡ rule.suffixes_by kinds (read kinds n) (rule.parameters kinds (parameter_at kinds n) n) (suffixes_at kinds n c) d q (mark (Some kind))
suffix_step kinds n c d q kind a =
    suffixes_on kinds (read kinds n) (rule.parameters kinds (parameter_at kinds n) n) c d q
    ∙ ap (λ k. rule.suffixes_by kinds (read kinds n) (rule.parameters kinds (parameter_at kinds n) n) (suffixes_at kinds n c) d q (mark k)) a

-- what a suffix does with the counts that are left
abbrev Suffixed : List TokenKind → Place → Place → Titled → Place → Titled → Type 0
Suffixed kinds p q d r e = (n c : ℕ) → Enough kinds (suc n) p → p.at < q.at → Enough kinds c q
    → (m : ℕ) × Enough kinds m r × (p.at < r.at) × (suffixes_at kinds n c d q ≡ suffixes_at kinds n m e r)

suffix_goes : (kinds : List TokenKind) (p q r : Place) (d e : Titled) → ReachesDirect kinds p q d → Suffixed kinds p q d r e → ReachesDirect kinds p r e
suffix_goes kinds p q r d e ih s n f =
    let i = ih n f in
    let j = s n i.0 f i.2 i.1 in
    (j.0, j.1, j.2, i.3 ∙ ap (λ o. and_then o rule.titled) j.3)

array_suffixed : (kinds : List TokenKind) (p q r : Place) (name : List ℕ) (parameters : Option (List Entry)) (inner : Declarator) (size : Expression) → At kinds q token.LeftBracket
    → is_operand (mark_at kinds (next q)) ≡ true → Reaches kinds 2 (next q) r size → At kinds r token.RightBracket
    → Suffixed kinds p q (Titles name parameters inner) (next r) (Titles name parameters (declarator_node.Array inner size q.at))
array_suffixed kinds p q r name parameters inner size a l jh b n zero e lt f = absurd (omega arith)
array_suffixed kinds p q r name parameters inner size a l jh b n (suc c) e lt f =
    let w = inside kinds q token.LeftBracket a in
    let j = exact kinds 2 (next q) r size jh n (omega arith) (below_at kinds 2 r token.RightBracket NoSuffix b refl (omega arith)) (omega (arith, lt, w)) in
    let lr : q.at + 1 < r.at = j.0 in (
      c,
      omega (arith, lr, w),
      omega (arith, lt, lr),
      suffix_step kinds n c (Titles name parameters inner) q token.LeftBracket a
          ∙ array_sized kinds (read kinds n) (suffixes_at kinds n c) name parameters inner q (mark_at kinds (next q)) l ∙ then_on (read kinds n 2 (next q)) size r _ j.1
          ∙ square_closes_on kinds r _ b,
    )

pub array_goes : (kinds : List TokenKind) (p q r : Place) (name : List ℕ) (parameters : Option (List Entry)) (inner : Declarator) (size : Expression)
    → ReachesDirect kinds p q (Titles name parameters inner) → At kinds q token.LeftBracket → is_operand (mark_at kinds (next q)) ≡ true → Reaches kinds 2 (next q) r size → At kinds r token.RightBracket
    → ReachesDirect kinds p (next r) (Titles name parameters (declarator_node.Array inner size q.at))
array_goes kinds p q r name parameters inner size ih a l jh b =
    suffix_goes kinds p q (next r) (Titles name parameters inner) (Titles name parameters (declarator_node.Array inner size q.at)) ih (array_suffixed kinds p q r name parameters inner size a l jh b)

open_array_suffixed : (kinds : List TokenKind) (p q : Place) (name : List ℕ) (parameters : Option (List Entry)) (inner : Declarator) → At kinds q token.LeftBracket
    → At kinds (next q) token.RightBracket → Suffixed kinds p q (Titles name parameters inner) (next (next q)) (Titles name parameters (declarator_node.OpenArray inner q.at))
open_array_suffixed kinds p q name parameters inner a b n zero e lt f = absurd (omega arith)
open_array_suffixed kinds p q name parameters inner a b n (suc c) e lt f =
    let w = inside kinds q token.LeftBracket a in (
      c,
      omega (arith, w),
      omega (arith, lt),
      suffix_step kinds n c (Titles name parameters inner) q token.LeftBracket a
          ∙ ap (λ k. rule.array_by kinds (read kinds n) (suffixes_at kinds n c) (Titles name parameters inner) q (mark k)) b,
    )

pub open_array_goes : (kinds : List TokenKind) (p q : Place) (name : List ℕ) (parameters : Option (List Entry)) (inner : Declarator) → ReachesDirect kinds p q (Titles name parameters inner)
    → At kinds q token.LeftBracket → At kinds (next q) token.RightBracket
    → ReachesDirect kinds p (next (next q)) (Titles name parameters (declarator_node.OpenArray inner q.at))
open_array_goes kinds p q name parameters inner ih a b =
    suffix_goes kinds p q (next (next q)) (Titles name parameters inner) (Titles name parameters (declarator_node.OpenArray inner q.at)) ih (open_array_suffixed kinds p q name parameters inner a b)

function_empty_suffixed : (kinds : List TokenKind) (p q : Place) (name : List ℕ) (parameters : Option (List Entry)) (inner : Declarator) → At kinds q token.LeftParenthesis
    → At kinds (next q) token.RightParenthesis
    → Suffixed kinds p q (Titles name parameters inner) (next (next q)) (Titles name (nearest parameters []) (declarator_node.Function inner [] None q.at))
function_empty_suffixed kinds p q name parameters inner a b n zero e lt f = absurd (omega arith)
function_empty_suffixed kinds p q name parameters inner a b n (suc c) e lt f =
    let w = inside kinds q token.LeftParenthesis a in (
      c,
      omega (arith, w),
      omega (arith, lt),
      suffix_step kinds n c (Titles name parameters inner) q token.LeftParenthesis a
          ∙ ap (λ k. rule.function_by kinds (rule.parameters kinds (parameter_at kinds n) n) (suffixes_at kinds n c) (Titles name parameters inner) q (mark k)) b,
    )

pub function_empty_goes : (kinds : List TokenKind) (p q : Place) (name : List ℕ) (parameters : Option (List Entry)) (inner : Declarator) → ReachesDirect kinds p q (Titles name parameters inner)
    → At kinds q token.LeftParenthesis → At kinds (next q) token.RightParenthesis
    → ReachesDirect kinds p (next (next q)) (Titles name (nearest parameters []) (declarator_node.Function inner [] None q.at))
function_empty_goes kinds p q name parameters inner ih a b =
    suffix_goes kinds p q (next (next q)) (Titles name parameters inner) (Titles name (nearest parameters []) (declarator_node.Function inner [] None q.at)) ih
    (function_empty_suffixed kinds p q name parameters inner a b)

function_listed : (kinds : List TokenKind) (list : Place → Outcome Takes) (go : Suffixes) (name : List ℕ) (parameters : Option (List Entry)) (inner : Declarator) (q : Place) (m : Mark)
    → begins_specifiers m ≡ true → rule.function_by kinds list go (Titles name parameters inner) q m
    ≡ and_then (list (enter (next q))) (rule.with_parameters kinds go (Titles name parameters inner) q)
function_listed kinds list go name parameters inner q sign.RoundCloses h = cc
function_listed kinds list go name parameters inner q _ h = refl

function_suffixed : (kinds : List TokenKind) (p q r : Place) (name : List ℕ) (parameters : Option (List Entry)) (inner : Declarator) (list : List Parameter) (variadic : Option ℕ)
    → At kinds q token.LeftParenthesis → begins_specifiers (mark_at kinds (next q)) ≡ true → ReachesParameters kinds (enter (next q)) r list variadic → At kinds r token.RightParenthesis
    → Suffixed kinds p q (Titles name parameters inner) (leave (next r)) (Titles name (nearest parameters (first_of r.blocks)) (declarator_node.Function inner list variadic q.at))
function_suffixed kinds p q r name parameters inner list variadic a l jh b n zero e lt f = absurd (omega arith)
function_suffixed kinds p q r name parameters inner list variadic a l jh b n (suc c) e lt f =
    let w = inside kinds q token.LeftParenthesis a in
    let j = jh n n b (omega (arith, lt, w)) (omega (arith, lt, w)) in
    let lr : q.at + 1 < r.at = j.0 in
    let all = rule.parameters kinds (parameter_at kinds n) n in (
      c,
      omega (arith, lr, w),
      omega (arith, lt, lr),
      suffix_step kinds n c (Titles name parameters inner) q token.LeftParenthesis a
          ∙ function_listed kinds all (suffixes_at kinds n c) name parameters inner q (mark_at kinds (next q)) l
          ∙ then_on (all (enter (next q))) (Taken list variadic) r _ j.1 ∙ closes_on kinds r _ b,
    )

pub function_goes : (kinds : List TokenKind) (p q r : Place) (name : List ℕ) (parameters : Option (List Entry)) (inner : Declarator) (list : List Parameter) (variadic : Option ℕ)
    → ReachesDirect kinds p q (Titles name parameters inner) → At kinds q token.LeftParenthesis → begins_specifiers (mark_at kinds (next q)) ≡ true
    → ReachesParameters kinds (enter (next q)) r list variadic → At kinds r token.RightParenthesis
    → ReachesDirect kinds p (leave (next r)) (Titles name (nearest parameters (first_of r.blocks)) (declarator_node.Function inner list variadic q.at))
function_goes kinds p q r name parameters inner list variadic ih a l jh b =
    suffix_goes kinds p q (leave (next r)) (Titles name parameters inner) (Titles name (nearest parameters (first_of r.blocks)) (declarator_node.Function inner list variadic q.at)) ih
    (function_suffixed kinds p q r name parameters inner list variadic a l jh b)

-- ---- declarators

suffixes_stop : (kinds : List TokenKind) (rd : ReadsExpression) (list : Place → Outcome Takes) (go : Suffixes) (d : Titled) (q : Place) (m : Mark) → is_suffix m ≡ false
    → rule.suffixes_by kinds rd list go d q m ≡ Gives d q
suffixes_stop kinds rd list go d q sign.RoundOpens h = cc
suffixes_stop kinds rd list go d q sign.SquareOpens h = cc
suffixes_stop kinds rd list go d q _ h = refl

suffixes_end : (kinds : List TokenKind) (n c : ℕ) (d : Titled) (q : Place) → is_suffix (mark_at kinds q) ≡ false → Enough kinds c q → suffixes_at kinds n c d q ≡ Gives d q
suffixes_end kinds n zero d q h e = absurd (omega arith)
suffixes_end kinds n (suc c) d q h e =
    let list = rule.parameters kinds (parameter_at kinds n) n in
    suffixes_on kinds (read kinds n) list c d q ∙ suffixes_stop kinds (read kinds n) list (suffixes_at kinds n c) d q (mark_at kinds q) h

pub direct_goes : (kinds : List TokenKind) (p q : Place) (d : Titled) → ReachesDirect kinds p q d → ReachesDeclarator kinds p q d
direct_goes kinds p q d ih zero h e = absurd (omega arith)
direct_goes kinds p q d ih (suc n) h e =
    let i = ih n e in
    (i.2, i.3 ∙ then_on (suffixes_at kinds n i.0 d q) d q _ (suffixes_end kinds n i.0 d q h i.1))

pub declarator_no_qualifier : (m : Mark) → begins_declarator m ≡ true → is_qualifier m ≡ false
declarator_no_qualifier (sign.Qualifies word) h = cc
declarator_no_qualifier _ h = refl

pub pointer_goes : (kinds : List TokenKind) (p q r : Place) (list : List Qualifier) (name : List ℕ) (parameters : Option (List Entry)) (inner : Declarator) → At kinds p token.Star
    → ReachesQualifiers kinds (next p) q list → begins_declarator (mark_at kinds q) ≡ true → ReachesDeclarator kinds q r (Titles name parameters inner)
    → ReachesDeclarator kinds p r (Titles name parameters (declarator_node.Pointer list inner p.at))
pointer_goes kinds p q r list name parameters inner a ih l jh zero h e = absurd (omega arith)
pointer_goes kinds p q r list name parameters inner a ih l jh (suc n) h e =
    let w = inside kinds p token.Star a in
    let i = ih n (declarator_no_qualifier (mark_at kinds q) l) (omega (arith, w)) in
    let le : p.at + 1 ≤ q.at = i.0 in
    let j = jh n h (omega (arith, le, w)) in
    let lr : q.at < r.at = j.0 in
    (omega (arith, le, lr), perhaps_at kinds n p token.Star a ∙ then_on (qualifiers kinds n (next p)) list q _ i.1 ∙ then_on (perhaps kinds n q) (With (Titles name parameters inner)) r _ j.1)

pub decorated_goes : (kinds : List TokenKind) (p q r : Place) (d : Titled) → ReachesDeclarator kinds p q d → AreAttributes kinds q r → ReachesAttributes kinds q r → ReachesDecorated kinds p r d
decorated_goes kinds p q r d ih a jh n h e =
    let i = ih n (attributes_no_suffix kinds q r a (extends_no_suffix (mark_at kinds r) h)) e in
    let lt : p.at < q.at = i.0 in
    let j = jh n (extends_no_attribute (mark_at kinds r) h) (omega (arith, lt)) in
    let le : q.at ≤ r.at = j.0 in
    (omega (arith, lt, le), then_on (perhaps kinds n p) (With d) q _ i.1 ∙ then_on (attributes kinds n q) tt r _ j.1)

-- ---- what stands for a declarator in a parameter

pub no_declarator_goes : (kinds : List TokenKind) (p : Place) → ReachesUnnamed kinds InParameter p p (declarator_node.Unnamed p.at)
no_declarator_goes kinds p zero ends e = absurd (omega arith)
no_declarator_goes kinds p (suc n) (inl a) e = (omega arith, perhaps_at kinds n p token.Comma a)
no_declarator_goes kinds p (suc n) (inr a) e = (omega arith, perhaps_at kinds n p token.RightParenthesis a)

-- how what stands for a declarator begins
abbrev BeginsUnnamed : List TokenKind → Place → Place → Type 0
BeginsUnnamed kinds p q = (p ≡ q) ⊎ (At kinds p token.Star ⊎ At kinds p token.LeftBracket)

arrays_by_lead : (kinds : List TokenKind) (p q r : Place) → At kinds q token.LeftBracket → BeginsUnnamed kinds p q → BeginsUnnamed kinds p (next r)
arrays_by_lead kinds p q r a (inl e) = inr (inr (subst (λ z. At kinds z token.LeftBracket) (sym e) a))
arrays_by_lead kinds p q r a (inr b) = inr b

arrays_lead : (kinds : List TokenKind) (p q : Place) (inner : Declarator) → AreArrays kinds p q inner → BeginsUnnamed kinds p q
arrays_lead kinds from to whole (grammar.no_arrays p) = inl refl
arrays_lead kinds from to whole (grammar.unnamed_array p q r x size d a e b) = arrays_by_lead kinds p q r a (arrays_lead kinds p q x d)

unnamed_leads : (kinds : List TokenKind) (unnamed : Unnamed) (p q : Place) (inner : Declarator) → IsUnnamed kinds unnamed p q inner → BeginsUnnamed kinds p q
unnamed_leads kinds unnamed from to whole (grammar.no_declarator p) = inl refl
unnamed_leads kinds unnamed from to whole (grammar.unnamed_arrays p q inner d) = arrays_lead kinds p q inner d
unnamed_leads kinds unnamed from to whole (grammar.unnamed_pointer u p q r list inner a b f d) = inr (inl a)

ends_no_qualifier : (kinds : List TokenKind) (p : Place) → EndsParameter kinds p → is_qualifier (mark_at kinds p) ≡ false
ends_no_qualifier kinds p (inl a) = ap (λ k. is_qualifier (mark k)) a
ends_no_qualifier kinds p (inr a) = ap (λ k. is_qualifier (mark k)) a

unnamed_no_qualifier_by : (kinds : List TokenKind) (p q : Place) → EndsParameter kinds q → BeginsUnnamed kinds p q → is_qualifier (mark_at kinds p) ≡ false
unnamed_no_qualifier_by kinds p q ends (inl e) = subst (λ z. is_qualifier (mark_at kinds z) ≡ false) (sym e) (ends_no_qualifier kinds q ends)
unnamed_no_qualifier_by kinds p q ends (inr (inl a)) = ap (λ k. is_qualifier (mark k)) a
unnamed_no_qualifier_by kinds p q ends (inr (inr a)) = ap (λ k. is_qualifier (mark k)) a

unnamed_no_qualifier : (kinds : List TokenKind) (unnamed : Unnamed) (p q : Place) (inner : Declarator) → IsUnnamed kinds unnamed p q inner → EndsParameter kinds q
    → is_qualifier (mark_at kinds p) ≡ false
unnamed_no_qualifier kinds unnamed p q inner d ends = unnamed_no_qualifier_by kinds p q ends (unnamed_leads kinds unnamed p q inner d)

ends_follow : (kinds : List TokenKind) (p : Place) → EndsParameter kinds p → follows_specifiers (mark_at kinds p) ≡ true
ends_follow kinds p (inl a) = ap (λ k. follows_specifiers (mark k)) a
ends_follow kinds p (inr a) = ap (λ k. follows_specifiers (mark k)) a

unnamed_follows_by : (kinds : List TokenKind) (p q : Place) → EndsParameter kinds q → BeginsUnnamed kinds p q → follows_specifiers (mark_at kinds p) ≡ true
unnamed_follows_by kinds p q ends (inl e) = subst (λ z. follows_specifiers (mark_at kinds z) ≡ true) (sym e) (ends_follow kinds q ends)
unnamed_follows_by kinds p q ends (inr (inl a)) = ap (λ k. follows_specifiers (mark k)) a
unnamed_follows_by kinds p q ends (inr (inr a)) = ap (λ k. follows_specifiers (mark k)) a

unnamed_follows : (kinds : List TokenKind) (unnamed : Unnamed) (p q : Place) (inner : Declarator) → IsUnnamed kinds unnamed p q inner → EndsParameter kinds q
    → follows_specifiers (mark_at kinds p) ≡ true
unnamed_follows kinds unnamed p q inner d ends = unnamed_follows_by kinds p q ends (unnamed_leads kinds unnamed p q inner d)

parameter_pointer_goes : (kinds : List TokenKind) (p q r : Place) (list : List Qualifier) (inner : Declarator) → At kinds p token.Star → ReachesQualifiers kinds (next p) q list
    → may_all_qualify InParameter list ≡ true → IsUnnamed kinds InParameter q r inner → ReachesUnnamed kinds InParameter q r inner
    → ReachesUnnamed kinds InParameter p r (declarator_node.Pointer list inner p.at)
parameter_pointer_goes kinds p q r list inner a ih may d jh zero ends e = absurd (omega arith)
parameter_pointer_goes kinds p q r list inner a ih may d jh (suc n) ends e =
    let w = inside kinds p token.Star a in
    let i = ih n (unnamed_no_qualifier kinds InParameter q r inner d ends) (omega (arith, w)) in
    let le : p.at + 1 ≤ q.at = i.0 in
    let j = jh n ends (omega (arith, le, w)) in
    let lr : q.at ≤ r.at = j.0 in (
      omega (arith, le, lr),
      perhaps_at kinds n p token.Star a ∙ then_on (qualifiers kinds n (next p)) list q _ i.1 ∙ then_on (perhaps kinds n q) (Without inner) r _ j.1
          ∙ ap (λ b. if b then Gives (Without (declarator_node.Pointer list inner p.at)) r else Refuses) may,
    )

type_pointer_goes : (kinds : List TokenKind) (p q r : Place) (list : List Qualifier) (inner : Declarator) → At kinds p token.Star → ReachesQualifiers kinds (next p) q list
    → may_all_qualify InTypeName list ≡ true → IsUnnamed kinds InTypeName q r inner → ReachesUnnamed kinds InTypeName q r inner
    → ReachesUnnamed kinds InTypeName p r (declarator_node.Pointer list inner p.at)
type_pointer_goes kinds p q r list inner a ih may d jh n zero b e f = absurd (omega arith)
type_pointer_goes kinds p q r list inner a ih may d jh n (suc c) b e f =
    let w = inside kinds p token.Star a in
    let i = ih c (unnamed_no_qualifier kinds InTypeName q r inner d (inr b)) (omega (arith, w)) in
    let le : p.at + 1 ≤ q.at = i.0 in
    let j = jh n c b (omega (arith, le)) (omega (arith, le, w)) in
    let lr : q.at ≤ r.at = j.0 in
    let rd = read kinds n in (
      omega (arith, le, lr),
      unnamed_on kinds rd c p ∙ ap (λ k. rule.unnamed_by (rule.arrays kinds rd (suc c)) (qualifiers kinds c) (rule.unnamed kinds rd c) p (mark k)) a
          ∙ then_on (qualifiers kinds c (next p)) list q _ i.1
          ∙ ap (λ o. if o then and_then (rule.unnamed kinds rd c q) (λ x s. Gives (declarator_node.Pointer list x p.at) s) else Refuses) may
          ∙ then_on (rule.unnamed kinds rd c q) inner r _ j.1,
    )

pub unnamed_pointer_goes : (kinds : List TokenKind) (unnamed : Unnamed) (p q r : Place) (list : List Qualifier) (inner : Declarator) → At kinds p token.Star → ReachesQualifiers kinds (next p) q list
    → may_all_qualify unnamed list ≡ true → IsUnnamed kinds unnamed q r inner → ReachesUnnamed kinds unnamed q r inner
    → ReachesUnnamed kinds unnamed p r (declarator_node.Pointer list inner p.at)
unnamed_pointer_goes kinds InParameter p q r list inner a ih may d jh = parameter_pointer_goes kinds p q r list inner a ih may d jh
unnamed_pointer_goes kinds InTypeName p q r list inner a ih may d jh = type_pointer_goes kinds p q r list inner a ih may d jh

-- ---- parameters

ends_declarator : (kinds : List TokenKind) (p : Place) → EndsParameter kinds p → extends_declarator (mark_at kinds p) ≡ false
ends_declarator kinds p (inl a) = ap (λ k. extends_declarator (mark k)) a
ends_declarator kinds p (inr a) = ap (λ k. extends_declarator (mark k)) a

abbrev made : List Specifier → Declarator → List ℕ → Place → Outcome Parameter
made list inner name r = Gives (record { specifiers = list; declarator = inner }) (declare r name false)

decorated_with : (list : List Specifier) (name : List ℕ) (parameters : Option (List Entry)) (inner : Declarator) (n : List ℕ) (ps : Option (List Entry)) (x : Declarator) (r : Place)
    (o : Outcome (Unit {0})) → and_then o (λ u s. Gives (Titles n ps x) s) ≡ Gives (Titles name parameters inner) r
    → and_then o (λ u s. made list x n s) ≡ made list inner name r
decorated_with list name parameters inner n ps x r (Gives u s) h =
    let a : Titles n ps x ≡ Titles name parameters inner = cc in
    let b : s ≡ r = cc in
    let c : n ≡ name = cc in
    let d : x ≡ inner = cc in
    ap (λ z. made list z n s) d ∙ ap (λ z. made list inner z s) c ∙ ap (λ z. made list inner name z) b
decorated_with list name parameters inner n ps x r Refuses h = cc

-- with a name, and what has no meaning after it
decorated_perhaps : (skip : rule.Skips) (list : List Specifier) (name : List ℕ) (parameters : Option (List Entry)) (inner : Declarator) (y : Perhaps) (q r : Place)
    → rule.decorated_by skip y q ≡ Gives (Titles name parameters inner) r → rule.parameter_after skip list y q ≡ Gives (record { specifiers = list; declarator = inner }) (declare r name false)
decorated_perhaps skip list name parameters inner (With (Titles n ps x)) q r h = decorated_with list name parameters inner n ps x r (skip q) h
decorated_perhaps skip list name parameters inner (Without x) q r h = cc

pub named_parameter_goes : (kinds : List TokenKind) (p q r : Place) (defines : Bool) (list : List Specifier) (name : List ℕ) (parameters : Option (List Entry)) (inner : Declarator)
    → ReachesSpecifiers kinds p q defines list → begins_declarator (mark_at kinds q) ≡ true → ReachesDecorated kinds q r (Titles name parameters inner)
    → ReachesParameter kinds p (declare r name false) (record { specifiers = list; declarator = inner })
named_parameter_goes kinds p q r defines list name parameters inner ih l jh n ends e =
    let i = ih n (declarator_follows (mark_at kinds q) l) e in
    let lt : p.at < q.at = i.0 in
    let j = jh n (ends_declarator kinds r ends) (omega (arith, lt)) in
    let lr : q.at < r.at = j.0 in
    let t = then_gives (perhaps kinds n q) (rule.decorated_by (attributes kinds n)) (Titles name parameters inner) r j.1 in (
      omega (arith, lt, lr),
      then_on (specifiers kinds n p) (Specifies defines list) q _ i.1 ∙ then_on (perhaps kinds n q) t.0 t.1 _ t.2
          ∙ decorated_perhaps (attributes kinds n) list name parameters inner t.0 t.1 r t.3,
    )

pub unnamed_parameter_goes : (kinds : List TokenKind) (p q r : Place) (defines : Bool) (list : List Specifier) (inner : Declarator) → ReachesSpecifiers kinds p q defines list
    → IsUnnamed kinds InParameter q r inner → ReachesUnnamed kinds InParameter q r inner → ReachesParameter kinds p r (record { specifiers = list; declarator = inner })
unnamed_parameter_goes kinds p q r defines list inner ih d jh n ends e =
    let i = ih n (unnamed_follows kinds InParameter q r inner d ends) e in
    let lt : p.at < q.at = i.0 in
    let j = jh n ends (omega (arith, lt)) in
    let lr : q.at ≤ r.at = j.0 in
    (omega (arith, lt, lr), then_on (specifiers kinds n p) (Specifies defines list) q _ i.1 ∙ then_on (perhaps kinds n q) (Without inner) r _ j.1)

pub one_parameter_goes : (kinds : List TokenKind) (p q : Place) (x : Parameter) → ReachesParameter kinds p q x → ReachesParameters kinds p q (x ∷ []) None
one_parameter_goes kinds p q x ih n zero a e f = absurd (omega arith)
one_parameter_goes kinds p q x ih n (suc c) a e f =
    let i = ih n (inr a) e in
    let more = rule.parameters kinds (parameter_at kinds n) c in
    (i.0, parameters_on kinds (parameter_at kinds n) c p ∙ then_on (parameter_at kinds n p) x q _ i.1 ∙ ap (λ k. rule.parameters_after kinds more x q (mark k)) a)

pub variadic_goes : (kinds : List TokenKind) (p q : Place) (x : Parameter) → ReachesParameter kinds p q x → At kinds q token.Comma → At kinds (next q) token.Ellipsis
    → ReachesParameters kinds p (next (next q)) (x ∷ []) (Some (next q).at)
variadic_goes kinds p q x ih b d n zero a e f = absurd (omega arith)
variadic_goes kinds p q x ih b d n (suc c) a e f =
    let i = ih n (inl b) e in
    let lt : p.at < q.at = i.0 in
    let more = rule.parameters kinds (parameter_at kinds n) c in (
      omega (arith, lt),
      parameters_on kinds (parameter_at kinds n) c p ∙ then_on (parameter_at kinds n p) x q _ i.1 ∙ ap (λ k. rule.parameters_after kinds more x q (mark k)) b
          ∙ ap (λ k. rule.parameters_comma more x (next q) (mark k)) d,
    )

parameters_other : (more : Place → Outcome Takes) (x : Parameter) (q : Place) (m : Mark) → begins_specifiers m ≡ true → rule.parameters_comma more x q m ≡ and_then (more q) (rule.first_taken x)
parameters_other more x q sign.Ellipsis h = cc
parameters_other more x q _ h = refl

pub more_parameters_goes : (kinds : List TokenKind) (p q r : Place) (x : Parameter) (list : List Parameter) (variadic : Option ℕ) → ReachesParameter kinds p q x → At kinds q token.Comma
    → begins_specifiers (mark_at kinds (next q)) ≡ true → ReachesParameters kinds (next q) r list variadic → ReachesParameters kinds p r (x ∷ list) variadic
more_parameters_goes kinds p q r x list variadic ih b l jh n zero a e f = absurd (omega arith)
more_parameters_goes kinds p q r x list variadic ih b l jh n (suc c) a e f =
    let i = ih n (inl b) e in
    let lt : p.at < q.at = i.0 in
    let w = inside kinds q token.Comma b in
    let j = jh n c a (omega (arith, lt)) (omega (arith, lt, w)) in
    let lr : q.at + 1 < r.at = j.0 in
    let more = rule.parameters kinds (parameter_at kinds n) c in (
      omega (arith, lt, lr),
      parameters_on kinds (parameter_at kinds n) c p ∙ then_on (parameter_at kinds n p) x q _ i.1 ∙ ap (λ k. rule.parameters_after kinds more x q (mark k)) b
          ∙ parameters_other more x (next q) (mark_at kinds (next q)) l ∙ then_on (more (next q)) (Taken list variadic) r _ j.1,
    )

-- ---- type names

pub no_arrays_goes : (kinds : List TokenKind) (p : Place) → ReachesArrays kinds p p (declarator_node.Unnamed p.at)
no_arrays_goes kinds p n c e f = (c, f, omega arith, refl)

array_step : (kinds : List TokenKind) (n c : ℕ) (q r : Place) (inner : Declarator) (size : Expression) → At kinds q token.LeftBracket → Reaches kinds 2 (next q) r size
    → At kinds r token.RightBracket → Enough kinds n q → Enough kinds c q
    → (m : ℕ) × Enough kinds m (next r) × (q.at ≤ r.at) × (rule.arrays kinds (read kinds n) c inner q ≡ rule.arrays kinds (read kinds n) m (declarator_node.Array inner size q.at) (next r))
array_step kinds n zero q r inner size a jh b e f = absurd (omega arith)
array_step kinds n (suc c) q r inner size a jh b e f =
    let w = inside kinds q token.LeftBracket a in
    let j = exact kinds 2 (next q) r size jh n (omega arith) (below_at kinds 2 r token.RightBracket NoSuffix b refl (omega arith)) (omega arith) in
    let lr : q.at + 1 < r.at = j.0 in (
      c,
      omega (arith, lr, w),
      omega (arith, lr),
      arrays_on kinds (read kinds n) c inner q ∙ ap (λ k. rule.arrays_by kinds (read kinds n) (rule.arrays kinds (read kinds n) c) inner q (mark k)) a
          ∙ then_on (read kinds n 2 (next q)) size r _ j.1 ∙ square_closes_on kinds r _ b,
    )

pub unnamed_array_goes : (kinds : List TokenKind) (p q r : Place) (inner : Declarator) (size : Expression) → ReachesArrays kinds p q inner → At kinds q token.LeftBracket
    → Reaches kinds 2 (next q) r size → At kinds r token.RightBracket → ReachesArrays kinds p (next r) (declarator_node.Array inner size q.at)
unnamed_array_goes kinds p q r inner size ih a jh b n c e f =
    let i = ih n c e f in
    let le : p.at ≤ q.at = i.2 in
    let j = array_step kinds n i.0 q r inner size a jh b (omega (arith, le)) i.1 in
    let lr : q.at ≤ r.at = j.2 in
    (j.0, j.1, omega (arith, le, lr), i.3 ∙ j.3)

arrays_end : (kinds : List TokenKind) (rd : ReadsExpression) (c : ℕ) (inner : Declarator) (q : Place) → At kinds q token.RightParenthesis → Enough kinds c q → rule.arrays kinds rd c inner q ≡ Gives inner q
arrays_end kinds rd zero inner q a e = absurd (omega arith)
arrays_end kinds rd (suc c) inner q a e = arrays_on kinds rd c inner q ∙ ap (λ k. rule.arrays_by kinds rd (rule.arrays kinds rd c) inner q (mark k)) a

-- no arrays begin with a star
abbrev BeginsArrays : List TokenKind → Place → Place → Type 0
BeginsArrays kinds p q = (p ≡ q) ⊎ At kinds p token.LeftBracket

arrays_begin_by : (kinds : List TokenKind) (p q r : Place) → At kinds q token.LeftBracket → BeginsArrays kinds p q → BeginsArrays kinds p (next r)
arrays_begin_by kinds p q r a (inl e) = inr (subst (λ z. At kinds z token.LeftBracket) (sym e) a)
arrays_begin_by kinds p q r a (inr b) = inr b

arrays_begin : (kinds : List TokenKind) (p q : Place) (inner : Declarator) → AreArrays kinds p q inner → BeginsArrays kinds p q
arrays_begin kinds from to whole (grammar.no_arrays p) = inl refl
arrays_begin kinds from to whole (grammar.unnamed_array p q r x size d a e b) = arrays_begin_by kinds p q r a (arrays_begin kinds p q x d)

arrays_first : (kinds : List TokenKind) (rd : ReadsExpression) (c : ℕ) (p q : Place) → At kinds q token.RightParenthesis → BeginsArrays kinds p q
    → rule.unnamed_by (rule.arrays kinds rd (suc c)) (qualifiers kinds c) (rule.unnamed kinds rd c) p (mark_at kinds p) ≡ rule.arrays kinds rd (suc c) (declarator_node.Unnamed p.at) p
arrays_first kinds rd c p q a (inl e) =
    let b : At kinds p token.RightParenthesis = subst (λ z. At kinds z token.RightParenthesis) (sym e) a in
    ap (λ k. rule.unnamed_by (rule.arrays kinds rd (suc c)) (qualifiers kinds c) (rule.unnamed kinds rd c) p (mark k)) b
arrays_first kinds rd c p q a (inr b) = ap (λ k. rule.unnamed_by (rule.arrays kinds rd (suc c)) (qualifiers kinds c) (rule.unnamed kinds rd c) p (mark k)) b

pub unnamed_arrays_goes : (kinds : List TokenKind) (p q : Place) (inner : Declarator) → AreArrays kinds p q inner → ReachesArrays kinds p q inner → ReachesUnnamed kinds InTypeName p q inner
unnamed_arrays_goes kinds p q inner d ih n zero b e f = absurd (omega arith)
unnamed_arrays_goes kinds p q inner d ih n (suc c) b e f =
    let i = ih n (suc c) e f in
    let rd = read kinds n in
    (i.2, unnamed_on kinds rd c p ∙ arrays_first kinds rd c p q b (arrays_begin kinds p q inner d) ∙ i.3 ∙ arrays_end kinds rd i.0 inner q b i.1)

pub type_name_goes : (kinds : List TokenKind) (p q r : Place) (defines : Bool) (list : List Specifier) (inner : Declarator) → begins_type kinds p ≡ true → ReachesSpecifiers kinds p q defines list
    → IsUnnamed kinds InTypeName q r inner → ReachesUnnamed kinds InTypeName q r inner → ReachesType kinds p r (record { specifiers = list; declarator = inner })
type_name_goes kinds p q r defines list inner b ih d jh = (
  b,
  λ n a e.
      let i = ih n (unnamed_follows kinds InTypeName q r inner d (inr a)) e in
      let lt : p.at < q.at = i.0 in
      let j = jh n n a (omega (arith, lt)) (omega (arith, lt)) in
      let lr : q.at ≤ r.at = j.0 in
      (omega (arith, lt, lr), then_on (specifiers kinds n p) (Specifies defines list) q _ i.1 ∙ then_on (rule.unnamed kinds (read kinds n) n q) inner r _ j.1),
)
