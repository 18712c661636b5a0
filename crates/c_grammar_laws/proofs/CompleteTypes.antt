-- What the tokens spell is what the reader of specifiers reads.
use Rattle.std.proofs.Common.{◌≡◌, ℕ, zero, suc, ◌+◌, ◌<◌, ◌≤◌, List, [], ◌∷◌, length, Bool, true, false, refl, ap, ◌∙◌, arith}
use Rattle.std.specs.Prelude.{if◌then◌else◌}
use Rattle.std.proofs.lemmas.Option.{slice_get_within}
use Rattle.c_tokens.specs.declared.token.TokenKind.{TokenKind}
use Rattle.c_tokens.specs.declared.token.TokenKind.TheVariants as token
use Rattle.c_tree.specs.declared.expression.Qualifier.{Qualifier}
use Rattle.c_tree.specs.Places.{Place, At, next}
use Rattle.c_tree.specs.Signs.{Bracket, opening, closing, is_bracket, qualifier_sign}
use Rattle.c_tree.specs.Spells as grammar
use Rattle.c_tree.specs.Spells.{IsBalanced, AreAttributes, AreQualifiers, IsTag, EndsSpecifiers, Role, Types, Modifies, storage_role, types_now, defines_now}
use Rattle.c_grammar.specs.Kinds.{kind_at}
use Rattle.c_grammar.specs.Marks as sign
use Rattle.c_grammar.specs.Marks.{Bracketing, Opens, Closes, NoBracket, bracketing, bracketing_of, same_bracket, Mark, mark, mark_at, mark_of, extends_declarator}
use Rattle.c_grammar.specs.ReadExpressions.{Outcome, Gives, Refuses, and_then}
use Rattle.c_grammar.specs.ReadTypes as rule
use Rattle.c_grammar.specs.ReadTypes.{where_opens, where_closes, where_square_closes, where_curly_closes, where_semicolon, balanced, balanced_by, attributes, attributes_by, ListOf, separated, separated_after, listed, listed_after, listed_comma, Specific, Plays, Specified, Specifies, Titled, Titles, qualifiers, qualifiers_by}
use Rattle.c_grammar_laws.proofs.MarkLaws.{mark-qualifier_sign, bracketing-opening, bracketing-closing, bracketing-none, same_bracket-self}
use Rattle.c_grammar_laws.proofs.TypeSteps.{balanced_on, attributes_on, separated_on, listed_on, qualifiers_on}
use Rattle.c_grammar_laws.proofs.Complete.{Enough}
use Rattle.c_grammar_laws.proofs.Leads.{is_attribute}

-- ---- steps

pub then_on : {A B : Type 0} (o : Outcome A) (x : A) (q : Place) (f : A → Place → Outcome B) → o ≡ Gives x q → and_then o f ≡ f x q
then_on o x q f h = ap (λ z. and_then z f) h

pub opens_on : {B : Type 0} (kinds : List TokenKind) (p : Place) (o : Outcome B) → At kinds p token.LeftParenthesis → where_opens (mark_at kinds p) o ≡ o
opens_on kinds p o a = ap (λ k. where_opens (mark k) o) a

pub closes_on : {B : Type 0} (kinds : List TokenKind) (p : Place) (o : Outcome B) → At kinds p token.RightParenthesis → where_closes (mark_at kinds p) o ≡ o
closes_on kinds p o a = ap (λ k. where_closes (mark k) o) a

pub square_closes_on : {B : Type 0} (kinds : List TokenKind) (p : Place) (o : Outcome B) → At kinds p token.RightBracket → where_square_closes (mark_at kinds p) o ≡ o
square_closes_on kinds p o a = ap (λ k. where_square_closes (mark k) o) a

pub curly_closes_on : {B : Type 0} (kinds : List TokenKind) (p : Place) (o : Outcome B) → At kinds p token.RightBrace → where_curly_closes (mark_at kinds p) o ≡ o
curly_closes_on kinds p o a = ap (λ k. where_curly_closes (mark k) o) a

pub semicolon_on : {B : Type 0} (kinds : List TokenKind) (p : Place) (o : Outcome B) → At kinds p token.Semicolon → where_semicolon (mark_at kinds p) o ≡ o
semicolon_on kinds p o a = ap (λ k. where_semicolon (mark k) o) a

abbrev pub Inside : List TokenKind → Place → Type 0
Inside kinds p = p.at < length kinds

pub inside : (kinds : List TokenKind) (p : Place) (kind : TokenKind) → At kinds p kind → Inside kinds p
inside kinds p kind a = slice_get_within kinds p.at kind a

-- ---- what has no meaning

abbrev Skipped : List TokenKind → ℕ → List Bracket → Place → Place → Type 0
Skipped kinds n pending p q = (m : ℕ) × Enough kinds m q × (p.at ≤ q.at) × (balanced kinds n pending p ≡ balanced kinds m pending q)

balanced_step : (kinds : List TokenKind) (n : ℕ) (pending : List Bracket) (p : Place) (kind : TokenKind) (b : Bracketing) → At kinds p kind → bracketing_of kind ≡ b
    → balanced kinds (suc n) pending p ≡ balanced_by (balanced kinds n) pending p b
balanced_step kinds n pending p kind b a e =
    let f : bracketing (kind_at kinds p) ≡ b = ap bracketing a ∙ e in
    balanced_on kinds n pending p ∙ ap (balanced_by (balanced kinds n) pending p) f

abbrev SkipsTo : List TokenKind → Place → Place → Type 0
SkipsTo kinds p q = (n : ℕ) (pending : List Bracket) → Enough kinds n p → Skipped kinds n pending p q

token_skipped : (kinds : List TokenKind) (p q : Place) (kind : TokenKind) → At kinds p kind → is_bracket kind ≡ false → SkipsTo kinds (next p) q → SkipsTo kinds p q
token_skipped kinds p q kind a b ih zero pending e = absurd (omega arith)
token_skipped kinds p q kind a b ih (suc n) pending e =
    let i = ih n pending (omega (arith, inside kinds p kind a)) in
    let le : p.at + 1 ≤ q.at = i.2 in
    (i.0, i.1, omega (arith, le), balanced_step kinds n pending p kind NoBracket a (bracketing-none kind b) ∙ i.3)

closed_step : (kinds : List TokenKind) (n : ℕ) (pending : List Bracket) (p : Place) (bracket : Bracket) → At kinds p (closing bracket)
    → balanced kinds (suc n) (bracket ∷ pending) p ≡ balanced kinds n pending (next p)
closed_step kinds n pending p bracket a =
    balanced_step kinds n (bracket ∷ pending) p (closing bracket) (Closes bracket) a (bracketing-closing bracket)
    ∙ ap (λ c. if c then balanced kinds n pending (next p) else Refuses) (same_bracket-self bracket)

group_closed : (kinds : List TokenKind) (q r : Place) (bracket : Bracket) → At kinds q (closing bracket) → SkipsTo kinds (next q) r → (n : ℕ) (pending : List Bracket) → Enough kinds n q
    → (m : ℕ) × Enough kinds m r × (q.at ≤ r.at) × (balanced kinds n (bracket ∷ pending) q ≡ balanced kinds m pending r)
group_closed kinds q r bracket c ih zero pending e = absurd (omega arith)
group_closed kinds q r bracket c ih (suc n) pending e =
    let i = ih n pending (omega (arith, inside kinds q (closing bracket) c)) in
    let le : q.at + 1 ≤ r.at = i.2 in
    (i.0, i.1, omega (arith, le), closed_step kinds n pending q bracket c ∙ i.3)

group_skipped : (kinds : List TokenKind) (p q r : Place) (bracket : Bracket) → At kinds p (opening bracket) → SkipsTo kinds (next p) q → At kinds q (closing bracket)
    → SkipsTo kinds (next q) r → SkipsTo kinds p r
group_skipped kinds p q r bracket a ih c jh zero pending e = absurd (omega arith)
group_skipped kinds p q r bracket a ih c jh (suc n) pending e =
    let i = ih n (bracket ∷ pending) (omega (arith, inside kinds p (opening bracket) a)) in
    let j = group_closed kinds q r bracket c jh i.0 pending i.1 in
    let le : p.at + 1 ≤ q.at = i.2 in
    let ge : q.at ≤ r.at = j.2 in
    (j.0, j.1, omega (arith, le, ge), balanced_step kinds n pending p (opening bracket) (Opens bracket) a (bracketing-opening bracket) ∙ i.3 ∙ j.3)

balanced_skipped : (kinds : List TokenKind) (p q : Place) → IsBalanced kinds p q → SkipsTo kinds p q
balanced_skipped kinds from to (grammar.balanced_nothing p) = λ n pending e. (n, e, omega arith, refl)
balanced_skipped kinds from to (grammar.balanced_token p q kind a b d) = token_skipped kinds p q kind a b (balanced_skipped kinds (next p) q d)
balanced_skipped kinds from to (grammar.balanced_group p q r bracket a d c f) =
    group_skipped kinds p q r bracket a (balanced_skipped kinds (next p) q d) c (balanced_skipped kinds (next q) r f)

ended : (kinds : List TokenKind) (n : ℕ) (q : Place) → Enough kinds n q → At kinds q token.RightParenthesis → balanced kinds n [] q ≡ Gives tt q
ended kinds zero q e a = absurd (omega arith)
ended kinds (suc n) q e a = balanced_on kinds n [] q ∙ ap (λ k. balanced_by (balanced kinds n) [] q (bracketing k)) a

-- balanced tokens before a `)`
balanced_read : (kinds : List TokenKind) (n : ℕ) (p q : Place) → IsBalanced kinds p q → At kinds q token.RightParenthesis → Enough kinds n p → (p.at ≤ q.at) × (balanced kinds n [] p ≡ Gives tt q)
balanced_read kinds n p q d a e =
    let i = balanced_skipped kinds p q d n [] e in
    (i.2, i.3 ∙ ended kinds i.0 q i.1 a)

abbrev pub ReachesAttributes : List TokenKind → Place → Place → Type 0
ReachesAttributes kinds p q = (n : ℕ) → is_attribute (mark_at kinds q) ≡ false → Enough kinds n p → (p.at ≤ q.at) × (attributes kinds n p ≡ Gives tt q)

attributes_end : (kinds : List TokenKind) (inside more : rule.Skips) (p : Place) (m : Mark) → is_attribute m ≡ false → attributes_by kinds inside more p m ≡ Gives tt p
attributes_end kinds inside more p sign.Attribute h = cc
attributes_end kinds inside more p sign.Extension h = cc
attributes_end kinds inside more p _ h = refl

no_attributes_goes : (kinds : List TokenKind) (p : Place) → ReachesAttributes kinds p p
no_attributes_goes kinds p zero f e = absurd (omega arith)
no_attributes_goes kinds p (suc n) f e =
    (omega arith, attributes_on kinds n p ∙ attributes_end kinds (balanced kinds n []) (attributes kinds n) p (mark_at kinds p) f)

extension_goes : (kinds : List TokenKind) (p q : Place) → At kinds p token.Extension → ReachesAttributes kinds (next p) q → ReachesAttributes kinds p q
extension_goes kinds p q a ih zero f e = absurd (omega arith)
extension_goes kinds p q a ih (suc n) f e =
    let i = ih n f (omega (arith, inside kinds p token.Extension a)) in
    let le : p.at + 1 ≤ q.at = i.0 in
    (omega (arith, le), attributes_on kinds n p ∙ ap (λ k. attributes_by kinds (balanced kinds n []) (attributes kinds n) p (mark k)) a ∙ i.1)

attribute_goes : (kinds : List TokenKind) (p q r : Place) → At kinds p token.Attribute → At kinds (next p) token.LeftParenthesis → At kinds (next (next p)) token.LeftParenthesis
    → IsBalanced kinds (next (next (next p))) q → At kinds q token.RightParenthesis → At kinds (next q) token.RightParenthesis → ReachesAttributes kinds (next (next q)) r
    → ReachesAttributes kinds p r
attribute_goes kinds p q r a b c d f g ih zero h e = absurd (omega arith)
attribute_goes kinds p q r a b c d f g ih (suc n) h e =
    let in_p = inside kinds p token.Attribute a in
    let i = balanced_read kinds n (next (next (next p))) q d f (omega (arith, in_p)) in
    let le : p.at + 1 + 1 + 1 ≤ q.at = i.0 in
    let j = ih n h (omega (arith, le, in_p)) in
    let ge : q.at + 1 + 1 ≤ r.at = j.0 in (
      omega (arith, le, ge),
      attributes_on kinds n p ∙ ap (λ k. attributes_by kinds (balanced kinds n []) (attributes kinds n) p (mark k)) a
          ∙ opens_on kinds (next p) _ b ∙ opens_on kinds (next (next p)) _ c ∙ then_on (balanced kinds n [] (next (next (next p)))) tt q _ i.1
          ∙ closes_on kinds q _ f ∙ closes_on kinds (next q) _ g ∙ j.1,
    )

pub attributes_goes : (kinds : List TokenKind) (p q : Place) → AreAttributes kinds p q → ReachesAttributes kinds p q
attributes_goes kinds from to (grammar.no_attributes p) = no_attributes_goes kinds p
attributes_goes kinds from to (grammar.extension p q a d) = extension_goes kinds p q a (attributes_goes kinds (next p) q d)
attributes_goes kinds from to (grammar.attribute p q r a b c d e f g) = attribute_goes kinds p q r a b c d e f (attributes_goes kinds (next (next q)) r g)

-- ---- qualifiers

abbrev pub is_qualifier : Mark → Bool
is_qualifier (sign.Qualifies word) = true
is_qualifier _ = false

abbrev pub ReachesQualifiers : List TokenKind → Place → Place → List Qualifier → Type 0
ReachesQualifiers kinds p q xs = (n : ℕ) → is_qualifier (mark_at kinds q) ≡ false → Enough kinds n p → (p.at ≤ q.at) × (qualifiers kinds n p ≡ Gives xs q)

qualifiers_end : (more : ListOf Qualifier) (p : Place) (m : Mark) → is_qualifier m ≡ false → qualifiers_by more p m ≡ Gives [] p
qualifiers_end more p (sign.Qualifies word) h = cc
qualifiers_end more p _ h = refl

no_qualifiers_goes : (kinds : List TokenKind) (p : Place) → ReachesQualifiers kinds p p []
no_qualifiers_goes kinds p zero f e = absurd (omega arith)
no_qualifiers_goes kinds p (suc n) f e = (omega arith, qualifiers_on kinds n p ∙ qualifiers_end (qualifiers kinds n) p (mark_at kinds p) f)

more_qualifiers_goes : (kinds : List TokenKind) (p q : Place) (word : Qualifier) (xs : List Qualifier) → At kinds p (qualifier_sign word) → ReachesQualifiers kinds (next p) q xs
    → ReachesQualifiers kinds p q (word ∷ xs)
more_qualifiers_goes kinds p q word xs a ih zero f e = absurd (omega arith)
more_qualifiers_goes kinds p q word xs a ih (suc n) f e =
    let i = ih n f (omega (arith, inside kinds p (qualifier_sign word) a)) in
    let le : p.at + 1 ≤ q.at = i.0 in
    let m : mark_at kinds p ≡ sign.Qualifies word = ap mark a ∙ mark-qualifier_sign word in
    (omega (arith, le), qualifiers_on kinds n p ∙ ap (qualifiers_by (qualifiers kinds n) p) m ∙ then_on (qualifiers kinds n (next p)) xs q _ i.1)

pub qualifiers_goes : (kinds : List TokenKind) (p q : Place) (xs : List Qualifier) → AreQualifiers kinds p q xs → ReachesQualifiers kinds p q xs
qualifiers_goes kinds from to whole (grammar.no_qualifiers p) = no_qualifiers_goes kinds p
qualifiers_goes kinds from to whole (grammar.more_qualifiers p q word xs a d) = more_qualifiers_goes kinds p q word xs a (qualifiers_goes kinds (next p) q xs d)

-- ---- lists

-- one of a list ends the list, or a comma goes on
pub separated_one : {A : Type 0} (kinds : List TokenKind) (one : Place → Outcome A) (n : ℕ) (p q : Place) (x : A) (kind : TokenKind) → one p ≡ Gives x q → At kinds q kind
    → ((more : ListOf A) → separated_after more x q (mark_of kind) ≡ Gives (x ∷ []) q) → separated kinds one (suc n) p ≡ Gives (x ∷ []) q
separated_one kinds one n p q x kind h a f =
    separated_on kinds one n p ∙ then_on (one p) x q _ h ∙ ap (λ k. separated_after (separated kinds one n) x q (mark k)) a ∙ f (separated kinds one n)

pub separated_more : {A : Type 0} (kinds : List TokenKind) (one : Place → Outcome A) (n : ℕ) (p q r : Place) (x : A) (xs : List A) → one p ≡ Gives x q → At kinds q token.Comma
    → separated kinds one n (next q) ≡ Gives xs r → separated kinds one (suc n) p ≡ Gives (x ∷ xs) r
separated_more kinds one n p q r x xs h a g =
    separated_on kinds one n p ∙ then_on (one p) x q _ h ∙ ap (λ k. separated_after (separated kinds one n) x q (mark k)) a ∙ then_on (separated kinds one n (next q)) xs r _ g

-- before a `}`
pub listed_one : {A : Type 0} (kinds : List TokenKind) (one : Place → Outcome A) (n : ℕ) (p q : Place) (x : A) → one p ≡ Gives x q → At kinds q token.RightBrace
    → listed kinds one (suc n) p ≡ Gives (x ∷ []) q
listed_one kinds one n p q x h a = listed_on kinds one n p ∙ then_on (one p) x q _ h ∙ ap (λ k. listed_after kinds (listed kinds one n) x q (mark k)) a

pub listed_last : {A : Type 0} (kinds : List TokenKind) (one : Place → Outcome A) (n : ℕ) (p q : Place) (x : A) → one p ≡ Gives x q → At kinds q token.Comma → At kinds (next q) token.RightBrace
    → listed kinds one (suc n) p ≡ Gives (x ∷ []) (next q)
listed_last kinds one n p q x h a b =
    listed_on kinds one n p ∙ then_on (one p) x q _ h ∙ ap (λ k. listed_after kinds (listed kinds one n) x q (mark k)) a
    ∙ ap (λ k. listed_comma (listed kinds one n) x (next q) (mark k)) b

abbrev pub is_curly_close : Mark → Bool
is_curly_close sign.CurlyCloses = true
is_curly_close _ = false

listed_goes_on : {A : Type 0} (more : ListOf A) (x : A) (q : Place) (m : Mark) → is_curly_close m ≡ false → listed_comma more x q m ≡ and_then (more q) (λ xs r. Gives (x ∷ xs) r)
listed_goes_on more x q sign.CurlyCloses h = cc
listed_goes_on more x q _ h = refl

pub listed_more : {A : Type 0} (kinds : List TokenKind) (one : Place → Outcome A) (n : ℕ) (p q r : Place) (x : A) (xs : List A) → one p ≡ Gives x q → At kinds q token.Comma
    → is_curly_close (mark_at kinds (next q)) ≡ false → listed kinds one n (next q) ≡ Gives xs r → listed kinds one (suc n) p ≡ Gives (x ∷ xs) r
listed_more kinds one n p q r x xs h a f g =
    listed_on kinds one n p ∙ then_on (one p) x q _ h ∙ ap (λ k. listed_after kinds (listed kinds one n) x q (mark k)) a
    ∙ listed_goes_on (listed kinds one n) x (next q) (mark_at kinds (next q)) f ∙ then_on (listed kinds one n (next q)) xs r _ g
