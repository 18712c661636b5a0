-- What has no meaning, and qualifiers, one by one.
use Rattle.std.proofs.Common.{◌≡◌, ℕ, ◌+◌, ◌-◌, ◌<◌, ◌≤◌, true, false, List, [], ◌∷◌, ◌++◌, refl, sym, ◌∙◌, ap, arith}
use Rattle.c_tokens.specs.declared.token.TokenKind.{TokenKind}
use Rattle.c_tree.specs.declared.expression.Qualifier.{Qualifier}
use Rattle.c_tree.specs.Places.{Place, next}
use Rattle.c_tree.specs.Signs as sign
use Rattle.c_cursor.specs.declared.marks.Mark.TheVariants as mark
use Rattle.c_cursor.specs.declared.skips.Bracket.{Bracket}
use Rattle.c_cursor.specs.declared.skips.Bracket.TheVariants as bracket
use Rattle.c_cursor.specs.declared.skips.Bracketing.TheVariants as bare_sign
use Rattle.c_cursor.specs.Bare.{bare, bare_bracket, bare_bracketing, attribute_alone}
use Rattle.c_grammar.specs.Kinds.{kind_at}
use Rattle.c_grammar.specs.Marks as spec
use Rattle.c_grammar.specs.Marks.{Mark, mark_at, Bracketing, bracketing, same_bracket}
use Rattle.c_grammar.specs.ReadExpressions.{Outcome, Gives, Refuses, and_then}
use Rattle.c_grammar.specs.ReadExpressions.{where_colon}
use Rattle.c_grammar.specs.ReadTypes.{Skips, where_opens, where_closes, where_square_closes, where_curly_closes, where_semicolon, balanced_by, balanced, attribute, attributes_by, attributes, qualifiers_by, qualifiers}
use Rattle.c_cursor.proofs.Lists.{after, append_none, joined, one_more, one_further, then_both}

-- ---- brackets

abbrev pub whole : Bracket → sign.Bracket
whole bracket.Round = sign.Round
whole bracket.Square = sign.Square
whole bracket.Curly = sign.Curly

abbrev pub wholes : List Bracket → List sign.Bracket
wholes [] = []
wholes (b ∷ further) = whole b ∷ wholes further

whole_bare : (b : sign.Bracket) → whole (bare_bracket b) ≡ b
whole_bare sign.Round = refl
whole_bare sign.Square = refl
whole_bare sign.Curly = refl

same_self : (b : sign.Bracket) → same_bracket b b ≡ true
same_self sign.Round = refl
same_self sign.Square = refl
same_self sign.Curly = refl

same_not : (b : Bracket) (c : sign.Bracket) → (b ≡ bare_bracket c → ⊥) → same_bracket (whole b) c ≡ false
same_not bracket.Round sign.Round f = absurd (f refl)
same_not bracket.Round sign.Square f = refl
same_not bracket.Round sign.Curly f = refl
same_not bracket.Square sign.Round f = refl
same_not bracket.Square sign.Square f = absurd (f refl)
same_not bracket.Square sign.Curly f = refl
same_not bracket.Curly sign.Round f = refl
same_not bracket.Curly sign.Square f = refl
same_not bracket.Curly sign.Curly f = absurd (f refl)

balanced_step : (kinds : List TokenKind) (n i : ℕ) (pending : List sign.Bracket) (p : Place) → i < n
    → balanced kinds (n - i) pending p ≡ balanced_by (balanced kinds (n - (i + 1))) pending p (bracketing (kind_at kinds p))
unfolding balanced
balanced_step kinds n i pending p h = ap (λ m. balanced kinds m pending p) (one_further n i h)

pub balanced_none : (kinds : List TokenKind) (n i : ℕ) (pending : List sign.Bracket) (p : Place) → n ≤ i → balanced kinds (n - i) pending p ≡ Refuses
unfolding balanced
balanced_none kinds n i pending p h =
    let none : n - i ≡ 0 = omega arith in
    ap (λ m. balanced kinds m pending p) none

by_opens : (go : List sign.Bracket → Skips) (pending : List sign.Bracket) (p : Place) (s : Bracketing) (b : Bracket) → bare_bracketing s ≡ bare_sign.Opens b
    → balanced_by go pending p s ≡ go (whole b ∷ pending) (next p)
by_opens go pending p (spec.Opens c) b e =
    let same : bare_bracket c ≡ b = cc in
    ap (λ k. go (k ∷ pending) (next p)) (sym (whole_bare c) ∙ ap whole same)
by_opens go pending p _ b e = cc

by_none : (go : List sign.Bracket → Skips) (pending : List sign.Bracket) (p : Place) (s : Bracketing) → bare_bracketing s ≡ bare_sign.NoBracket
    → balanced_by go pending p s ≡ go pending (next p)
by_none go pending p spec.NoBracket e = refl
by_none go pending p _ e = cc

by_no_token : (go : List sign.Bracket → Skips) (pending : List sign.Bracket) (p : Place) (s : Bracketing) → bare_bracketing s ≡ bare_sign.NoToken
    → balanced_by go pending p s ≡ Refuses
by_no_token go pending p spec.NoToken e = refl
by_no_token go pending p _ e = cc

by_ends : (go : List sign.Bracket → Skips) (p : Place) (s : Bracketing) (b : Bracket) → bare_bracketing s ≡ bare_sign.Closes b → balanced_by go [] p s ≡ Gives tt p
by_ends go p (spec.Closes c) b e = refl
by_ends go p _ b e = cc

by_closes : (go : List sign.Bracket → Skips) (innermost : Bracket) (pending : List sign.Bracket) (p : Place) (s : Bracketing) → bare_bracketing s ≡ bare_sign.Closes innermost
    → balanced_by go (whole innermost ∷ pending) p s ≡ go pending (next p)
by_closes go innermost pending p (spec.Closes c) e =
    let same : bare_bracket c ≡ innermost = cc in
    let equal : same_bracket (whole innermost) c ≡ true = ap (λ b. same_bracket b c) (sym (ap whole same) ∙ whole_bare c) ∙ same_self c in
    rw equal refl
by_closes go innermost pending p _ e = cc

by_differs : (go : List sign.Bracket → Skips) (innermost b : Bracket) (pending : List sign.Bracket) (p : Place) (s : Bracketing) → bare_bracketing s ≡ bare_sign.Closes b
    → (innermost ≡ b → ⊥) → balanced_by go (whole innermost ∷ pending) p s ≡ Refuses
by_differs go innermost b pending p (spec.Closes c) e f =
    let same : bare_bracket c ≡ b = cc in
    let other : same_bracket (whole innermost) c ≡ false = same_not innermost c (λ g. f (g ∙ same)) in
    rw other refl
by_differs go innermost b pending p _ e f = cc

pub balanced_opens : (kinds : List TokenKind) (n i : ℕ) (pending : List Bracket) (p : Place) (b : Bracket) → i < n
    → bare_bracketing (bracketing (kind_at kinds p)) ≡ bare_sign.Opens b → balanced kinds (n - i) (wholes pending) p ≡ balanced kinds (n - (i + 1)) (wholes (b ∷ pending)) (next p)
balanced_opens kinds n i pending p b h e = balanced_step kinds n i (wholes pending) p h ∙ by_opens (balanced kinds (n - (i + 1))) (wholes pending) p (bracketing (kind_at kinds p)) b e

pub balanced_passes : (kinds : List TokenKind) (n i : ℕ) (pending : List Bracket) (p : Place) → i < n
    → bare_bracketing (bracketing (kind_at kinds p)) ≡ bare_sign.NoBracket → balanced kinds (n - i) (wholes pending) p ≡ balanced kinds (n - (i + 1)) (wholes pending) (next p)
balanced_passes kinds n i pending p h e = balanced_step kinds n i (wholes pending) p h ∙ by_none (balanced kinds (n - (i + 1))) (wholes pending) p (bracketing (kind_at kinds p)) e

pub balanced_no_token : (kinds : List TokenKind) (n i : ℕ) (pending : List Bracket) (p : Place) → i < n
    → bare_bracketing (bracketing (kind_at kinds p)) ≡ bare_sign.NoToken → balanced kinds (n - i) (wholes pending) p ≡ Refuses
balanced_no_token kinds n i pending p h e = balanced_step kinds n i (wholes pending) p h ∙ by_no_token (balanced kinds (n - (i + 1))) (wholes pending) p (bracketing (kind_at kinds p)) e

pub balanced_ends : (kinds : List TokenKind) (n i : ℕ) (pending : List Bracket) (p : Place) (b : Bracket) → i < n → pending ≡ []
    → bare_bracketing (bracketing (kind_at kinds p)) ≡ bare_sign.Closes b → balanced kinds (n - i) (wholes pending) p ≡ Gives tt p
balanced_ends kinds n i pending p b h f e =
    ap (λ ps. balanced kinds (n - i) (wholes ps) p) f ∙ (balanced_step kinds n i [] p h ∙ by_ends (balanced kinds (n - (i + 1))) p (bracketing (kind_at kinds p)) b e)

pub balanced_closes : (kinds : List TokenKind) (n i : ℕ) (pending further : List Bracket) (p : Place) (innermost b : Bracket) → i < n → pending ≡ innermost ∷ further
    → bare_bracketing (bracketing (kind_at kinds p)) ≡ bare_sign.Closes b → innermost ≡ b → balanced kinds (n - i) (wholes pending) p ≡ balanced kinds (n - (i + 1)) (wholes further) (next p)
balanced_closes kinds n i pending further p innermost b h f e g =
    ap (λ ps. balanced kinds (n - i) (wholes ps) p) f
    ∙ (balanced_step kinds n i (wholes (innermost ∷ further)) p h ∙ by_closes (balanced kinds (n - (i + 1))) innermost (wholes further) p (bracketing (kind_at kinds p)) (e ∙ ap bare_sign.Closes (sym g)))

pub balanced_differs : (kinds : List TokenKind) (n i : ℕ) (pending further : List Bracket) (p : Place) (innermost b : Bracket) → i < n → pending ≡ innermost ∷ further
    → bare_bracketing (bracketing (kind_at kinds p)) ≡ bare_sign.Closes b → (innermost ≡ b → ⊥) → balanced kinds (n - i) (wholes pending) p ≡ Refuses
balanced_differs kinds n i pending further p innermost b h f e g =
    ap (λ ps. balanced kinds (n - i) (wholes ps) p) f
    ∙ (balanced_step kinds n i (wholes (innermost ∷ further)) p h ∙ by_differs (balanced kinds (n - (i + 1))) innermost b (wholes further) p (bracketing (kind_at kinds p)) e g)

-- ---- qualifiers

qualifiers_step : (kinds : List TokenKind) (n i : ℕ) (p : Place) → i < n
    → qualifiers kinds (n - i) p ≡ qualifiers_by (qualifiers kinds (n - (i + 1))) p (mark_at kinds p)
unfolding qualifiers
qualifiers_step kinds n i p h = ap (λ m. qualifiers kinds m p) (one_further n i h)

qualified_by : (go : Place → Outcome (List Qualifier)) (p : Place) (x : Qualifier) (m : Mark) → bare m ≡ mark.Qualifies x
    → qualifiers_by go p m ≡ and_then (go (next p)) (λ further q. Gives (x ∷ further) q)
qualified_by go p x (spec.Qualifies y) e =
    let same : y ≡ x = cc in
    ap (λ z. and_then (go (next p)) (λ further q. Gives (z ∷ further) q)) same
qualified_by go p x _ e = cc

unqualified_by : (go : Place → Outcome (List Qualifier)) (p : Place) (m : Mark) → ((x : Qualifier) → bare m ≡ mark.Qualifies x → ⊥) → qualifiers_by go p m ≡ Gives [] p
unqualified_by go p (spec.Qualifies y) f = absurd (f y refl)
unqualified_by go p _ f = refl

pub qualifiers_none : (kinds : List TokenKind) (n i : ℕ) (p : Place) (found : List Qualifier) → n ≤ i → after found (qualifiers kinds (n - i) p) ≡ Refuses
unfolding qualifiers
qualifiers_none kinds n i p found h =
    let none : n - i ≡ 0 = omega arith in
    ap (λ m. after found (qualifiers kinds m p)) none

pub qualifiers_next : (kinds : List TokenKind) (n i : ℕ) (p : Place) (found : List Qualifier) (x : Qualifier) → i < n → bare (mark_at kinds p) ≡ mark.Qualifies x
    → after found (qualifiers kinds (n - i) p) ≡ after (found ++ x ∷ []) (qualifiers kinds (n - (i + 1)) (next p))
qualifiers_next kinds n i p found x h e =
    ap (after found) (qualifiers_step kinds n i p h ∙ qualified_by (qualifiers kinds (n - (i + 1))) p x (mark_at kinds p) e) ∙ joined found x (qualifiers kinds (n - (i + 1)) (next p))

pub qualifiers_last : (kinds : List TokenKind) (n i : ℕ) (p : Place) (found : List Qualifier) → i < n → ((x : Qualifier) → bare (mark_at kinds p) ≡ mark.Qualifies x → ⊥)
    → after found (qualifiers kinds (n - i) p) ≡ Gives found p
qualifiers_last kinds n i p found h f =
    ap (after found) (qualifiers_step kinds n i p h ∙ unqualified_by (qualifiers kinds (n - (i + 1))) p (mark_at kinds p) f) ∙ ap (λ xs. Gives xs p) (append_none found)

-- ---- single marks

pub opens_taken : {B : Type 0} (m : Mark) (o : Outcome B) → bare m ≡ mark.RoundOpens → where_opens m o ≡ o
opens_taken spec.RoundOpens o e = refl
opens_taken _ o e = cc

pub opens_missing : {B : Type 0} (m : Mark) (o : Outcome B) → (bare m ≡ mark.RoundOpens → ⊥) → where_opens m o ≡ Refuses
opens_missing spec.RoundOpens o f = absurd (f refl)
opens_missing _ o f = refl

pub closes_taken : {B : Type 0} (m : Mark) (o : Outcome B) → bare m ≡ mark.RoundCloses → where_closes m o ≡ o
closes_taken spec.RoundCloses o e = refl
closes_taken _ o e = cc

pub closes_missing : {B : Type 0} (m : Mark) (o : Outcome B) → (bare m ≡ mark.RoundCloses → ⊥) → where_closes m o ≡ Refuses
closes_missing spec.RoundCloses o f = absurd (f refl)
closes_missing _ o f = refl

pub square_closes_taken : {B : Type 0} (m : Mark) (o : Outcome B) → bare m ≡ mark.SquareCloses → where_square_closes m o ≡ o
square_closes_taken spec.SquareCloses o e = refl
square_closes_taken _ o e = cc

pub square_closes_missing : {B : Type 0} (m : Mark) (o : Outcome B) → (bare m ≡ mark.SquareCloses → ⊥) → where_square_closes m o ≡ Refuses
square_closes_missing spec.SquareCloses o f = absurd (f refl)
square_closes_missing _ o f = refl

pub curly_closes_taken : {B : Type 0} (m : Mark) (o : Outcome B) → bare m ≡ mark.CurlyCloses → where_curly_closes m o ≡ o
curly_closes_taken spec.CurlyCloses o e = refl
curly_closes_taken _ o e = cc

pub curly_closes_missing : {B : Type 0} (m : Mark) (o : Outcome B) → (bare m ≡ mark.CurlyCloses → ⊥) → where_curly_closes m o ≡ Refuses
curly_closes_missing spec.CurlyCloses o f = absurd (f refl)
curly_closes_missing _ o f = refl

pub semicolon_taken : {B : Type 0} (m : Mark) (o : Outcome B) → bare m ≡ mark.Semicolon → where_semicolon m o ≡ o
semicolon_taken spec.Semicolon o e = refl
semicolon_taken _ o e = cc

pub semicolon_missing : {B : Type 0} (m : Mark) (o : Outcome B) → (bare m ≡ mark.Semicolon → ⊥) → where_semicolon m o ≡ Refuses
semicolon_missing spec.Semicolon o f = absurd (f refl)
semicolon_missing _ o f = refl

-- ---- attributes

opens_both : {B C : Type 0} (m : Mark) (o : Outcome C) (p : Outcome B) (g : B → Place → Outcome C) → o ≡ and_then p g → where_opens m o ≡ and_then (where_opens m p) g
opens_both spec.RoundOpens o p g e = e
opens_both _ o p g e = refl

pub closes_both : {B C : Type 0} (m : Mark) (o : Outcome C) (p : Outcome B) (g : B → Place → Outcome C) → o ≡ and_then p g → where_closes m o ≡ and_then (where_closes m p) g
closes_both spec.RoundCloses o p g e = e
closes_both _ o p g e = refl

pub square_closes_both : {B C : Type 0} (m : Mark) (o : Outcome C) (p : Outcome B) (g : B → Place → Outcome C) → o ≡ and_then p g
    → where_square_closes m o ≡ and_then (where_square_closes m p) g
square_closes_both spec.SquareCloses o p g e = e
square_closes_both _ o p g e = refl

pub semicolon_both : {B C : Type 0} (m : Mark) (o : Outcome C) (p : Outcome B) (g : B → Place → Outcome C) → o ≡ and_then p g → where_semicolon m o ≡ and_then (where_semicolon m p) g
semicolon_both spec.Semicolon o p g e = e
semicolon_both _ o p g e = refl

pub colon_both : {B C : Type 0} (m : Mark) (o : Outcome C) (p : Outcome B) (g : B → Place → Outcome C) → o ≡ and_then p g → where_colon m o ≡ and_then (where_colon m p) g
colon_both spec.Colon o p g e = e
colon_both _ o p g e = refl

attribute_on : (kinds : List TokenKind) (inside more : Skips) (p : Place)
    → attribute kinds inside more p ≡ and_then (attribute kinds inside (λ q. Gives tt q) p) (λ u q. more q)
attribute_on kinds inside more p =
    let last : (q : Place) → where_closes (mark_at kinds q) (where_closes (mark_at kinds (next q)) (more (next (next q))))
    ≡ and_then (where_closes (mark_at kinds q) (where_closes (mark_at kinds (next q)) (Gives tt (next (next q))))) (λ u q. more q) =
    λ q. closes_both (mark_at kinds q) (where_closes (mark_at kinds (next q)) (more (next (next q)))) (where_closes (mark_at kinds (next q)) (Gives tt (next (next q)))) (λ u q. more q)
    (closes_both (mark_at kinds (next q)) (more (next (next q))) (Gives tt (next (next q))) (λ u q. more q) refl) in
    opens_both (mark_at kinds p) _ _ (λ u q. more q) (opens_both (mark_at kinds (next p)) _ _ (λ u q. more q)
    (then_both (inside (next (next p))) (λ u q. where_closes (mark_at kinds q) (where_closes (mark_at kinds (next q)) (more (next (next q)))))
    (λ u q. where_closes (mark_at kinds q) (where_closes (mark_at kinds (next q)) (Gives tt (next (next q))))) (λ u q. more q) (λ u q. last q)))

attributes_step : (kinds : List TokenKind) (n : ℕ) (p : Place) → 0 < n
    → attributes kinds n p ≡ attributes_by kinds (balanced kinds (n - 1) []) (attributes kinds (n - 1)) p (mark_at kinds p)
unfolding attributes
attributes_step kinds n p h = ap (λ m. attributes kinds m p) (one_more n h)

pub attributes_none : (kinds : List TokenKind) (n : ℕ) (p : Place) → n ≡ 0 → attributes kinds n p ≡ Refuses
unfolding attributes
attributes_none kinds n p e = ap (λ m. attributes kinds m p) e

by_extension : (kinds : List TokenKind) (inside more : Skips) (p : Place) (m : Mark) → bare m ≡ mark.Extension → attributes_by kinds inside more p m ≡ more (next p)
by_extension kinds inside more p spec.Extension e = refl
by_extension kinds inside more p _ e = cc

by_attribute : (kinds : List TokenKind) (inside more : Skips) (p : Place) (m : Mark) → bare m ≡ mark.Attribute → attributes_by kinds inside more p m ≡ attribute kinds inside more (next p)
by_attribute kinds inside more p spec.Attribute e = refl
by_attribute kinds inside more p _ e = cc

by_others : (kinds : List TokenKind) (inside more : Skips) (p : Place) (m : Mark) → (bare m ≡ mark.Extension → ⊥) → (bare m ≡ mark.Attribute → ⊥) → attributes_by kinds inside more p m ≡ Gives tt p
by_others kinds inside more p spec.Extension f g = absurd (f refl)
by_others kinds inside more p spec.Attribute f g = absurd (g refl)
by_others kinds inside more p _ f g = refl

pub attributes_extension : (kinds : List TokenKind) (n : ℕ) (p : Place) → 0 < n → bare (mark_at kinds p) ≡ mark.Extension → attributes kinds n p ≡ attributes kinds (n - 1) (next p)
attributes_extension kinds n p h e = attributes_step kinds n p h ∙ by_extension kinds (balanced kinds (n - 1) []) (attributes kinds (n - 1)) p (mark_at kinds p) e

pub attributes_end : (kinds : List TokenKind) (n : ℕ) (p : Place) → 0 < n → (bare (mark_at kinds p) ≡ mark.Extension → ⊥) → (bare (mark_at kinds p) ≡ mark.Attribute → ⊥)
    → attributes kinds n p ≡ Gives tt p
attributes_end kinds n p h f g = attributes_step kinds n p h ∙ by_others kinds (balanced kinds (n - 1) []) (attributes kinds (n - 1)) p (mark_at kinds p) f g

attributes_behind : (kinds : List TokenKind) (n : ℕ) (p : Place) → 0 < n → bare (mark_at kinds p) ≡ mark.Attribute
    → attributes kinds n p ≡ and_then (attribute_alone kinds (n - 1) (next p)) (λ u q. attributes kinds (n - 1) q)
attributes_behind kinds n p h e =
    attributes_step kinds n p h ∙ (by_attribute kinds (balanced kinds (n - 1) []) (attributes kinds (n - 1)) p (mark_at kinds p) e
    ∙ attribute_on kinds (balanced kinds (n - 1) []) (attributes kinds (n - 1)) (next p))

pub attributes_next : (kinds : List TokenKind) (n : ℕ) (p q : Place) → 0 < n → bare (mark_at kinds p) ≡ mark.Attribute → attribute_alone kinds (n - 1) (next p) ≡ Gives tt q
    → attributes kinds n p ≡ attributes kinds (n - 1) q
attributes_next kinds n p q h e f = attributes_behind kinds n p h e ∙ ap (λ o. and_then o (λ u q. attributes kinds (n - 1) q)) f

pub attributes_refused : (kinds : List TokenKind) (n : ℕ) (p : Place) → 0 < n → bare (mark_at kinds p) ≡ mark.Attribute → attribute_alone kinds (n - 1) (next p) ≡ Refuses
    → attributes kinds n p ≡ Refuses
attributes_refused kinds n p h e f = attributes_behind kinds n p h e ∙ ap (λ o. and_then o (λ u q. attributes kinds (n - 1) q)) f
