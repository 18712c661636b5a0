-- Assignment expressions with commas, and what follows an operand, one by one.
use Rattle.std.proofs.Common.{◌≡◌, ℕ, zero, suc, ◌+◌, ◌-◌, ◌<◌, ◌≤◌, true, false, List, [], ◌∷◌, ◌++◌, refl, sym, ◌∙◌, ap, arith}
use Rattle.c_tokens.specs.declared.token.TokenKind.{TokenKind}
use Rattle.c_tree.specs.declared.expression.Expression.{Expression}
use Rattle.c_tree.specs.Places.{Place, next}
use Rattle.c_grammar.specs.declared.kinds.Suffix.{Suffix}
use Rattle.c_grammar.specs.declared.kinds.Suffix.TheVariants.{Commas}
use Rattle.c_grammar.specs.Kinds.{kind_at, suffix, goes_on}
use Rattle.c_grammar.specs.ReadExpressions.{Outcome, Gives, Refuses, and_then, ReadsExpression, items_after, items}
use Rattle.c_grammar.specs.Readers.{read, more}
use Rattle.c_grammar.specs.Suffixes.{reached}
use Rattle.c_cursor.proofs.Lists.{after, after_none, joined, one_further}
use Rattle.c_operands.specs.Suffixed.{suffixed}
use Rattle.c_operands.proofs.Suffixed.{taken_goes_on}

-- ---- assignment expressions with commas

items_step : (kinds : List TokenKind) (rd : ReadsExpression) (n i : ℕ) (p : Place) → i < n
    → items kinds rd (n - i) p ≡ and_then (rd 1 p) (λ x q. items_after (items kinds rd (n - (i + 1))) x q (suffix (kind_at kinds q)))
unfolding items
items_step kinds rd n i p h = ap (λ m. items kinds rd m p) (one_further n i h)

items_behind : (kinds : List TokenKind) (rd : ReadsExpression) (n i : ℕ) (p q : Place) (x : Expression) → i < n → rd 1 p ≡ Gives x q
    → items kinds rd (n - i) p ≡ items_after (items kinds rd (n - (i + 1))) x q (suffix (kind_at kinds q))
items_behind kinds rd n i p q x h e =
    items_step kinds rd n i p h ∙ ap (λ o. and_then o (λ x q. items_after (items kinds rd (n - (i + 1))) x q (suffix (kind_at kinds q)))) e

last_by : (more : Place → Outcome (List Expression)) (x : Expression) (q : Place) (s : Suffix) → (s ≡ Commas → ⊥) → items_after more x q s ≡ Gives (x ∷ []) q
last_by more x q Commas f = absurd (f refl)
last_by more x q _ f = refl

pub items_refused : (kinds : List TokenKind) (rd : ReadsExpression) (n i : ℕ) (p : Place) (found : List Expression) → i < n → rd 1 p ≡ Refuses → after found (items kinds rd (n - i) p) ≡ Refuses
items_refused kinds rd n i p found h e =
    ap (after found) (items_step kinds rd n i p h ∙ ap (λ o. and_then o (λ x q. items_after (items kinds rd (n - (i + 1))) x q (suffix (kind_at kinds q)))) e)

pub items_none : (kinds : List TokenKind) (rd : ReadsExpression) (n i : ℕ) (p : Place) (found : List Expression) → n ≤ i → after found (items kinds rd (n - i) p) ≡ Refuses
unfolding items
items_none kinds rd n i p found h =
    let none : n - i ≡ 0 = omega arith in
    ap (λ m. after found (items kinds rd m p)) none

pub items_last : (kinds : List TokenKind) (rd : ReadsExpression) (n i : ℕ) (whole : Outcome (List Expression)) (p q : Place) (found further : List Expression) (x : Expression)
    → whole ≡ after found (items kinds rd (n - i) p) → i < n → rd 1 p ≡ Gives x q → further ≡ found ++ x ∷ [] → (suffix (kind_at kinds q) ≡ Commas → ⊥) → whole ≡ Gives further q
items_last kinds rd n i whole p q found further x w h e g f =
    w ∙ (ap (after found) (items_behind kinds rd n i p q x h e ∙ last_by (items kinds rd (n - (i + 1))) x q (suffix (kind_at kinds q)) f) ∙ ap (λ xs. Gives xs q) (sym g))

pub items_next : (kinds : List TokenKind) (rd : ReadsExpression) (n i : ℕ) (whole : Outcome (List Expression)) (p q r : Place) (found further : List Expression) (x : Expression)
    → whole ≡ after found (items kinds rd (n - i) p) → i < n → rd 1 p ≡ Gives x q → further ≡ found ++ x ∷ [] → suffix (kind_at kinds q) ≡ Commas → r ≡ next q
    → whole ≡ after further (items kinds rd (n - (i + 1)) r)
items_next kinds rd n i whole p q r found further x w h e g f k =
    w ∙ (ap (after found) (items_behind kinds rd n i p q x h e ∙ ap (items_after (items kinds rd (n - (i + 1))) x q) f)
    ∙ (joined found x (items kinds rd (n - (i + 1)) (next q))
    ∙ (ap (λ xs. after xs (items kinds rd (n - (i + 1)) (next q))) (sym g) ∙ ap (λ t. after further (items kinds rd (n - (i + 1)) t)) (sym k))))

-- what was found when a loop begins
pub items_begins : (kinds : List TokenKind) (rd : ReadsExpression) (n i : ℕ) (p : Place) (found : List Expression) → i ≡ 0 → found ≡ []
    → items kinds rd n p ≡ after found (items kinds rd (n - i) p)
items_begins kinds rd n i p found h e =
    let all : n ≡ n - i = omega arith in
    ap (λ m. items kinds rd m p) all ∙ (after_none (items kinds rd (n - i) p) ∙ ap (λ xs. after xs (items kinds rd (n - i) p)) (sym e))

-- ---- what follows an operand

pub more_stops : (kinds : List TokenKind) (n reaches least : ℕ) (x : Expression) (q : Place) (s : Suffix) → s ≡ suffix (kind_at kinds q) → goes_on reaches least s ≡ false
    → more kinds n reaches least x q ≡ Gives x q
unfolding more
more_stops kinds zero reaches least x q s b e = rw (sym (ap (goes_on reaches least) b) ∙ e) refl
more_stops kinds (suc n) reaches least x q s b e = rw (sym (ap (goes_on reaches least) b) ∙ e) refl

none_left : (kinds : List TokenKind) (reaches least : ℕ) (x : Expression) (q : Place) → goes_on reaches least (suffix (kind_at kinds q)) ≡ true
    → more kinds 0 reaches least x q ≡ Refuses
unfolding more
none_left kinds reaches least x q e = rw e refl

pub more_none : (kinds : List TokenKind) (n reaches least : ℕ) (x : Expression) (q : Place) (s : Suffix) → n ≡ 0 → s ≡ suffix (kind_at kinds q) → goes_on reaches least s ≡ true
    → more kinds n reaches least x q ≡ Refuses
more_none kinds n reaches least x q s z b e =
    ap (λ m. more kinds m reaches least x q) z ∙ none_left kinds reaches least x q (sym (ap (goes_on reaches least) b) ∙ e)

taken : (kinds : List TokenKind) (d reaches least : ℕ) (x : Expression) (q : Place) → goes_on reaches least (suffix (kind_at kinds q)) ≡ true
    → more kinds (suc d) reaches least x q ≡ and_then (suffixed kinds d x q (suffix (kind_at kinds q))) (more kinds d (reached (suffix (kind_at kinds q))) least)
unfolding more
taken kinds d reaches least x q e =
    rw e (taken_goes_on kinds (read kinds d) (items kinds (read kinds d) d) (more kinds d) least x q (suffix (kind_at kinds q)))

taken_with : (kinds : List TokenKind) (n i d reaches least : ℕ) (x : Expression) (q : Place) (s : Suffix) → i < n → d ≡ n - i - 1 → s ≡ suffix (kind_at kinds q)
    → goes_on reaches least s ≡ true → more kinds (n - i) reaches least x q ≡ and_then (suffixed kinds d x q s) (more kinds d (reached s) least)
taken_with kinds n i d reaches least x q s h k b e =
    let one : n - i ≡ suc d = omega arith in
    ap (λ m. more kinds m reaches least x q) one
    ∙ (taken kinds d reaches least x q (sym (ap (goes_on reaches least) b) ∙ e)
    ∙ ap (λ t. and_then (suffixed kinds d x q t) (more kinds d (reached t) least)) (sym b))

pub more_refused : (kinds : List TokenKind) (n i d reaches least : ℕ) (x : Expression) (q : Place) (s : Suffix) → i < n → d ≡ n - i - 1 → s ≡ suffix (kind_at kinds q)
    → goes_on reaches least s ≡ true → suffixed kinds d x q s ≡ Refuses → more kinds (n - i) reaches least x q ≡ Refuses
more_refused kinds n i d reaches least x q s h k b e r =
    taken_with kinds n i d reaches least x q s h k b e ∙ ap (λ o. and_then o (more kinds d (reached s) least)) r

pub more_goes : (kinds : List TokenKind) (n i d : ℕ) (whole : Outcome Expression) (reaches further least : ℕ) (x y : Expression) (q r : Place) (s : Suffix)
    → whole ≡ more kinds (n - i) reaches least x q → i < n → d ≡ n - i - 1 → s ≡ suffix (kind_at kinds q) → goes_on reaches least s ≡ true
    → suffixed kinds d x q s ≡ Gives y r → further ≡ reached s → whole ≡ more kinds (n - (i + 1)) further least y r
more_goes kinds n i d whole reaches further least x y q r s w h k b e g f =
    let fewer : d ≡ n - (i + 1) = omega arith in
    w ∙ (taken_with kinds n i d reaches least x q s h k b e ∙ (ap (λ o. and_then o (more kinds d (reached s) least)) g
    ∙ (ap (λ m. more kinds m (reached s) least y r) fewer ∙ ap (λ t. more kinds (n - (i + 1)) t least y r) (sym f))))
