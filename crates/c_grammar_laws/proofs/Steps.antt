-- One step of the reader, and what an outcome says of its parts.
use Rattle.std.proofs.Common.{◌≡◌, ℕ, zero, suc, ◌+◌, ◌<◌, ◌≤◌, List, Bool, true, false, refl, ap, ◌∙◌, sym, subst, arith, inl, inr}
use Rattle.std.specs.Prelude.{nat_le, if◌then◌else◌, ◌&&◌, ◌⊎◌}
use Rattle.std.proofs.lemmas.Bool.{le-leb, lt-leb, cases_lt}
use Rattle.c_tokens.specs.declared.token.TokenKind.{TokenKind}
use Rattle.c_tree.specs.declared.expression.Expression.{Expression}
use Rattle.c_tree.specs.Places.{Place}
use Rattle.c_grammar.specs.declared.kinds.Suffix.{Suffix}
use Rattle.c_grammar.specs.Kinds.{kind_at, suffix, needs, below, goes_on, Prefix, Names, prefix}
use Rattle.c_grammar.specs.ReadExpressions.{Outcome, Gives, Refuses, and_then, where_name, ReadsExpression, items, items_after, suffix_taken, prefix_taken}
use Rattle.c_grammar.specs.Readers.{read, more, types}

-- ---- outcomes

abbrev pub Then : {A B : Type 0} → Outcome A → (A → Place → Outcome B) → B → Place → Type 0
Then {A} o f y r = (x : A) × (q : Place) × (o ≡ Gives x q) × (f x q ≡ Gives y r)

pub then_gives : {A B : Type 0} (o : Outcome A) (f : A → Place → Outcome B) (y : B) (r : Place) → and_then o f ≡ Gives y r → Then o f y r
then_gives (Gives x q) f y r h = (x, q, refl, h)
then_gives Refuses f y r h = cc

pub gives_as : {A : Type 0} (P : A → Place → Type 0) (x y : A) (q r : Place) → Gives x q ≡ Gives y r → P x q → P y r
gives_as P x y q r h d =
    let a : x ≡ y = cc in
    let b : q ≡ r = cc in
    subst (λ z. P z r) a (subst (λ s. P x s) b d)

abbrev pub NameThen : {B : Type 0} → Prefix → (List ℕ → Outcome B) → B → Place → Type 0
NameThen s f y r = (text : List ℕ) × (s ≡ Names text) × (f text ≡ Gives y r)

pub name_gives : {B : Type 0} (s : Prefix) (f : List ℕ → Outcome B) (y : B) (r : Place) → where_name s f ≡ Gives y r → NameThen s f y r
name_gives (Names text) f y r h = (text, refl, h)
name_gives _ f y r h = cc

pub if_gives : {B : Type 0} (b : Bool) (o : Outcome B) (y : B) (r : Place) → (if b then o else Refuses) ≡ Gives y r → (b ≡ true) × (o ≡ Gives y r)
if_gives true o y r h = (refl, h)
if_gives false o y r h = cc

pub unless_gives : {B : Type 0} (b : Bool) (o : Outcome B) (y : B) (r : Place) → (if b then Refuses else o) ≡ Gives y r → (b ≡ false) × (o ≡ Gives y r)
unless_gives true o y r h = cc
unless_gives false o y r h = (refl, h)

le_true_by : (m n : ℕ) → nat_le m n ≡ true → ((n < m) ⊎ (m ≤ n)) → m ≤ n
le_true_by m n h (inl over) = let z = lt-leb m n over in absurd (let w : true ≡ false = sym h ∙ z in cc)
le_true_by m n h (inr within) = within

pub le_true : (m n : ℕ) → nat_le m n ≡ true → m ≤ n
le_true m n h = le_true_by m n h (cases_lt n m)

-- ---- what goes on

and_false : (b : Bool) → (b && false) ≡ false
and_false true = refl
and_false false = refl

pub goes_true : (reached least : ℕ) (s : Suffix) → least < below s → needs s ≤ reached → goes_on reached least s ≡ true
goes_true reached least s h g = ap (λ b. b && nat_le (needs s) reached) (le-leb (least + 1) (below s) (omega arith)) ∙ le-leb (needs s) reached g

pub goes_not_below : (reached least : ℕ) (s : Suffix) → below s ≤ least → goes_on reached least s ≡ false
goes_not_below reached least s h = ap (λ b. b && nat_le (needs s) reached) (lt-leb (least + 1) (below s) (omega arith))

pub goes_not_needs : (reached least : ℕ) (s : Suffix) → reached < needs s → goes_on reached least s ≡ false
goes_not_needs reached least s h = ap (λ b. nat_le (least + 1) (below s) && b) (lt-leb (needs s) reached h) ∙ and_false (nat_le (least + 1) (below s))

abbrev pub Decided : ℕ → ℕ → Suffix → Type 0
Decided reached least s = ((least < below s) × (needs s ≤ reached)) ⊎ (goes_on reached least s ≡ false)

decide_by : (reached least : ℕ) (s : Suffix) → ((least < below s) ⊎ (below s ≤ least)) → ((reached < needs s) ⊎ (needs s ≤ reached)) → Decided reached least s
decide_by reached least s (inl a) (inl b) = inr (goes_not_needs reached least s b)
decide_by reached least s (inl a) (inr b) = inl (a, b)
decide_by reached least s (inr a) b = inr (goes_not_below reached least s a)

pub decide : (reached least : ℕ) (s : Suffix) → Decided reached least s
decide reached least s = decide_by reached least s (cases_lt least (below s)) (cases_lt reached (needs s))

-- ---- the reader

pub more_ends : (kinds : List TokenKind) (n reached least : ℕ) (x : Expression) (q : Place)
    → goes_on reached least (suffix (kind_at kinds q)) ≡ false → more kinds n reached least x q ≡ Gives x q
unfolding more
more_ends kinds zero reached least x q e = ap (λ b. if b then Refuses else Gives x q) e
more_ends kinds (suc n) reached least x q e =
    ap (λ b. if b then suffix_taken kinds (read kinds n) (items kinds (read kinds n) n) (more kinds n) least x q (suffix (kind_at kinds q)) else Gives x q) e

pub more_none : (kinds : List TokenKind) (reached least : ℕ) (x : Expression) (q : Place)
    → goes_on reached least (suffix (kind_at kinds q)) ≡ true → more kinds zero reached least x q ≡ Refuses
unfolding more
more_none kinds reached least x q e = ap (λ b. if b then Refuses else Gives x q) e

pub more_goes : (kinds : List TokenKind) (n reached least : ℕ) (x : Expression) (q : Place) (s : Suffix) → suffix (kind_at kinds q) ≡ s
    → goes_on reached least s ≡ true
    → more kinds (suc n) reached least x q ≡ suffix_taken kinds (read kinds n) (items kinds (read kinds n) n) (more kinds n) least x q s
unfolding more
more_goes kinds n reached least x q s e g =
    ap (λ b. if b then suffix_taken kinds (read kinds n) (items kinds (read kinds n) n) (more kinds n) least x q (suffix (kind_at kinds q)) else Gives x q)
    (ap (goes_on reached least) e ∙ g)
    ∙ ap (suffix_taken kinds (read kinds n) (items kinds (read kinds n) n) (more kinds n) least x q) e

pub read_none : (kinds : List TokenKind) (least : ℕ) (p : Place) → read kinds zero least p ≡ Refuses
unfolding read
read_none kinds least p = refl

pub read_on : (kinds : List TokenKind) (n least : ℕ) (p : Place)
    → read kinds (suc n) least p ≡ prefix_taken kinds (read kinds n) (types kinds n) (more kinds n) least p (prefix (kind_at kinds p))
unfolding read
read_on kinds n least p = refl

pub items_none : (kinds : List TokenKind) (rd : ReadsExpression) (p : Place) → items kinds rd zero p ≡ Refuses
unfolding items
items_none kinds rd p = refl

pub items_on : (kinds : List TokenKind) (rd : ReadsExpression) (n : ℕ) (p : Place)
    → items kinds rd (suc n) p ≡ and_then (rd 1 p) (λ x q. items_after (items kinds rd n) x q (suffix (kind_at kinds q)))
unfolding items
items_on kinds rd n p = refl
