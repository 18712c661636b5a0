-- Lists with a comma between each two, item by item.
use Rattle.std.proofs.Common.{◌≡◌, ℕ, ◌+◌, ◌-◌, ◌<◌, ◌≤◌, List, [], ◌∷◌, ◌++◌, refl, sym, ◌∙◌, ap, arith}
use Rattle.c_tokens.specs.declared.token.TokenKind.{TokenKind}
use Rattle.c_tree.specs.Places.{Place, next}
use Rattle.c_cursor.specs.declared.marks.Mark.TheVariants as mark
use Rattle.c_cursor.specs.Bare.{bare}
use Rattle.c_grammar.specs.Marks as spec
use Rattle.c_grammar.specs.Marks.{Mark, mark_at}
use Rattle.c_grammar.specs.ReadExpressions.{Outcome, Gives, Refuses, and_then}
use Rattle.c_grammar.specs.ReadTypes.{ListOf, separated_after, separated, listed_comma, listed_after, listed}
use Rattle.c_cursor.proofs.Lists.{after, after_none, joined, one_further}

-- ---- with a comma between each two

separated_step : {A : Type 0} (kinds : List TokenKind) (one : Place → Outcome A) (n i : ℕ) (p : Place) → i < n
    → separated kinds one (n - i) p ≡ and_then (one p) (λ x q. separated_after (separated kinds one (n - (i + 1))) x q (mark_at kinds q))
unfolding separated
separated_step kinds one n i p h = ap (λ m. separated kinds one m p) (one_further n i h)

separated_behind : {A : Type 0} (kinds : List TokenKind) (one : Place → Outcome A) (n i : ℕ) (p q : Place) (x : A) → i < n → one p ≡ Gives x q
    → separated kinds one (n - i) p ≡ separated_after (separated kinds one (n - (i + 1))) x q (mark_at kinds q)
separated_behind kinds one n i p q x h e =
    separated_step kinds one n i p h ∙ ap (λ o. and_then o (λ x q. separated_after (separated kinds one (n - (i + 1))) x q (mark_at kinds q))) e

separated_ends : {A : Type 0} (more : ListOf A) (x : A) (q : Place) (m : Mark) → (bare m ≡ mark.Comma → ⊥) → separated_after more x q m ≡ Gives (x ∷ []) q
separated_ends more x q spec.Comma f = absurd (f refl)
separated_ends more x q _ f = refl

separated_goes : {A : Type 0} (more : ListOf A) (x : A) (q : Place) (m : Mark) → bare m ≡ mark.Comma → separated_after more x q m ≡ and_then (more (next q)) (λ xs r. Gives (x ∷ xs) r)
separated_goes more x q spec.Comma e = refl
separated_goes more x q _ e = cc

pub separated_refused : {A : Type 0} (kinds : List TokenKind) (one : Place → Outcome A) (n i : ℕ) (p : Place) (found : List A) → i < n → one p ≡ Refuses
    → after found (separated kinds one (n - i) p) ≡ Refuses
separated_refused kinds one n i p found h e =
    ap (after found) (separated_step kinds one n i p h ∙ ap (λ o. and_then o (λ x q. separated_after (separated kinds one (n - (i + 1))) x q (mark_at kinds q))) e)

pub separated_none : {A : Type 0} (kinds : List TokenKind) (one : Place → Outcome A) (n i : ℕ) (p : Place) (found : List A) → n ≤ i → after found (separated kinds one (n - i) p) ≡ Refuses
unfolding separated
separated_none kinds one n i p found h =
    let none : n - i ≡ 0 = omega arith in
    ap (λ m. after found (separated kinds one m p)) none

pub separated_last : {A : Type 0} (kinds : List TokenKind) (one : Place → Outcome A) (n i : ℕ) (whole : Outcome (List A)) (p q : Place) (found further : List A) (x : A)
    → whole ≡ after found (separated kinds one (n - i) p) → i < n → one p ≡ Gives x q → further ≡ found ++ x ∷ [] → (bare (mark_at kinds q) ≡ mark.Comma → ⊥) → whole ≡ Gives further q
separated_last kinds one n i whole p q found further x w h e g f =
    w ∙ (ap (after found) (separated_behind kinds one n i p q x h e ∙ separated_ends (separated kinds one (n - (i + 1))) x q (mark_at kinds q) f) ∙ ap (λ xs. Gives xs q) (sym g))

pub separated_next : {A : Type 0} (kinds : List TokenKind) (one : Place → Outcome A) (n i : ℕ) (whole : Outcome (List A)) (p q r : Place) (found further : List A) (x : A)
    → whole ≡ after found (separated kinds one (n - i) p) → i < n → one p ≡ Gives x q → further ≡ found ++ x ∷ [] → bare (mark_at kinds q) ≡ mark.Comma → r ≡ next q
    → whole ≡ after further (separated kinds one (n - (i + 1)) r)
separated_next kinds one n i whole p q r found further x w h e g f k =
    let more = separated kinds one (n - (i + 1)) in
    w ∙ (ap (after found) (separated_behind kinds one n i p q x h e ∙ separated_goes more x q (mark_at kinds q) f)
    ∙ (joined found x (more (next q)) ∙ (ap (λ xs. after xs (more (next q))) (sym g) ∙ ap (λ t. after further (more t)) (sym k))))

-- ---- the same, and a comma may end them before a `}`

listed_step : {A : Type 0} (kinds : List TokenKind) (one : Place → Outcome A) (n i : ℕ) (p : Place) → i < n
    → listed kinds one (n - i) p ≡ and_then (one p) (λ x q. listed_after kinds (listed kinds one (n - (i + 1))) x q (mark_at kinds q))
unfolding listed
listed_step kinds one n i p h = ap (λ m. listed kinds one m p) (one_further n i h)

listed_behind : {A : Type 0} (kinds : List TokenKind) (one : Place → Outcome A) (n i : ℕ) (p q : Place) (x : A) → i < n → one p ≡ Gives x q
    → listed kinds one (n - i) p ≡ listed_after kinds (listed kinds one (n - (i + 1))) x q (mark_at kinds q)
listed_behind kinds one n i p q x h e =
    listed_step kinds one n i p h ∙ ap (λ o. and_then o (λ x q. listed_after kinds (listed kinds one (n - (i + 1))) x q (mark_at kinds q))) e

listed_ends : {A : Type 0} (kinds : List TokenKind) (more : ListOf A) (x : A) (q : Place) (m : Mark) → (bare m ≡ mark.Comma → ⊥) → listed_after kinds more x q m ≡ Gives (x ∷ []) q
listed_ends kinds more x q spec.Comma f = absurd (f refl)
listed_ends kinds more x q _ f = refl

listed_goes : {A : Type 0} (kinds : List TokenKind) (more : ListOf A) (x : A) (q : Place) (m : Mark) → bare m ≡ mark.Comma
    → listed_after kinds more x q m ≡ listed_comma more x (next q) (mark_at kinds (next q))
listed_goes kinds more x q spec.Comma e = refl
listed_goes kinds more x q _ e = cc

comma_ends : {A : Type 0} (more : ListOf A) (x : A) (q : Place) (m : Mark) → bare m ≡ mark.CurlyCloses → listed_comma more x q m ≡ Gives (x ∷ []) q
comma_ends more x q spec.CurlyCloses e = refl
comma_ends more x q _ e = cc

comma_goes : {A : Type 0} (more : ListOf A) (x : A) (q : Place) (m : Mark) → (bare m ≡ mark.CurlyCloses → ⊥) → listed_comma more x q m ≡ and_then (more q) (λ xs r. Gives (x ∷ xs) r)
comma_goes more x q spec.CurlyCloses f = absurd (f refl)
comma_goes more x q _ f = refl

pub listed_refused : {A : Type 0} (kinds : List TokenKind) (one : Place → Outcome A) (n i : ℕ) (p : Place) (found : List A) → i < n → one p ≡ Refuses
    → after found (listed kinds one (n - i) p) ≡ Refuses
listed_refused kinds one n i p found h e =
    ap (after found) (listed_step kinds one n i p h ∙ ap (λ o. and_then o (λ x q. listed_after kinds (listed kinds one (n - (i + 1))) x q (mark_at kinds q))) e)

pub listed_none : {A : Type 0} (kinds : List TokenKind) (one : Place → Outcome A) (n i : ℕ) (p : Place) (found : List A) → n ≤ i → after found (listed kinds one (n - i) p) ≡ Refuses
unfolding listed
listed_none kinds one n i p found h =
    let none : n - i ≡ 0 = omega arith in
    ap (λ m. after found (listed kinds one m p)) none

pub listed_last : {A : Type 0} (kinds : List TokenKind) (one : Place → Outcome A) (n i : ℕ) (whole : Outcome (List A)) (p q : Place) (found further : List A) (x : A)
    → whole ≡ after found (listed kinds one (n - i) p) → i < n → one p ≡ Gives x q → further ≡ found ++ x ∷ [] → (bare (mark_at kinds q) ≡ mark.Comma → ⊥) → whole ≡ Gives further q
listed_last kinds one n i whole p q found further x w h e g f =
    w ∙ (ap (after found) (listed_behind kinds one n i p q x h e ∙ listed_ends kinds (listed kinds one (n - (i + 1))) x q (mark_at kinds q) f) ∙ ap (λ xs. Gives xs q) (sym g))

pub listed_comma_last : {A : Type 0} (kinds : List TokenKind) (one : Place → Outcome A) (n i : ℕ) (whole : Outcome (List A)) (p q r : Place) (found further : List A) (x : A)
    → whole ≡ after found (listed kinds one (n - i) p) → i < n → one p ≡ Gives x q → further ≡ found ++ x ∷ [] → bare (mark_at kinds q) ≡ mark.Comma → r ≡ next q
    → bare (mark_at kinds r) ≡ mark.CurlyCloses → whole ≡ Gives further r
listed_comma_last kinds one n i whole p q r found further x w h e g f k a =
    let more = listed kinds one (n - (i + 1)) in
    let ends : bare (mark_at kinds (next q)) ≡ mark.CurlyCloses = ap (λ t. bare (mark_at kinds t)) (sym k) ∙ a in
    w ∙ (ap (after found) (listed_behind kinds one n i p q x h e ∙ (listed_goes kinds more x q (mark_at kinds q) f ∙ comma_ends more x (next q) (mark_at kinds (next q)) ends))
    ∙ (ap (λ xs. Gives xs (next q)) (sym g) ∙ ap (λ t. Gives further t) (sym k)))

pub listed_next : {A : Type 0} (kinds : List TokenKind) (one : Place → Outcome A) (n i : ℕ) (whole : Outcome (List A)) (p q r : Place) (found further : List A) (x : A)
    → whole ≡ after found (listed kinds one (n - i) p) → i < n → one p ≡ Gives x q → further ≡ found ++ x ∷ [] → bare (mark_at kinds q) ≡ mark.Comma → r ≡ next q
    → (bare (mark_at kinds r) ≡ mark.CurlyCloses → ⊥) → whole ≡ after further (listed kinds one (n - (i + 1)) r)
listed_next kinds one n i whole p q r found further x w h e g f k a =
    let more = listed kinds one (n - (i + 1)) in
    w ∙ (ap (after found) (listed_behind kinds one n i p q x h e ∙ (listed_goes kinds more x q (mark_at kinds q) f
    ∙ comma_goes more x (next q) (mark_at kinds (next q)) (λ b. a (ap (λ t. bare (mark_at kinds t)) k ∙ b))))
    ∙ (joined found x (more (next q)) ∙ (ap (λ xs. after xs (more (next q))) (sym g) ∙ ap (λ t. after further (more t)) (sym k))))

pub listed_begins : {A : Type 0} (kinds : List TokenKind) (one : Place → Outcome A) (n m : ℕ) (p : Place) (xs : List A) → m ≡ n → xs ≡ []
    → listed kinds one n p ≡ after xs (listed kinds one m p)
listed_begins kinds one n m p xs h d =
    after_none (listed kinds one n p) ∙ ap (λ k. after [] (listed kinds one k p)) (sym h) ∙ ap (λ zs. after zs (listed kinds one m p)) (sym d)
