-- Lists with commas whose first item was read before.
use Rattle.std.proofs.Common.{◌≡◌, List, [], ◌∷◌, ◌++◌, ℕ, zero, suc, ◌+◌, ◌-◌, ◌<◌, refl, ap, ◌∙◌, sym, arith}
use Rattle.c_tokens.specs.declared.token.TokenKind.{TokenKind}
use Rattle.c_tree.specs.Places.{Place, next}
use Rattle.c_grammar.specs.Marks as spec
use Rattle.c_grammar.specs.Marks.{mark_at}
use Rattle.c_cursor.specs.declared.marks.Mark.TheVariants as mark
use Rattle.c_cursor.specs.Bare.{bare, bare_at}
use Rattle.c_grammar.specs.ReadExpressions.{Outcome, Gives, Refuses, and_then}
use Rattle.c_grammar.specs.ReadTypes.{ListOf, separated, separated_after}
use Rattle.c_cursor.proofs.Lists.{after, after_none, joined, append_none, one_further, one_more}

-- those after the first
abbrev pub further_by : {A : Type 0} → ListOf A → Place → spec.Mark → Outcome (List A)
further_by more p spec.Comma = more (next p)
further_by more p _ = Gives [] p

joined_by : {A : Type 0} (xs : List A) (x : A) (more : ListOf A) (p : Place) (m : spec.Mark)
    → after xs (separated_after more x p m) ≡ after (xs ++ x ∷ []) (further_by more p m)
joined_by xs x more p spec.Comma = joined xs x (more (next p))
joined_by xs x more p _ = ap (λ zs. Gives zs p) (sym (append_none (xs ++ x ∷ [])))

pub after_first : {A : Type 0} (more : ListOf A) (x : A) (p : Place) (m : spec.Mark) → separated_after more x p m ≡ after (x ∷ []) (further_by more p m)
after_first more x p m = after_none (separated_after more x p m) ∙ joined_by [] x more p m

separated_on : {A : Type 0} (kinds : List TokenKind) (one : Place → Outcome A) (n : ℕ) (p : Place)
    → separated kinds one (suc n) p ≡ and_then (one p) (λ x q. separated_after (separated kinds one n) x q (mark_at kinds q))
unfolding separated
separated_on kinds one n p = refl

separated_zero : {A : Type 0} (kinds : List TokenKind) (one : Place → Outcome A) (p : Place) → separated kinds one zero p ≡ Refuses
unfolding separated
separated_zero kinds one p = refl

further_other : {A : Type 0} (more : ListOf A) (p : Place) (m : spec.Mark) → (bare m ≡ mark.Comma → ⊥) → further_by more p m ≡ Gives [] p
further_other more p spec.Comma h = absurd (h refl)
further_other more p _ h = refl

further_comma : {A : Type 0} (more : ListOf A) (p : Place) (m : spec.Mark) → bare m ≡ mark.Comma → further_by more p m ≡ more (next p)
further_comma more p spec.Comma h = refl
further_comma more p _ h = cc

-- the further ones at a place
abbrev pub further_at : {A : Type 0} → List TokenKind → (Place → Outcome A) → ℕ → ListOf A
further_at kinds one n p = further_by (separated kinds one n) p (mark_at kinds p)

further_on : {A : Type 0} (kinds : List TokenKind) (one : Place → Outcome A) (n i : ℕ) (p : Place) (o : Outcome A) → i < n → bare_at kinds p ≡ mark.Comma
    → one (next p) ≡ o → further_at kinds one (n - i) p ≡ and_then o (λ x q. separated_after (separated kinds one (n - (i + 1))) x q (mark_at kinds q))
further_on kinds one n i p o h c e =
    further_comma (separated kinds one (n - i)) p (mark_at kinds p) c ∙ ap (λ m. separated kinds one m (next p)) (one_further n i h)
    ∙ separated_on kinds one (n - (i + 1)) (next p) ∙ ap (λ o. and_then o (λ x q. separated_after (separated kinds one (n - (i + 1))) x q (mark_at kinds q))) e

pub further_stops : {A : Type 0} (kinds : List TokenKind) (one : Place → Outcome A) (n : ℕ) (p : Place) (whole : Outcome (List A)) (xs : List A)
    → whole ≡ after xs (further_at kinds one n p) → (bare_at kinds p ≡ mark.Comma → ⊥) → whole ≡ Gives xs p
further_stops kinds one n p whole xs e h =
    e ∙ ap (after xs) (further_other (separated kinds one n) p (mark_at kinds p) h) ∙ ap (λ zs. Gives zs p) (append_none xs)

pub further_ends : {A : Type 0} (kinds : List TokenKind) (one : Place → Outcome A) (n i : ℕ) (p : Place) (whole : Outcome (List A)) (xs : List A)
    → whole ≡ after xs (further_at kinds one (n - i) p) → n ≡ i → bare_at kinds p ≡ mark.Comma → whole ≡ Refuses
further_ends kinds one n i p whole xs e h c =
    let z : n - i ≡ zero = omega arith in
    e ∙ ap (after xs) (further_comma (separated kinds one (n - i)) p (mark_at kinds p) c ∙ ap (λ m. separated kinds one m (next p)) z ∙ separated_zero kinds one (next p))

pub further_fails : {A : Type 0} (kinds : List TokenKind) (one : Place → Outcome A) (n i : ℕ) (p r : Place) (whole : Outcome (List A)) (xs : List A)
    → whole ≡ after xs (further_at kinds one (n - i) p) → i < n → bare_at kinds p ≡ mark.Comma → r ≡ next p → one r ≡ Refuses → whole ≡ Refuses
further_fails kinds one n i p r whole xs e h c b f = e ∙ ap (after xs) (further_on kinds one n i p Refuses h c (ap one (sym b) ∙ f))

pub further_goes_on : {A : Type 0} (kinds : List TokenKind) (one : Place → Outcome A) (n i : ℕ) (p q r : Place) (whole : Outcome (List A)) (xs ys : List A) (x : A)
    → whole ≡ after xs (further_at kinds one (n - i) p) → i < n → bare_at kinds p ≡ mark.Comma → r ≡ next p → one r ≡ Gives x q → ys ≡ xs ++ x ∷ []
    → whole ≡ after ys (further_at kinds one (n - (i + 1)) q)
further_goes_on kinds one n i p q r whole xs ys x e h c b f d =
    e ∙ ap (after xs) (further_on kinds one n i p (Gives x q) h c (ap one (sym b) ∙ f)) ∙ joined_by xs x (separated kinds one (n - (i + 1))) q (mark_at kinds q)
    ∙ ap (λ zs. after zs (further_at kinds one (n - (i + 1)) q)) (sym d)

pub further_begins : {A : Type 0} (kinds : List TokenKind) (one : Place → Outcome A) (n m : ℕ) (p : Place) (xs : List A) (x : A) → m ≡ n → xs ≡ x ∷ []
    → separated_after (separated kinds one n) x p (mark_at kinds p) ≡ after xs (further_at kinds one m p)
further_begins kinds one n m p xs x h d =
    after_first (separated kinds one n) x p (mark_at kinds p) ∙ ap (λ k. after (x ∷ []) (further_at kinds one k p)) (sym h)
    ∙ ap (λ zs. after zs (further_at kinds one m p)) (sym d)

pub separated_none : {A : Type 0} (kinds : List TokenKind) (one : Place → Outcome A) (n : ℕ) (p : Place) → n ≡ 0 → separated kinds one n p ≡ Refuses
separated_none kinds one n p e = ap (λ m. separated kinds one m p) e ∙ separated_zero kinds one p

pub separated_first : {A : Type 0} (kinds : List TokenKind) (one : Place → Outcome A) (n : ℕ) (p : Place) (o : Outcome A) → 0 < n → one p ≡ o
    → separated kinds one n p ≡ and_then o (λ x q. separated_after (separated kinds one (n - 1)) x q (mark_at kinds q))
separated_first kinds one n p o h e =
    ap (λ m. separated kinds one m p) (one_more n h) ∙ separated_on kinds one (n - 1) p
    ∙ ap (λ o. and_then o (λ x q. separated_after (separated kinds one (n - 1)) x q (mark_at kinds q))) e
