-- What stands for a declarator in a type name, step by step.
use Rattle.std.proofs.Common.{◌≡◌, ℕ, ◌-◌, ◌<◌, true, false, List, refl, sym, ◌∙◌, ap}
use Rattle.c_tokens.specs.declared.token.TokenKind.{TokenKind}
use Rattle.c_tree.specs.declared.expression.Declarator.{Declarator}
use Rattle.c_tree.specs.declared.expression.Declarator.TheVariants as declarator_node
use Rattle.c_tree.specs.declared.expression.Qualifier.{Qualifier}
use Rattle.c_tree.specs.Places.{Place, next}
use Rattle.c_tree.specs.Spells.{InTypeName, may_all_qualify}
use Rattle.c_cursor.specs.declared.marks.Mark.TheVariants as mark
use Rattle.c_cursor.specs.Bare.{bare}
use Rattle.c_grammar.specs.Marks as spec
use Rattle.c_grammar.specs.Marks.{Mark, mark_at}
use Rattle.c_grammar.specs.ReadExpressions.{Outcome, Gives, Refuses, and_then, ReadsExpression}
use Rattle.c_grammar.specs.ReadTypes.{qualifiers, arrays, unnamed_by, unnamed_pointed, unnamed}
use Rattle.c_cursor.proofs.Lists.{one_more}

pub unnamed_none : (kinds : List TokenKind) (rd : ReadsExpression) (n : ℕ) (p : Place) → n ≡ 0 → unnamed kinds rd n p ≡ Refuses
unfolding unnamed
unnamed_none kinds rd n p e = ap (λ m. unnamed kinds rd m p) e

unnamed_step : (kinds : List TokenKind) (rd : ReadsExpression) (n : ℕ) (p : Place) → 0 < n
    → unnamed kinds rd n p ≡ unnamed_by (arrays kinds rd n) (qualifiers kinds (n - 1)) (unnamed kinds rd (n - 1)) p (mark_at kinds p)
unfolding unnamed
unnamed_step kinds rd n p h =
    ap (λ m. unnamed kinds rd m p) (one_more n h)
    ∙ ap (λ m. unnamed_by (arrays kinds rd m) (qualifiers kinds (n - 1)) (unnamed kinds rd (n - 1)) p (mark_at kinds p)) (sym (one_more n h))

by_star : (go : Declarator → Place → Outcome Declarator) (list : Place → Outcome (List Qualifier)) (more : Place → Outcome Declarator) (p : Place) (m : Mark) → bare m ≡ mark.Star
    → unnamed_by go list more p m ≡ and_then (list (next p)) (unnamed_pointed more p.at)
by_star go list more p spec.Star e = refl
by_star go list more p _ e = cc

by_others : (go : Declarator → Place → Outcome Declarator) (list : Place → Outcome (List Qualifier)) (more : Place → Outcome Declarator) (p : Place) (m : Mark) → (bare m ≡ mark.Star → ⊥)
    → unnamed_by go list more p m ≡ go (declarator_node.Unnamed p.at) p
by_others go list more p spec.Star f = absurd (f refl)
by_others go list more p _ f = refl

pub unnamed_arrays : (kinds : List TokenKind) (rd : ReadsExpression) (n : ℕ) (p : Place) → 0 < n → (bare (mark_at kinds p) ≡ mark.Star → ⊥)
    → unnamed kinds rd n p ≡ arrays kinds rd n (declarator_node.Unnamed p.at) p
unnamed_arrays kinds rd n p h f = unnamed_step kinds rd n p h ∙ by_others (arrays kinds rd n) (qualifiers kinds (n - 1)) (unnamed kinds rd (n - 1)) p (mark_at kinds p) f

-- after the `*`
behind : (kinds : List TokenKind) (rd : ReadsExpression) (n : ℕ) (p q : Place) → 0 < n → bare (mark_at kinds p) ≡ mark.Star → q ≡ next p
    → unnamed kinds rd n p ≡ and_then (qualifiers kinds (n - 1) q) (unnamed_pointed (unnamed kinds rd (n - 1)) p.at)
behind kinds rd n p q h e f =
    unnamed_step kinds rd n p h ∙ (by_star (arrays kinds rd n) (qualifiers kinds (n - 1)) (unnamed kinds rd (n - 1)) p (mark_at kinds p) e
    ∙ ap (λ s. and_then (qualifiers kinds (n - 1) s) (unnamed_pointed (unnamed kinds rd (n - 1)) p.at)) (sym f))

pub unnamed_unread : (kinds : List TokenKind) (rd : ReadsExpression) (n : ℕ) (p q : Place) → 0 < n → bare (mark_at kinds p) ≡ mark.Star → q ≡ next p
    → qualifiers kinds (n - 1) q ≡ Refuses → unnamed kinds rd n p ≡ Refuses
unnamed_unread kinds rd n p q h e f g = behind kinds rd n p q h e f ∙ ap (λ o. and_then o (unnamed_pointed (unnamed kinds rd (n - 1)) p.at)) g

-- after the qualifiers
qualified : (kinds : List TokenKind) (rd : ReadsExpression) (n : ℕ) (p q r : Place) (list : List Qualifier) → 0 < n → bare (mark_at kinds p) ≡ mark.Star → q ≡ next p
    → qualifiers kinds (n - 1) q ≡ Gives list r → unnamed kinds rd n p ≡ unnamed_pointed (unnamed kinds rd (n - 1)) p.at list r
qualified kinds rd n p q r list h e f g = behind kinds rd n p q h e f ∙ ap (λ o. and_then o (unnamed_pointed (unnamed kinds rd (n - 1)) p.at)) g

not_qualified : (more : Place → Outcome Declarator) (at : ℕ) (list : List Qualifier) (r : Place) → may_all_qualify InTypeName list ≡ false → unnamed_pointed more at list r ≡ Refuses
not_qualified more at list r e = rw e refl

well_qualified : (more : Place → Outcome Declarator) (at : ℕ) (list : List Qualifier) (r : Place) → may_all_qualify InTypeName list ≡ true
    → unnamed_pointed more at list r ≡ and_then (more r) (λ inner s. Gives (declarator_node.Pointer list inner at) s)
well_qualified more at list r e = rw e refl

pub unnamed_unqualified : (kinds : List TokenKind) (rd : ReadsExpression) (n : ℕ) (p q r : Place) (list : List Qualifier) → 0 < n → bare (mark_at kinds p) ≡ mark.Star → q ≡ next p
    → qualifiers kinds (n - 1) q ≡ Gives list r → may_all_qualify InTypeName list ≡ false → unnamed kinds rd n p ≡ Refuses
unnamed_unqualified kinds rd n p q r list h e f g k = qualified kinds rd n p q r list h e f g ∙ not_qualified (unnamed kinds rd (n - 1)) p.at list r k

pub unnamed_refused : (kinds : List TokenKind) (rd : ReadsExpression) (n : ℕ) (p q r : Place) (list : List Qualifier) → 0 < n → bare (mark_at kinds p) ≡ mark.Star → q ≡ next p
    → qualifiers kinds (n - 1) q ≡ Gives list r → may_all_qualify InTypeName list ≡ true → unnamed kinds rd (n - 1) r ≡ Refuses → unnamed kinds rd n p ≡ Refuses
unnamed_refused kinds rd n p q r list h e f g k l =
    qualified kinds rd n p q r list h e f g ∙ (well_qualified (unnamed kinds rd (n - 1)) p.at list r k
    ∙ ap (λ o. and_then o (λ inner s. Gives (declarator_node.Pointer list inner p.at) s)) l)

pub unnamed_pointer : (kinds : List TokenKind) (rd : ReadsExpression) (n : ℕ) (p q r s : Place) (list : List Qualifier) (inner : Declarator) → 0 < n → bare (mark_at kinds p) ≡ mark.Star
    → q ≡ next p → qualifiers kinds (n - 1) q ≡ Gives list r → may_all_qualify InTypeName list ≡ true → unnamed kinds rd (n - 1) r ≡ Gives inner s
    → unnamed kinds rd n p ≡ Gives (declarator_node.Pointer list inner p.at) s
unnamed_pointer kinds rd n p q r s list inner h e f g k l =
    qualified kinds rd n p q r list h e f g ∙ (well_qualified (unnamed kinds rd (n - 1)) p.at list r k
    ∙ ap (λ o. and_then o (λ inner s. Gives (declarator_node.Pointer list inner p.at) s)) l)
