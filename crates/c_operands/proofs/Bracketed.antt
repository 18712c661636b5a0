-- What an expression begins with, part by part.
use Rattle.std.proofs.Common.{◌≡◌, ℕ, Bool, true, false, nat_le, List, Result, refl, sym, ap, subst, ◌∙◌}
use Rattle.c_tokens.specs.declared.token.TokenKind.{TokenKind}
use Rattle.c_tree.specs.declared.expression.Expression.{Expression}
use Rattle.c_tree.specs.declared.expression.Expression.TheVariants as tree
use Rattle.c_tree.specs.Places.{Place, next}
use Rattle.c_cursor.specs.declared.fault.Fault.{Fault}
use Rattle.c_grammar.specs.Marks.{mark_at}
use Rattle.c_grammar.specs.Kinds.{kind_at, Prefix, Opens, prefix, begins_type}
use Rattle.c_grammar.specs.ReadExpressions.{Outcome, Gives, Refuses, and_then, where_closes, bracketed, sized, sized_by}
use Rattle.c_grammar.specs.Readers.{read, more, types}
use Rattle.c_cursor.specs.Reads.{Reads}
use Rattle.c_operands.specs.Operands.{grouped, cast, sized_type, sized_operand, opens_by, opens_type}
use Rattle.c_cursor.proofs.Lists.{then_both}
use Rattle.c_cursor.proofs.Skipped.{closes_both}

closed_on : {A B : Type 0} (kinds : List TokenKind) (o : Outcome A) (f : A → Place → Outcome B)
    → and_then o (λ x q. where_closes (mark_at kinds q) (f x (next q))) ≡ and_then (and_then o (λ x q. where_closes (mark_at kinds q) (Gives x (next q)))) f
closed_on kinds o f =
    then_both o (λ x q. where_closes (mark_at kinds q) (f x (next q))) (λ x q. where_closes (mark_at kinds q) (Gives x (next q))) f
    (λ x q. closes_both (mark_at kinds q) (f x (next q)) (Gives x (next q)) f refl)

group_on : (kinds : List TokenKind) (n least : ℕ) (p : Place) → bracketed kinds (read kinds n) (types kinds n) (more kinds n) least p false ≡ grouped kinds n least (next p)
group_on kinds n least p = closed_on kinds (read kinds n 0 (next p)) (λ x q. more kinds n 15 least x q)

cast_on : (kinds : List TokenKind) (n least : ℕ) (p : Place) → nat_le least 13 ≡ true
    → bracketed kinds (read kinds n) (types kinds n) (more kinds n) least p true ≡ cast kinds n least p.at (next p)
cast_on kinds n least p h = rw h (closed_on kinds (types kinds n (next p)) (λ t q. and_then (read kinds n 13 q) (λ x r. more kinds n 13 least (tree.Cast t x p.at) r)))

no_cast_on : (kinds : List TokenKind) (n least : ℕ) (p : Place) → nat_le least 13 ≡ false
    → bracketed kinds (read kinds n) (types kinds n) (more kinds n) least p true ≡ Refuses
no_cast_on kinds n least p h = rw h refl

begun : (kinds : List TokenKind) (p q : Place) (b v : Bool) → q ≡ next p → b ≡ begins_type kinds q → b ≡ v → begins_type kinds (next p) ≡ v
begun kinds p q b v e h w = sym (ap (begins_type kinds) e) ∙ (sym h ∙ w)

pub bracketed_group : (kinds : List TokenKind) (n least : ℕ) (p q : Place) (b : Bool) (r : Result Expression Fault) (s : Place) → q ≡ next p → b ≡ begins_type kinds q → b ≡ false
    → Reads (grouped kinds n least q) r s → Reads (bracketed kinds (read kinds n) (types kinds n) (more kinds n) least p (begins_type kinds (next p))) r s
bracketed_group kinds n least p q b r s e h w k =
    let whole : bracketed kinds (read kinds n) (types kinds n) (more kinds n) least p (begins_type kinds (next p)) ≡ grouped kinds n least q =
    ap (bracketed kinds (read kinds n) (types kinds n) (more kinds n) least p) (begun kinds p q b false e h w) ∙ (group_on kinds n least p ∙ ap (grouped kinds n least) (sym e)) in
    subst (λ o. Reads o r s) (sym whole) k

pub bracketed_cast : (kinds : List TokenKind) (n least : ℕ) (p q : Place) (b : Bool) (r : Result Expression Fault) (s : Place) → q ≡ next p → b ≡ begins_type kinds q → b ≡ true
    → nat_le least 13 ≡ true → Reads (cast kinds n least p.at q) r s → Reads (bracketed kinds (read kinds n) (types kinds n) (more kinds n) least p (begins_type kinds (next p))) r s
bracketed_cast kinds n least p q b r s e h w l k =
    let whole : bracketed kinds (read kinds n) (types kinds n) (more kinds n) least p (begins_type kinds (next p)) ≡ cast kinds n least p.at q =
    ap (bracketed kinds (read kinds n) (types kinds n) (more kinds n) least p) (begun kinds p q b true e h w) ∙ (cast_on kinds n least p l ∙ ap (cast kinds n least p.at) (sym e)) in
    subst (λ o. Reads o r s) (sym whole) k

pub bracketed_none : (kinds : List TokenKind) (n least : ℕ) (p q : Place) (b : Bool) → q ≡ next p → b ≡ begins_type kinds q → b ≡ true
    → nat_le least 13 ≡ false → bracketed kinds (read kinds n) (types kinds n) (more kinds n) least p (begins_type kinds (next p)) ≡ Refuses
bracketed_none kinds n least p q b e h w l =
    ap (bracketed kinds (read kinds n) (types kinds n) (more kinds n) least p) (begun kinds p q b true e h w) ∙ no_cast_on kinds n least p l

sized_shape : (kinds : List TokenKind) (n least : ℕ) (p : Place) (s : Prefix)
    → sized kinds (read kinds n) (types kinds n) (more kinds n) least p s
    ≡ sized_by kinds (read kinds n) (types kinds n) (more kinds n) least p (opens_by (begins_type kinds (next (next p))) s)
sized_shape kinds n least p Opens = refl
sized_shape kinds n least p _ = refl

opened : (kinds : List TokenKind) (p q : Place) (b v : Bool) → q ≡ next p → b ≡ opens_type kinds q → b ≡ v → opens_type kinds (next p) ≡ v
opened kinds p q b v e h w = sym (ap (opens_type kinds) e) ∙ (sym h ∙ w)

pub sized_as_type : (kinds : List TokenKind) (n least : ℕ) (p q t : Place) (b : Bool) (r : Result Expression Fault) (s : Place) → q ≡ next p → b ≡ opens_type kinds q → b ≡ true → t ≡ next q
    → Reads (sized_type kinds n least p.at t) r s → Reads (sized kinds (read kinds n) (types kinds n) (more kinds n) least p (prefix (kind_at kinds (next p)))) r s
sized_as_type kinds n least p q t b r s e h w f k =
    let whole : sized kinds (read kinds n) (types kinds n) (more kinds n) least p (prefix (kind_at kinds (next p))) ≡ sized_type kinds n least p.at t =
    sized_shape kinds n least p (prefix (kind_at kinds (next p))) ∙ (ap (sized_by kinds (read kinds n) (types kinds n) (more kinds n) least p) (opened kinds p q b true e h w)
    ∙ (closed_on kinds (types kinds n (next (next p))) (λ t q. more kinds n 14 least (tree.SizeofType t p.at) q) ∙ ap (sized_type kinds n least p.at) (sym (f ∙ ap next e)))) in
    subst (λ o. Reads o r s) (sym whole) k

pub sized_as_operand : (kinds : List TokenKind) (n least : ℕ) (p q : Place) (b : Bool) (r : Result Expression Fault) (s : Place) → q ≡ next p → b ≡ opens_type kinds q → b ≡ false
    → Reads (sized_operand kinds n least p.at q) r s → Reads (sized kinds (read kinds n) (types kinds n) (more kinds n) least p (prefix (kind_at kinds (next p)))) r s
sized_as_operand kinds n least p q b r s e h w k =
    let whole : sized kinds (read kinds n) (types kinds n) (more kinds n) least p (prefix (kind_at kinds (next p))) ≡ sized_operand kinds n least p.at q =
    sized_shape kinds n least p (prefix (kind_at kinds (next p))) ∙ (ap (sized_by kinds (read kinds n) (types kinds n) (more kinds n) least p) (opened kinds p q b false e h w)
    ∙ ap (sized_operand kinds n least p.at) (sym e)) in
    subst (λ o. Reads o r s) (sym whole) k
