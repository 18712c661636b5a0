-- The arrays of a type name, one by one.
use Rattle.std.proofs.Common.{◌≡◌, ℕ, ◌+◌, ◌-◌, ◌<◌, ◌≤◌, List, refl, ◌∙◌, ap, arith}
use Rattle.c_tokens.specs.declared.token.TokenKind.{TokenKind}
use Rattle.c_tree.specs.declared.expression.Expression.{Expression}
use Rattle.c_tree.specs.declared.expression.Declarator.{Declarator}
use Rattle.c_tree.specs.declared.expression.Declarator.TheVariants as declarator_node
use Rattle.c_tree.specs.Places.{Place, next}
use Rattle.c_cursor.specs.declared.marks.Mark.TheVariants as mark
use Rattle.c_cursor.specs.Bare.{bare}
use Rattle.c_declarators.specs.TypeNames.{array_read}
use Rattle.c_grammar.specs.Marks as spec
use Rattle.c_grammar.specs.Marks.{Mark, mark_at}
use Rattle.c_grammar.specs.ReadExpressions.{Outcome, Gives, Refuses, and_then, ReadsExpression}
use Rattle.c_grammar.specs.ReadTypes.{where_square_closes, arrays_by, arrays}
use Rattle.c_grammar.specs.Readers.{read}
use Rattle.c_cursor.proofs.Lists.{one_further}

close_by : (go : Declarator → Place → Outcome Declarator) (inner : Declarator) (size : Expression) (at : ℕ) (r : Place) (m : Mark)
    → where_square_closes m (go (declarator_node.Array inner size at) (next r))
    ≡ and_then (and_then (where_square_closes m (Gives size (next r))) (λ size r. Gives (declarator_node.Array inner size at) r)) go
close_by go inner size at r spec.SquareCloses = refl
close_by go inner size at r _ = refl

size_by : (kinds : List TokenKind) (go : Declarator → Place → Outcome Declarator) (inner : Declarator) (at : ℕ) (o : Outcome Expression)
    → and_then o (λ size r. where_square_closes (mark_at kinds r) (go (declarator_node.Array inner size at) (next r)))
    ≡ and_then (and_then (and_then o (λ size r. where_square_closes (mark_at kinds r) (Gives size (next r)))) (λ size r. Gives (declarator_node.Array inner size at) r)) go
size_by kinds go inner at (Gives size r) = close_by go inner size at r (mark_at kinds r)
size_by kinds go inner at Refuses = refl

arrays_step : (kinds : List TokenKind) (rd : ReadsExpression) (n i : ℕ) (inner : Declarator) (p : Place) → i < n
    → arrays kinds rd (n - i) inner p ≡ arrays_by kinds rd (arrays kinds rd (n - (i + 1))) inner p (mark_at kinds p)
unfolding arrays
arrays_step kinds rd n i inner p h = ap (λ m. arrays kinds rd m inner p) (one_further n i h)

by_array : (kinds : List TokenKind) (d : ℕ) (go : Declarator → Place → Outcome Declarator) (inner : Declarator) (p : Place) (m : Mark) → bare m ≡ mark.SquareOpens
    → arrays_by kinds (read kinds d) go inner p m ≡ and_then (array_read kinds d inner p) go
by_array kinds d go inner p spec.SquareOpens e = size_by kinds go inner p.at (read kinds d 2 (next p))
by_array kinds d go inner p _ e = cc

by_end : (kinds : List TokenKind) (rd : ReadsExpression) (go : Declarator → Place → Outcome Declarator) (inner : Declarator) (p : Place) (m : Mark) → (bare m ≡ mark.SquareOpens → ⊥)
    → arrays_by kinds rd go inner p m ≡ Gives inner p
by_end kinds rd go inner p spec.SquareOpens f = absurd (f refl)
by_end kinds rd go inner p _ f = refl

arrays_behind : (kinds : List TokenKind) (d n i : ℕ) (inner : Declarator) (p : Place) → i < n → bare (mark_at kinds p) ≡ mark.SquareOpens
    → arrays kinds (read kinds d) (n - i) inner p ≡ and_then (array_read kinds d inner p) (arrays kinds (read kinds d) (n - (i + 1)))
arrays_behind kinds d n i inner p h e =
    arrays_step kinds (read kinds d) n i inner p h ∙ by_array kinds d (arrays kinds (read kinds d) (n - (i + 1))) inner p (mark_at kinds p) e

pub arrays_next : (kinds : List TokenKind) (d n i : ℕ) (inner further : Declarator) (p q : Place) → i < n → bare (mark_at kinds p) ≡ mark.SquareOpens
    → array_read kinds d inner p ≡ Gives further q → arrays kinds (read kinds d) (n - i) inner p ≡ arrays kinds (read kinds d) (n - (i + 1)) further q
arrays_next kinds d n i inner further p q h e f = arrays_behind kinds d n i inner p h e ∙ ap (λ o. and_then o (arrays kinds (read kinds d) (n - (i + 1)))) f

pub arrays_refused : (kinds : List TokenKind) (d n i : ℕ) (inner : Declarator) (p : Place) → i < n → bare (mark_at kinds p) ≡ mark.SquareOpens
    → array_read kinds d inner p ≡ Refuses → arrays kinds (read kinds d) (n - i) inner p ≡ Refuses
arrays_refused kinds d n i inner p h e f = arrays_behind kinds d n i inner p h e ∙ ap (λ o. and_then o (arrays kinds (read kinds d) (n - (i + 1)))) f

pub arrays_end : (kinds : List TokenKind) (rd : ReadsExpression) (n i : ℕ) (inner : Declarator) (p : Place) → i < n → (bare (mark_at kinds p) ≡ mark.SquareOpens → ⊥)
    → arrays kinds rd (n - i) inner p ≡ Gives inner p
arrays_end kinds rd n i inner p h f = arrays_step kinds rd n i inner p h ∙ by_end kinds rd (arrays kinds rd (n - (i + 1))) inner p (mark_at kinds p) f

pub arrays_none : (kinds : List TokenKind) (rd : ReadsExpression) (n i : ℕ) (inner : Declarator) (p : Place) → n ≤ i → arrays kinds rd (n - i) inner p ≡ Refuses
unfolding arrays
arrays_none kinds rd n i inner p h =
    let none : n - i ≡ 0 = omega arith in
    ap (λ m. arrays kinds rd m inner p) none
