-- An operand with its suffixes, one by one.
use Rattle.std.proofs.Common.{◌≡◌, ℕ, ◌+◌, List, ◌∷◌, Result, refl, subst}
use Rattle.c_tokens.specs.declared.token.TokenKind.{TokenKind}
use Rattle.c_tree.specs.declared.expression.Expression.{Expression}
use Rattle.c_tree.specs.declared.expression.Expression.TheVariants as tree
use Rattle.c_tree.specs.Places.{Place, next}
use Rattle.c_tree.specs.Signs.{level}
use Rattle.c_grammar.specs.declared.kinds.Suffix.{Suffix}
use Rattle.c_grammar.specs.declared.kinds.Suffix.TheVariants.{Infix, Assigns, Asks, Commas, Subscripts, Calls, Selects, Points, Steps, NoSuffix}
use Rattle.c_grammar.specs.Kinds.{kind_at, prefix}
use Rattle.c_grammar.specs.Marks as sign
use Rattle.c_grammar.specs.Marks.{Mark, mark_at}
use Rattle.c_grammar.specs.ReadExpressions.{Gives, and_then, where_closes, where_square_closes, ReadsExpression, Continues, Lists, call_of, choice_of, suffix_taken}
use Rattle.c_cursor.specs.declared.marks.Mark.TheVariants as mark
use Rattle.c_cursor.specs.Bare.{bare}
use Rattle.c_cursor.specs.declared.fault.Fault.{Fault}
use Rattle.c_cursor.specs.Reads.{Reads}
use Rattle.c_operands.specs.Suffixed.{call_with, stop}
use Rattle.c_cursor.proofs.Lists.{then_both}
use Rattle.c_cursor.proofs.Single.{name_both}
use Rattle.c_cursor.proofs.Skipped.{closes_both, square_closes_both, colon_both}
use Rattle.c_grammar.specs.Suffixes.{reached}

call_both : (kinds : List TokenKind) (list : Lists) (go : Continues) (least : ℕ) (x : Expression) (q : Place) (s : Mark)
    → call_of kinds list go least x q s ≡ and_then (call_of kinds list stop 0 x q s) (go 15 least)
call_both kinds list go least x q sign.RoundCloses = refl
call_both kinds list go least x q _ =
    then_both (list (next q)) (λ xs r. where_closes (mark_at kinds r) (go 15 least (tree.Call x xs q.at) (next r)))
    (λ xs r. where_closes (mark_at kinds r) (Gives (tree.Call x xs q.at) (next r))) (go 15 least)
    (λ xs r. closes_both (mark_at kinds r) (go 15 least (tree.Call x xs q.at) (next r)) (Gives (tree.Call x xs q.at) (next r)) (go 15 least) refl)

pub call_items : (kinds : List TokenKind) (list : Lists) (x : Expression) (q : Place) (s : Mark) → (bare s ≡ mark.RoundCloses → ⊥)
    → call_of kinds list stop 0 x q s ≡ and_then (list (next q)) (λ xs r. where_closes (mark_at kinds r) (Gives (tree.Call x xs q.at) (next r)))
call_items kinds list x q sign.RoundCloses h = absurd (h refl)
call_items kinds list x q _ h = refl

pub arguments_as : (kinds : List TokenKind) (n : ℕ) (x y : Expression) (at b : ℕ) (q t : Place) (r : Result Expression Fault) (s : Place) → x ≡ y → at ≡ b → q ≡ t
    → Reads (call_with kinds n x at q) r s → Reads (call_with kinds n y b t) r s
arguments_as kinds n x y at b q t r s e f g h =
    subst (λ z. Reads (call_with kinds n z b t) r s) e (subst (λ z. Reads (call_with kinds n x z t) r s) f (subst (λ z. Reads (call_with kinds n x at z) r s) g h))

choice_both : (kinds : List TokenKind) (rd : ReadsExpression) (go : Continues) (least : ℕ) (x : Expression) (q : Place) (y : Expression) (r : Place)
    → choice_of kinds rd go least x q y r ≡ and_then (choice_of kinds rd stop 0 x q y r) (go 2 least)
choice_both kinds rd go least x q y r =
    colon_both (mark_at kinds r) (and_then (rd 2 (next r)) (λ z s. go 2 least (tree.Conditional x y z q.at) s)) (and_then (rd 2 (next r)) (λ z s. Gives (tree.Conditional x y z q.at) s)) (go 2 least)
    (then_both (rd 2 (next r)) (λ z s. go 2 least (tree.Conditional x y z q.at) s) (λ z s. Gives (tree.Conditional x y z q.at) s) (go 2 least) (λ z s. refl))

pub taken_goes_on : (kinds : List TokenKind) (rd : ReadsExpression) (list : Lists) (go : Continues) (least : ℕ) (x : Expression) (q : Place) (s : Suffix)
    → suffix_taken kinds rd list go least x q s ≡ and_then (suffix_taken kinds rd list stop 0 x q s) (go (reached s) least)
taken_goes_on kinds rd list go least x q (Infix operator) =
    then_both (rd (level operator + 1) (next q)) (λ y r. go (level operator) least (tree.Binary operator x y q.at) r) (λ y r. Gives (tree.Binary operator x y q.at) r) (go (level operator) least) (λ y r. refl)
taken_goes_on kinds rd list go least x q (Assigns operator) =
    then_both (rd 1 (next q)) (λ y r. go 1 least (tree.Assign operator x y q.at) r) (λ y r. Gives (tree.Assign operator x y q.at) r) (go 1 least) (λ y r. refl)
taken_goes_on kinds rd list go least x q Asks =
    then_both (rd 0 (next q)) (choice_of kinds rd go least x q) (choice_of kinds rd stop 0 x q) (go 2 least) (choice_both kinds rd go least x q)
taken_goes_on kinds rd list go least x q Commas =
    then_both (list (next q)) (λ xs r. go 0 least (tree.Comma (x ∷ xs) q.at) r) (λ xs r. Gives (tree.Comma (x ∷ xs) q.at) r) (go 0 least) (λ xs r. refl)
taken_goes_on kinds rd list go least x q Subscripts =
    then_both (rd 0 (next q)) (λ y r. where_square_closes (mark_at kinds r) (go 15 least (tree.Subscript x y q.at) (next r)))
    (λ y r. where_square_closes (mark_at kinds r) (Gives (tree.Subscript x y q.at) (next r))) (go 15 least)
    (λ y r. square_closes_both (mark_at kinds r) (go 15 least (tree.Subscript x y q.at) (next r)) (Gives (tree.Subscript x y q.at) (next r)) (go 15 least) refl)
taken_goes_on kinds rd list go least x q Calls = call_both kinds list go least x q (mark_at kinds (next q))
taken_goes_on kinds rd list go least x q Selects =
    name_both (prefix (kind_at kinds (next q))) (λ text. go 15 least (tree.Member x text q.at) (next (next q))) (λ text. Gives (tree.Member x text q.at) (next (next q))) (go 15 least) (λ text. refl)
taken_goes_on kinds rd list go least x q Points =
    name_both (prefix (kind_at kinds (next q))) (λ text. go 15 least (tree.PointedMember x text q.at) (next (next q))) (λ text. Gives (tree.PointedMember x text q.at) (next (next q))) (go 15 least) (λ text. refl)
taken_goes_on kinds rd list go least x q (Steps step) = refl
taken_goes_on kinds rd list go least x q NoSuffix = refl
