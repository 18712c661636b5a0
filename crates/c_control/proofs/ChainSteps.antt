-- Chains of `if`, which are read one by one.
use Rattle.std.proofs.Common.{◌≡◌, List, [], ◌∷◌, ◌++◌, ℕ, zero, suc, ◌+◌, ◌-◌, ◌<◌, Some, None, length, refl, ap, ◌∙◌, sym, subst, append_assoc, arith}
use Rattle.std.specs.Prelude.{Result}
use Rattle.c_tokens.specs.declared.token.TokenKind.{TokenKind}
use Rattle.c_tree.specs.declared.statement.Statement.{Statement}
use Rattle.c_tree.specs.declared.statement.Statement.TheVariants as statement_node
use Rattle.c_tree.specs.declared.statement.Branch.{Branch}
use Rattle.c_tree.specs.declared.expression.Expression.{Expression}
use Rattle.c_tree.specs.Places.{Place, next, enter, leave}
use Rattle.c_cursor.specs.declared.fault.Fault.{Fault}
use Rattle.c_grammar.specs.Marks as spec
use Rattle.c_grammar.specs.Marks.{mark_at}
use Rattle.c_cursor.specs.declared.marks.Mark.TheVariants as mark
use Rattle.c_cursor.specs.Bare.{bare, bare_at}
use Rattle.c_grammar.specs.ReadExpressions.{Outcome, Gives, Refuses, and_then, ReadsExpression}
use Rattle.c_grammar.specs.ReadStatements.{ReadsStatement, chain, chain_of, chain_by, else_by, first_chained, Chain, Chains, chained, test}
use Rattle.c_cursor.specs.Reads.{Reads}
use Rattle.c_control.specs.Chains.{branch, last_else, leaves}
use Rattle.c_cursor.proofs.Lists.{one_further, then_both}

-- after these branches, whose blocks are still open
abbrev pub resumed : ℕ → List Branch → Outcome Chain → Outcome Chain
resumed k xs (Gives (Chains ys otherwise) q) = Gives (Chains (xs ++ ys) otherwise) (leaves k q)
resumed k xs Refuses = Refuses

pub resumed_none : (o : Outcome Chain) → o ≡ resumed 0 [] o
resumed_none (Gives (Chains ys otherwise) q) = refl
resumed_none Refuses = refl

resumed_first : (k : ℕ) (xs : List Branch) (x : Branch) (o : Outcome Chain) → resumed k xs (and_then o (first_chained x)) ≡ resumed (suc k) (xs ++ x ∷ []) o
resumed_first k xs x (Gives (Chains ys otherwise) q) = ap (λ zs. Gives (Chains zs otherwise) (leaves k (leave (leave q)))) (sym (append_assoc xs (x ∷ []) ys))
resumed_first k xs x Refuses = refl

length_more : (xs : List Branch) (x : Branch) → length (xs ++ x ∷ []) ≡ suc (length xs)
length_more [] x = refl
length_more (y ∷ ys) x = ap suc (length_more ys x)

body_both : (kinds : List TokenKind) (st : ReadsStatement) (more : Place → Outcome Chain) (p : Place) (x : Expression) (q : Place)
    → chain_of kinds st more p x q
    ≡ and_then (and_then (st (enter q)) (λ body r. Gives (record { test = x; body = body; at = p.at }) r)) (λ x r. chain_by kinds st more x r (mark_at kinds r))
body_both kinds st more p x q =
    then_both (st (enter q)) (λ body r. chain_by kinds st more (record { test = x; body = body; at = p.at }) r (mark_at kinds r))
    (λ body r. Gives (record { test = x; body = body; at = p.at }) r) (λ x r. chain_by kinds st more x r (mark_at kinds r)) (λ body r. refl)

chain_on : (kinds : List TokenKind) (rd : ReadsExpression) (st : ReadsStatement) (n : ℕ) (p : Place)
    → chain kinds rd st (suc n) p ≡ and_then (branch kinds rd st p) (λ x r. chain_by kinds st (chain kinds rd st n) x r (mark_at kinds r))
unfolding chain
chain_on kinds rd st n p =
    then_both (test kinds rd (enter (next p))) (chain_of kinds st (chain kinds rd st n) p)
    (λ x q. and_then (st (enter q)) (λ body r. Gives (record { test = x; body = body; at = p.at }) r))
    (λ x r. chain_by kinds st (chain kinds rd st n) x r (mark_at kinds r)) (body_both kinds st (chain kinds rd st n) p)

chain_zero : (kinds : List TokenKind) (rd : ReadsExpression) (st : ReadsStatement) (p : Place) → chain kinds rd st zero p ≡ Refuses
unfolding chain
chain_zero kinds rd st p = refl

chain_one : (kinds : List TokenKind) (rd : ReadsExpression) (st : ReadsStatement) (n i : ℕ) (p : Place) (o : Outcome Branch) → i < n → branch kinds rd st p ≡ o
    → chain kinds rd st (n - i) p ≡ and_then o (λ x r. chain_by kinds st (chain kinds rd st (n - (i + 1))) x r (mark_at kinds r))
chain_one kinds rd st n i p o h e =
    ap (λ m. chain kinds rd st m p) (one_further n i h) ∙ chain_on kinds rd st (n - (i + 1)) p
    ∙ ap (λ o. and_then o (λ x r. chain_by kinds st (chain kinds rd st (n - (i + 1))) x r (mark_at kinds r))) e

by_other : (kinds : List TokenKind) (st : ReadsStatement) (more : Place → Outcome Chain) (x : Branch) (r : Place) (m : spec.Mark) → (bare m ≡ mark.Else → ⊥)
    → chain_by kinds st more x r m ≡ Gives (Chains (x ∷ []) None) (leave (leave r))
by_other kinds st more x r spec.Else h = absurd (h refl)
by_other kinds st more x r _ h = refl

by_else : (kinds : List TokenKind) (st : ReadsStatement) (more : Place → Outcome Chain) (x : Branch) (r : Place) (m : spec.Mark) → bare m ≡ mark.Else
    → chain_by kinds st more x r m ≡ else_by st more x r (mark_at kinds (next r))
by_else kinds st more x r spec.Else h = refl
by_else kinds st more x r _ h = cc

else_if : (st : ReadsStatement) (more : Place → Outcome Chain) (x : Branch) (r : Place) (m : spec.Mark) → bare m ≡ mark.If
    → else_by st more x r m ≡ and_then (more (enter (leave (next r)))) (first_chained x)
else_if st more x r spec.If h = refl
else_if st more x r _ h = cc

else_other : (st : ReadsStatement) (more : Place → Outcome Chain) (x : Branch) (r : Place) (m : spec.Mark) → (bare m ≡ mark.If → ⊥)
    → else_by st more x r m ≡ and_then (st (enter (leave (next r)))) (λ y s. Gives (Chains (x ∷ []) (Some y)) (leave (leave s)))
else_other st more x r spec.If h = absurd (h refl)
else_other st more x r _ h = refl

pub chain_ends : (kinds : List TokenKind) (rd : ReadsExpression) (st : ReadsStatement) (n i : ℕ) (p : Place) (whole : Outcome Chain) (xs : List Branch)
    → whole ≡ resumed (length xs) xs (chain kinds rd st (n - i) p) → n ≡ i → and_then whole chained ≡ Refuses
chain_ends kinds rd st n i p whole xs e h =
    let z : n - i ≡ zero = omega arith in
    ap (λ o. and_then o chained) (e ∙ ap (λ m. resumed (length xs) xs (chain kinds rd st m p)) z ∙ ap (resumed (length xs) xs) (chain_zero kinds rd st p))

pub chain_fails : (kinds : List TokenKind) (rd : ReadsExpression) (st : ReadsStatement) (n i : ℕ) (p : Place) (whole : Outcome Chain) (xs : List Branch)
    → whole ≡ resumed (length xs) xs (chain kinds rd st (n - i) p) → i < n → branch kinds rd st p ≡ Refuses → and_then whole chained ≡ Refuses
chain_fails kinds rd st n i p whole xs e h f = ap (λ o. and_then o chained) (e ∙ ap (resumed (length xs) xs) (chain_one kinds rd st n i p Refuses h f))

pub chain_last : (kinds : List TokenKind) (rd : ReadsExpression) (st : ReadsStatement) (n i k : ℕ) (p r : Place) (whole : Outcome Chain) (xs ys : List Branch) (x : Branch)
    → whole ≡ resumed (length xs) xs (chain kinds rd st (n - i) p) → i < n → branch kinds rd st p ≡ Gives x r → (bare_at kinds r ≡ mark.Else → ⊥)
    → ys ≡ xs ++ x ∷ [] → k ≡ length ys → and_then whole chained ≡ Gives (statement_node.If ys) (leaves k r)
chain_last kinds rd st n i k p r whole xs ys x e h f g d b =
    ap (λ o. and_then o chained) (e ∙ ap (resumed (length xs) xs) (chain_one kinds rd st n i p (Gives x r) h f
    ∙ by_other kinds st (chain kinds rd st (n - (i + 1))) x r (mark_at kinds r) g))
    ∙ ap (λ zs. Gives (statement_node.If zs) (leaves (suc (length xs)) r)) (sym d)
    ∙ ap (λ k. Gives (statement_node.If ys) (leaves k r)) (sym (b ∙ ap length d ∙ length_more xs x))

chain_else_at : (kinds : List TokenKind) (rd : ReadsExpression) (st : ReadsStatement) (n i : ℕ) (p r s : Place) (xs : List Branch) (x : Branch) (o : Outcome Statement)
    → i < n → branch kinds rd st p ≡ Gives x r → bare_at kinds r ≡ mark.Else → s ≡ enter (leave (next r)) → (bare_at kinds s ≡ mark.If → ⊥) → st s ≡ o
    → resumed (length xs) xs (chain kinds rd st (n - i) p) ≡ resumed (length xs) xs (and_then o (λ y t. Gives (Chains (x ∷ []) (Some y)) (leave (leave t))))
chain_else_at kinds rd st n i p r s xs x o h f g b k e =
    ap (resumed (length xs) xs) (chain_one kinds rd st n i p (Gives x r) h f ∙ by_else kinds st (chain kinds rd st (n - (i + 1))) x r (mark_at kinds r) g
    ∙ else_other st (chain kinds rd st (n - (i + 1))) x r (mark_at kinds (next r)) (subst (λ s. bare_at kinds s ≡ mark.If → ⊥) b k)
    ∙ ap (λ o. and_then o (λ y t. Gives (Chains (x ∷ []) (Some y)) (leave (leave t)))) (ap st (sym b) ∙ e))

last_else_by : (xs : List Branch) (x : Branch) (o : Outcome Statement)
    → and_then (resumed (length xs) xs (and_then o (λ y t. Gives (Chains (x ∷ []) (Some y)) (leave (leave t))))) chained
    ≡ and_then o (λ y t. Gives (statement_node.IfElse (xs ++ x ∷ []) y) (leaves (length (xs ++ x ∷ [])) t))
last_else_by xs x (Gives y t) = ap (λ k. Gives (statement_node.IfElse (xs ++ x ∷ []) y) (leaves k t)) (sym (length_more xs x))
last_else_by xs x Refuses = refl

pub chain_else : (kinds : List TokenKind) (rd : ReadsExpression) (st : ReadsStatement) (n i : ℕ) (p r s : Place) (whole : Outcome Chain) (xs ys : List Branch) (x : Branch)
    → whole ≡ resumed (length xs) xs (chain kinds rd st (n - i) p) → i < n → branch kinds rd st p ≡ Gives x r → bare_at kinds r ≡ mark.Else
    → s ≡ enter (leave (next r)) → (bare_at kinds s ≡ mark.If → ⊥) → ys ≡ xs ++ x ∷ [] → and_then whole chained ≡ last_else st ys s
chain_else kinds rd st n i p r s whole xs ys x e h f g b m d =
    ap (λ o. and_then o chained) (e ∙ chain_else_at kinds rd st n i p r s xs x (st s) h f g b m refl) ∙ last_else_by xs x (st s)
    ∙ ap (λ zs. last_else st zs s) (sym d)

pub chain_else_read : (kinds : List TokenKind) (rd : ReadsExpression) (st : ReadsStatement) (n i : ℕ) (p r s t : Place) (whole : Outcome Chain) (xs ys : List Branch) (x : Branch)
    (result : Result Statement Fault) → whole ≡ resumed (length xs) xs (chain kinds rd st (n - i) p) → i < n → branch kinds rd st p ≡ Gives x r
    → bare_at kinds r ≡ mark.Else → s ≡ enter (leave (next r)) → (bare_at kinds s ≡ mark.If → ⊥) → ys ≡ xs ++ x ∷ []
    → Reads (last_else st ys s) result t → Reads (and_then whole chained) result t
chain_else_read kinds rd st n i p r s t whole xs ys x result e h f g b m d read =
    subst (λ o. Reads o result t) (sym (chain_else kinds rd st n i p r s whole xs ys x e h f g b m d)) read

pub chain_goes_on : (kinds : List TokenKind) (rd : ReadsExpression) (st : ReadsStatement) (n i : ℕ) (p r s : Place) (whole : Outcome Chain) (xs ys : List Branch) (x : Branch)
    → whole ≡ resumed (length xs) xs (chain kinds rd st (n - i) p) → i < n → branch kinds rd st p ≡ Gives x r → bare_at kinds r ≡ mark.Else
    → s ≡ enter (leave (next r)) → bare_at kinds s ≡ mark.If → ys ≡ xs ++ x ∷ []
    → whole ≡ resumed (length ys) ys (chain kinds rd st (n - (i + 1)) s)
chain_goes_on kinds rd st n i p r s whole xs ys x e h f g b k d =
    e ∙ ap (resumed (length xs) xs) (chain_one kinds rd st n i p (Gives x r) h f ∙ by_else kinds st (chain kinds rd st (n - (i + 1))) x r (mark_at kinds r) g
    ∙ else_if st (chain kinds rd st (n - (i + 1))) x r (mark_at kinds (next r)) (subst (λ s. bare_at kinds s ≡ mark.If) b k))
    ∙ resumed_first (length xs) xs x (chain kinds rd st (n - (i + 1)) (enter (leave (next r))))
    ∙ ap (λ k. resumed k (xs ++ x ∷ []) (chain kinds rd st (n - (i + 1)) (enter (leave (next r))))) (sym (length_more xs x))
    ∙ ap (λ zs. resumed (length zs) zs (chain kinds rd st (n - (i + 1)) (enter (leave (next r))))) (sym d)
    ∙ ap (λ s. resumed (length ys) ys (chain kinds rd st (n - (i + 1)) s)) (sym b)

pub chain_begins : (kinds : List TokenKind) (rd : ReadsExpression) (st : ReadsStatement) (n m : ℕ) (p : Place) (xs : List Branch) → m ≡ n → xs ≡ []
    → chain kinds rd st n p ≡ resumed (length xs) xs (chain kinds rd st m p)
chain_begins kinds rd st n m p xs h d =
    resumed_none (chain kinds rd st n p) ∙ ap (λ k. resumed 0 [] (chain kinds rd st k p)) (sym h) ∙ ap (λ zs. resumed (length zs) zs (chain kinds rd st m p)) (sym d)
