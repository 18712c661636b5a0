-- What the reader reads is spelled by the tokens.
use Rattle.std.proofs.Common.{◌≡◌, ℕ, zero, suc, ◌+◌, ◌-◌, ◌<◌, ◌≤◌, List, [], ◌∷◌, Bool, true, false, refl, ◌∙◌, sym, subst, arith, inl, inr}
use Rattle.std.specs.Prelude.{nat_le}
use Rattle.c_tokens.specs.declared.token.TokenKind.{TokenKind}
use Rattle.c_tree.specs.declared.expression.Expression.{Expression}
use Rattle.c_tree.specs.declared.expression.Expression.TheVariants as tree
use Rattle.c_tree.specs.declared.expression.TypeName.{TypeName}
use Rattle.c_tree.specs.Places.{Place, next, names_type}
use Rattle.c_tree.specs.Signs.{level}
use Rattle.c_tree.specs.Spells as grammar
use Rattle.c_tree.specs.Spells.{IsExpression, AreAssignments, IsTypeName}
use Rattle.c_grammar.specs.declared.kinds.Suffix.{Suffix}
use Rattle.c_grammar.specs.declared.kinds.Suffix.TheVariants.{Infix, Assigns, Asks, Commas, Subscripts, Calls, Selects, Points, Steps, NoSuffix}
use Rattle.c_grammar.specs.Kinds.{kind_at, suffix, needs, below, Prefix, Names, Constants, Texts, Opens, StepsFirst, Operates, Sizes, NoPrefix, prefix, begins_type}
use Rattle.c_grammar.specs.ReadExpressions.{Outcome, Gives, and_then, where_closes, where_square_closes, ReadsExpression, Continues, Lists, Types, items, items_after, call_of, choice_of, suffix_taken, bracketed, sized_by, sized, prefix_taken}
use Rattle.c_grammar.specs.Readers.{read, more, types}
use Rattle.c_grammar_laws.proofs.KindLaws.{suffix_means, prefix_means, level_high}
use Rattle.c_grammar.specs.Marks as sign
use Rattle.c_grammar.specs.Marks.{Mark, mark_at}
use Rattle.c_grammar_laws.proofs.Marked.{closes_gives, square_closes_gives, colon_gives, says}
use Rattle.c_grammar_laws.proofs.Steps.{then_gives, gives_as, name_gives, if_gives, unless_gives, le_true, Decided, more_ends, more_none, more_goes, items_none, items_on, goes_true}

-- ---- levels

pass_by : (kinds : List TokenKind) (j k : ℕ) (p q : Place) (x : Expression) → IsExpression kinds (k + j) p q x → IsExpression kinds k p q x
pass_by kinds zero k p q x d = let e : k + 0 ≡ k = omega arith in subst (λ i. IsExpression kinds i p q x) e d
pass_by kinds (suc j) k p q x d =
    let e : k + suc j ≡ (k + 1) + j = omega arith in
    grammar.pass k p q x (pass_by kinds j (k + 1) p q x (subst (λ i. IsExpression kinds i p q x) e d))

pub down : (kinds : List TokenKind) (k j : ℕ) (p q : Place) (x : Expression) → k ≤ j → IsExpression kinds j p q x → IsExpression kinds k p q x
down kinds k j p q x h d =
    let e : j ≡ k + (j - k) = omega arith in
    pass_by kinds (j - k) k p q x (subst (λ i. IsExpression kinds i p q x) e d)

-- ---- what is asked of the parts

abbrev pub IsSoundReader : List TokenKind → ReadsExpression → Type 0
IsSoundReader kinds rd = (least : ℕ) (p : Place) (x : Expression) (q : Place) → least ≤ 14 → rd least p ≡ Gives x q → IsExpression kinds least p q x

abbrev pub IsSoundContinues : List TokenKind → Continues → Type 0
IsSoundContinues kinds go = (reached least : ℕ) (p q r : Place) (x y : Expression) → least ≤ reached → IsExpression kinds reached p q x → go reached least x q ≡ Gives y r
    → IsExpression kinds least p r y

abbrev pub IsSoundLists : List TokenKind → Lists → Type 0
IsSoundLists kinds list = (p : Place) (xs : List Expression) (q : Place) → list p ≡ Gives xs q → AreAssignments kinds p q xs

abbrev pub IsSoundTypes : List TokenKind → Types → Type 0
IsSoundTypes kinds types = (p : Place) (t : TypeName) (q : Place) → types p ≡ Gives t q → IsTypeName kinds p q t

-- ---- assignment expressions with commas

items_after_sound : (kinds : List TokenKind) (list : Lists) → IsSoundLists kinds list → (p q r : Place) (x : Expression) (xs : List Expression) (s : Suffix)
    → suffix (kind_at kinds q) ≡ s → IsExpression kinds 1 p q x → items_after list x q s ≡ Gives xs r → AreAssignments kinds p r xs
items_after_sound kinds list il p q r x xs Commas e d h =
    let t = then_gives (list (next q)) (λ ys v. Gives (x ∷ ys) v) xs r h in
    let all = grammar.more_assignments p q t.1 x t.0 d (suffix_means (kind_at kinds q) Commas e (λ z. cc)) (il (next q) t.0 t.1 t.2) in
    gives_as (λ ys v. AreAssignments kinds p v ys) (x ∷ t.0) xs t.1 r t.3 all
items_after_sound kinds list il p q r x xs _ e d h = gives_as (λ ys v. AreAssignments kinds p v ys) (x ∷ []) xs q r h (grammar.one_assignment p q x d)

pub items_sound : (kinds : List TokenKind) (rd : ReadsExpression) → IsSoundReader kinds rd → (n : ℕ) → IsSoundLists kinds (items kinds rd n)
items_sound kinds rd ird zero p xs q h = let z = items_none kinds rd p in cc
items_sound kinds rd ird (suc n) p xs q h =
    let t = then_gives (rd 1 p) (λ x v. items_after (items kinds rd n) x v (suffix (kind_at kinds v))) xs q (sym (items_on kinds rd n p) ∙ h) in
    items_after_sound kinds (items kinds rd n) (items_sound kinds rd ird n) p t.1 q t.0 xs (suffix (kind_at kinds t.1)) refl (ird 1 p t.0 t.1 (omega arith) t.2) t.3

-- ---- after an operand

call_sound : (kinds : List TokenKind) (list : Lists) (go : Continues) → IsSoundLists kinds list → IsSoundContinues kinds go → (least : ℕ) (p q r : Place) (x y : Expression) (s : Mark)
    → least ≤ 15 → suffix (kind_at kinds q) ≡ Calls → mark_at kinds (next q) ≡ s → IsExpression kinds 15 p q x → call_of kinds list go least x q s ≡ Gives y r
    → IsExpression kinds least p r y
call_sound kinds list go il igo least p q r x y sign.RoundCloses le e f d h =
    igo 15 least p (next (next q)) r (tree.Call x [] q.at) y le
    (grammar.call_empty p q x d (suffix_means (kind_at kinds q) Calls e (λ z. cc)) (says kinds (next q) sign.RoundCloses f (λ z. cc))) h
call_sound kinds list go il igo least p q r x y _ le e f d h =
    let t = then_gives (list (next q)) (λ xs v. where_closes (mark_at kinds v) (go 15 least (tree.Call x xs q.at) (next v))) y r h in
    let c = closes_gives (mark_at kinds t.1) (go 15 least (tree.Call x t.0 q.at) (next t.1)) y r t.3 in
    igo 15 least p (next t.1) r (tree.Call x t.0 q.at) y le
    (grammar.call p q t.1 x t.0 d (suffix_means (kind_at kinds q) Calls e (λ z. cc)) (il (next q) t.0 t.1 t.2) (says kinds t.1 sign.RoundCloses c.0 (λ z. cc))) c.1

choice_sound : (kinds : List TokenKind) (rd : ReadsExpression) (go : Continues) → IsSoundReader kinds rd → IsSoundContinues kinds go → (least : ℕ) (p q r v : Place) (x y w : Expression)
    → least ≤ 2 → suffix (kind_at kinds q) ≡ Asks → IsExpression kinds 3 p q x → IsExpression kinds 0 (next q) r y → choice_of kinds rd go least x q y r ≡ Gives w v
    → IsExpression kinds least p v w
choice_sound kinds rd go ird igo least p q r v x y w le e d f h =
    let c = colon_gives (mark_at kinds r) (and_then (rd 2 (next r)) (λ z s. go 2 least (tree.Conditional x y z q.at) s)) w v h in
    let t = then_gives (rd 2 (next r)) (λ z s. go 2 least (tree.Conditional x y z q.at) s) w v c.1 in
    igo 2 least p t.1 v (tree.Conditional x y t.0 q.at) w le
    (grammar.conditional p q r t.1 x y t.0 d (suffix_means (kind_at kinds q) Asks e (λ z. cc)) f (says kinds r sign.Colon c.0 (λ z. cc)) (ird 2 (next r) t.0 t.1 (omega arith) t.2)) t.3

pub suffix_sound : (kinds : List TokenKind) (rd : ReadsExpression) (list : Lists) (go : Continues) → IsSoundReader kinds rd → IsSoundLists kinds list → IsSoundContinues kinds go
    → (reached least : ℕ) (p q r : Place) (x y : Expression) (s : Suffix) → least < below s → needs s ≤ reached → suffix (kind_at kinds q) ≡ s
    → IsExpression kinds reached p q x → suffix_taken kinds rd list go least x q s ≡ Gives y r → IsExpression kinds least p r y
suffix_sound kinds rd list go ird il igo reached least p q r x y (Infix operator) a b e d h =
    let t = then_gives (rd (level operator + 1) (next q)) (λ z v. go (level operator) least (tree.Binary operator x z q.at) v) y r h in
    igo (level operator) least p t.1 r (tree.Binary operator x t.0 q.at) y (omega arith)
    (grammar.binary p q t.1 operator x t.0 (down kinds (level operator) reached p q x b d) (suffix_means (kind_at kinds q) (Infix operator) e (λ z. cc))
    (ird (level operator + 1) (next q) t.0 t.1 (omega (arith, level_high operator)) t.2)) t.3
suffix_sound kinds rd list go ird il igo reached least p q r x y (Assigns operator) a b e d h =
    let t = then_gives (rd 1 (next q)) (λ z v. go 1 least (tree.Assign operator x z q.at) v) y r h in
    igo 1 least p t.1 r (tree.Assign operator x t.0 q.at) y (omega arith)
    (grammar.assign p q t.1 operator x t.0 (down kinds 14 reached p q x b d) (suffix_means (kind_at kinds q) (Assigns operator) e (λ z. cc)) (ird 1 (next q) t.0 t.1 (omega arith) t.2)) t.3
suffix_sound kinds rd list go ird il igo reached least p q r x y Asks a b e d h =
    let t = then_gives (rd 0 (next q)) (choice_of kinds rd go least x q) y r h in
    choice_sound kinds rd go ird igo least p q t.1 r x t.0 y (omega arith) e (down kinds 3 reached p q x b d) (ird 0 (next q) t.0 t.1 (omega arith) t.2) t.3
suffix_sound kinds rd list go ird il igo reached least p q r x y Commas a b e d h =
    let t = then_gives (list (next q)) (λ xs v. go 0 least (tree.Comma (x ∷ xs) q.at) v) y r h in
    igo 0 least p t.1 r (tree.Comma (x ∷ t.0) q.at) y (omega arith)
    (grammar.comma p q t.1 x t.0 (down kinds 1 reached p q x b d) (suffix_means (kind_at kinds q) Commas e (λ z. cc)) (il (next q) t.0 t.1 t.2)) t.3
suffix_sound kinds rd list go ird il igo reached least p q r x y Subscripts a b e d h =
    let t = then_gives (rd 0 (next q)) (λ z v. where_square_closes (mark_at kinds v) (go 15 least (tree.Subscript x z q.at) (next v))) y r h in
    let c = square_closes_gives (mark_at kinds t.1) (go 15 least (tree.Subscript x t.0 q.at) (next t.1)) y r t.3 in
    igo 15 least p (next t.1) r (tree.Subscript x t.0 q.at) y (omega arith)
    (grammar.subscript p q t.1 x t.0 (down kinds 15 reached p q x b d) (suffix_means (kind_at kinds q) Subscripts e (λ z. cc)) (ird 0 (next q) t.0 t.1 (omega arith) t.2)
    (says kinds t.1 sign.SquareCloses c.0 (λ z. cc))) c.1
suffix_sound kinds rd list go ird il igo reached least p q r x y Calls a b e d h =
    call_sound kinds list go il igo least p q r x y (mark_at kinds (next q)) (omega arith) e refl (down kinds 15 reached p q x b d) h
suffix_sound kinds rd list go ird il igo reached least p q r x y Selects a b e d h =
    let t = name_gives (prefix (kind_at kinds (next q))) (λ text. go 15 least (tree.Member x text q.at) (next (next q))) y r h in
    igo 15 least p (next (next q)) r (tree.Member x t.0 q.at) y (omega arith)
    (grammar.member p q x t.0 (down kinds 15 reached p q x b d) (suffix_means (kind_at kinds q) Selects e (λ z. cc)) (prefix_means (kind_at kinds (next q)) (Names t.0) t.1 (λ z. cc))) t.2
suffix_sound kinds rd list go ird il igo reached least p q r x y Points a b e d h =
    let t = name_gives (prefix (kind_at kinds (next q))) (λ text. go 15 least (tree.PointedMember x text q.at) (next (next q))) y r h in
    igo 15 least p (next (next q)) r (tree.PointedMember x t.0 q.at) y (omega arith)
    (grammar.pointed_member p q x t.0 (down kinds 15 reached p q x b d) (suffix_means (kind_at kinds q) Points e (λ z. cc)) (prefix_means (kind_at kinds (next q)) (Names t.0) t.1 (λ z. cc))) t.2
suffix_sound kinds rd list go ird il igo reached least p q r x y (Steps step) a b e d h =
    igo 15 least p (next q) r (tree.Postfix step x q.at) y (omega arith)
    (grammar.postfix p q step x (down kinds 15 reached p q x b d) (suffix_means (kind_at kinds q) (Steps step) e (λ z. cc))) h
suffix_sound kinds rd list go ird il igo reached least p q r x y NoSuffix a b e d h = cc

-- ---- where an operand is due

bracketed_sound : (kinds : List TokenKind) (rd : ReadsExpression) (types : Types) (go : Continues) → IsSoundReader kinds rd → IsSoundTypes kinds types → IsSoundContinues kinds go
    → (least : ℕ) (p r : Place) (y : Expression) (b : Bool) → least ≤ 14 → prefix (kind_at kinds p) ≡ Opens → bracketed kinds rd types go least p b ≡ Gives y r
    → IsExpression kinds least p r y
bracketed_sound kinds rd types go ird it igo least p r y true le e h =
    let f = if_gives (nat_le least 13) (and_then (types (next p)) (λ t q. where_closes (mark_at kinds q) (and_then (rd 13 (next q)) (λ x v. go 13 least (tree.Cast t x p.at) v)))) y r h in
    let t = then_gives (types (next p)) (λ t q. where_closes (mark_at kinds q) (and_then (rd 13 (next q)) (λ x v. go 13 least (tree.Cast t x p.at) v))) y r f.1 in
    let c = closes_gives (mark_at kinds t.1) (and_then (rd 13 (next t.1)) (λ x v. go 13 least (tree.Cast t.0 x p.at) v)) y r t.3 in
    let u = then_gives (rd 13 (next t.1)) (λ x v. go 13 least (tree.Cast t.0 x p.at) v) y r c.1 in
    igo 13 least p u.1 r (tree.Cast t.0 u.0 p.at) y (le_true least 13 f.0)
    (grammar.cast p t.1 u.1 t.0 u.0 (prefix_means (kind_at kinds p) Opens e (λ z. cc)) (it (next p) t.0 t.1 t.2) (says kinds t.1 sign.RoundCloses c.0 (λ z. cc))
    (ird 13 (next t.1) u.0 u.1 (omega arith) u.2)) u.3
bracketed_sound kinds rd types go ird it igo least p r y false le e h =
    let t = then_gives (rd 0 (next p)) (λ x q. where_closes (mark_at kinds q) (go 15 least x (next q))) y r h in
    let c = closes_gives (mark_at kinds t.1) (go 15 least t.0 (next t.1)) y r t.3 in
    igo 15 least p (next t.1) r t.0 y (omega arith)
    (grammar.brackets p t.1 t.0 (prefix_means (kind_at kinds p) Opens e (λ z. cc)) (ird 0 (next p) t.0 t.1 (omega arith) t.2) (says kinds t.1 sign.RoundCloses c.0 (λ z. cc))) c.1

sized_expression_sound : (kinds : List TokenKind) (rd : ReadsExpression) (types : Types) (go : Continues) → IsSoundReader kinds rd → IsSoundContinues kinds go
    → (least : ℕ) (p r : Place) (y : Expression) → least ≤ 14 → prefix (kind_at kinds p) ≡ Sizes → sized_by kinds rd types go least p false ≡ Gives y r → IsExpression kinds least p r y
sized_expression_sound kinds rd types go ird igo least p r y le e h =
    let t = then_gives (rd 14 (next p)) (λ x q. go 14 least (tree.SizeofExpression x p.at) q) y r h in
    igo 14 least p t.1 r (tree.SizeofExpression t.0 p.at) y le
    (grammar.sizeof_expression p t.1 t.0 (prefix_means (kind_at kinds p) Sizes e (λ z. cc)) (ird 14 (next p) t.0 t.1 (omega arith) t.2)) t.3

sized_opens_sound : (kinds : List TokenKind) (rd : ReadsExpression) (types : Types) (go : Continues) → IsSoundReader kinds rd → IsSoundTypes kinds types → IsSoundContinues kinds go
    → (least : ℕ) (p r : Place) (y : Expression) (b : Bool) → least ≤ 14 → prefix (kind_at kinds p) ≡ Sizes → prefix (kind_at kinds (next p)) ≡ Opens
    → sized_by kinds rd types go least p b ≡ Gives y r → IsExpression kinds least p r y
sized_opens_sound kinds rd types go ird it igo least p r y true le e f h =
    let t = then_gives (types (next (next p))) (λ t q. where_closes (mark_at kinds q) (go 14 least (tree.SizeofType t p.at) (next q))) y r h in
    let c = closes_gives (mark_at kinds t.1) (go 14 least (tree.SizeofType t.0 p.at) (next t.1)) y r t.3 in
    igo 14 least p (next t.1) r (tree.SizeofType t.0 p.at) y le
    (grammar.sizeof_type p t.1 t.0 (prefix_means (kind_at kinds p) Sizes e (λ z. cc)) (prefix_means (kind_at kinds (next p)) Opens f (λ z. cc)) (it (next (next p)) t.0 t.1 t.2)
    (says kinds t.1 sign.RoundCloses c.0 (λ z. cc))) c.1
sized_opens_sound kinds rd types go ird it igo least p r y false le e f h = sized_expression_sound kinds rd types go ird igo least p r y le e h

sized_sound : (kinds : List TokenKind) (rd : ReadsExpression) (types : Types) (go : Continues) → IsSoundReader kinds rd → IsSoundTypes kinds types → IsSoundContinues kinds go
    → (least : ℕ) (p r : Place) (y : Expression) (s : Prefix) → least ≤ 14 → prefix (kind_at kinds p) ≡ Sizes → prefix (kind_at kinds (next p)) ≡ s
    → sized kinds rd types go least p s ≡ Gives y r → IsExpression kinds least p r y
sized_sound kinds rd types go ird it igo least p r y Opens le e f h = sized_opens_sound kinds rd types go ird it igo least p r y (begins_type kinds (next (next p))) le e f h
sized_sound kinds rd types go ird it igo least p r y _ le e f h = sized_expression_sound kinds rd types go ird igo least p r y le e h

pub prefix_sound : (kinds : List TokenKind) (rd : ReadsExpression) (types : Types) (go : Continues) → IsSoundReader kinds rd → IsSoundTypes kinds types → IsSoundContinues kinds go
    → (least : ℕ) (p r : Place) (y : Expression) (s : Prefix) → least ≤ 14 → prefix (kind_at kinds p) ≡ s → prefix_taken kinds rd types go least p s ≡ Gives y r
    → IsExpression kinds least p r y
prefix_sound kinds rd types go ird it igo least p r y (Names text) le e h =
    let u = unless_gives (names_type p.blocks text) (go 15 least (tree.Name text p.at) (next p)) y r h in
    igo 15 least p (next p) r (tree.Name text p.at) y (omega arith) (grammar.name p text (prefix_means (kind_at kinds p) (Names text) e (λ z. cc)) u.0) u.1
prefix_sound kinds rd types go ird it igo least p r y (Constants kind value) le e h =
    igo 15 least p (next p) r (tree.Constant kind value p.at) y (omega arith) (grammar.constant p kind value (prefix_means (kind_at kinds p) (Constants kind value) e (λ z. cc))) h
prefix_sound kinds rd types go ird it igo least p r y Texts le e h =
    igo 15 least p (next p) r (tree.Text p.at) y (omega arith) (grammar.text p (prefix_means (kind_at kinds p) Texts e (λ z. cc))) h
prefix_sound kinds rd types go ird it igo least p r y Opens le e h = bracketed_sound kinds rd types go ird it igo least p r y (begins_type kinds (next p)) le e h
prefix_sound kinds rd types go ird it igo least p r y (StepsFirst step) le e h =
    let t = then_gives (rd 14 (next p)) (λ x q. go 14 least (tree.Prefix step x p.at) q) y r h in
    igo 14 least p t.1 r (tree.Prefix step t.0 p.at) y le
    (grammar.prefix p t.1 step t.0 (prefix_means (kind_at kinds p) (StepsFirst step) e (λ z. cc)) (ird 14 (next p) t.0 t.1 (omega arith) t.2)) t.3
prefix_sound kinds rd types go ird it igo least p r y (Operates operator) le e h =
    let t = then_gives (rd 13 (next p)) (λ x q. go 14 least (tree.Unary operator x p.at) q) y r h in
    igo 14 least p t.1 r (tree.Unary operator t.0 p.at) y le
    (grammar.unary p t.1 operator t.0 (prefix_means (kind_at kinds p) (Operates operator) e (λ z. cc)) (ird 13 (next p) t.0 t.1 (omega arith) t.2)) t.3
prefix_sound kinds rd types go ird it igo least p r y Sizes le e h = sized_sound kinds rd types go ird it igo least p r y (prefix (kind_at kinds (next p))) le e refl h
prefix_sound kinds rd types go ird it igo least p r y NoPrefix le e h = cc

-- ---- the reader

ends_sound : (kinds : List TokenKind) (reached least : ℕ) (p q r : Place) (x y : Expression) (o : Outcome Expression) → o ≡ Gives x q → o ≡ Gives y r → least ≤ reached
    → IsExpression kinds reached p q x → IsExpression kinds least p r y
ends_sound kinds reached least p q r x y o a b le d = gives_as (λ z v. IsExpression kinds least p v z) x y q r (sym a ∙ b) (down kinds least reached p q x le d)

pub more_sound_none : (kinds : List TokenKind) (reached least : ℕ) (p q r : Place) (x y : Expression) → least ≤ reached → IsExpression kinds reached p q x
    → more kinds zero reached least x q ≡ Gives y r → Decided reached least (suffix (kind_at kinds q)) → IsExpression kinds least p r y
more_sound_none kinds reached least p q r x y le d h (inl g) =
    let z = more_none kinds reached least x q (goes_true reached least (suffix (kind_at kinds q)) g.0 g.1) in cc
more_sound_none kinds reached least p q r x y le d h (inr f) = ends_sound kinds reached least p q r x y _ (more_ends kinds zero reached least x q f) h le d

pub more_sound_on : (kinds : List TokenKind) (n : ℕ) → IsSoundReader kinds (read kinds n) → IsSoundContinues kinds (more kinds n)
    → (reached least : ℕ) (p q r : Place) (x y : Expression) → least ≤ reached → IsExpression kinds reached p q x
    → more kinds (suc n) reached least x q ≡ Gives y r → Decided reached least (suffix (kind_at kinds q)) → IsExpression kinds least p r y
more_sound_on kinds n ird igo reached least p q r x y le d h (inl g) =
    let on = more_goes kinds n reached least x q (suffix (kind_at kinds q)) refl (goes_true reached least (suffix (kind_at kinds q)) g.0 g.1) in
    suffix_sound kinds (read kinds n) (items kinds (read kinds n) n) (more kinds n) ird (items_sound kinds (read kinds n) ird n) igo
    reached least p q r x y (suffix (kind_at kinds q)) g.0 g.1 refl d (sym on ∙ h)
more_sound_on kinds n ird igo reached least p q r x y le d h (inr f) = ends_sound kinds reached least p q r x y _ (more_ends kinds (suc n) reached least x q f) h le d
