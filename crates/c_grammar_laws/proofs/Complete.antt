-- What the tokens spell is what the reader reads.
use Rattle.std.proofs.Common.{◌≡◌, ℕ, ℤ, zero, suc, ◌+◌, ◌-◌, ◌<◌, ◌≤◌, List, [], ◌∷◌, length, true, false, refl, ap, ◌∙◌, sym, subst, arith, inl, inr}
use Rattle.std.specs.Prelude.{nat_le, if◌then◌else◌, ◌&&◌, ◌⊎◌}
use Rattle.std.proofs.lemmas.Bool.{le-leb}
use Rattle.std.proofs.lemmas.Option.{slice_get_within}
use Rattle.kv_num.specs.declared.types.IntType.{IntType}
use Rattle.c_tokens.specs.declared.token.TokenKind.{TokenKind}
use Rattle.c_tokens.specs.declared.token.TokenKind.TheVariants as token
use Rattle.c_tree.specs.declared.expression.Step.{Step}
use Rattle.c_tree.specs.declared.expression.Step.TheVariants as step
use Rattle.c_tree.specs.declared.expression.UnaryOperator.{UnaryOperator}
use Rattle.c_tree.specs.declared.expression.UnaryOperator.TheVariants as unary
use Rattle.c_tree.specs.declared.expression.BinaryOperator.{BinaryOperator}
use Rattle.c_tree.specs.declared.expression.AssignOperator.{AssignOperator}
use Rattle.c_tree.specs.declared.expression.Expression.{Expression}
use Rattle.c_tree.specs.declared.expression.Expression.TheVariants as tree
use Rattle.c_tree.specs.declared.expression.TypeName.{TypeName}
use Rattle.c_tree.specs.Places.{Place, At, next, IsOrdinary}
use Rattle.c_tree.specs.Signs.{step_sign, unary_sign, binary_sign, assign_sign, level}
use Rattle.c_tree.specs.Spells as grammar
use Rattle.c_tree.specs.Spells.{IsExpression, AreAssignments, IsTypeName}
use Rattle.c_grammar.specs.declared.kinds.Suffix.{Suffix}
use Rattle.c_grammar.specs.declared.kinds.Suffix.TheVariants.{Infix, Assigns, Asks, Commas, Subscripts, Calls, Selects, Points, Steps, NoSuffix}
use Rattle.c_grammar.specs.Kinds.{kind_at, suffix, suffix_of, needs, below, goes_on, Prefix, Names, Constants, Texts, Opens, StepsFirst, Operates, Sizes, prefix, prefix_of, begins_type, is_start, start, start_of}
use Rattle.c_grammar.specs.Marks as sign
use Rattle.c_grammar.specs.Marks.{Mark, mark, mark_of, mark_at}
use Rattle.c_grammar.specs.ReadExpressions.{Gives, Refuses, and_then, where_closes, where_square_closes, where_colon, where_name, ReadsExpression, Continues, Lists, Types, items, items_after, call_of, choice_of, suffix_taken, bracketed, sized_by, sized, prefix_taken}
use Rattle.c_grammar.specs.Readers.{read, more, types}
use Rattle.c_grammar_laws.proofs.KindLaws.{suffix-binary_sign, suffix-assign_sign, suffix-step_sign, prefix-unary_sign, prefix-step_sign, level_high, below_needs, ends_unary, ends_conditional, ends_whole}
use Rattle.c_grammar_laws.proofs.Steps.{goes_true, goes_not_below, more_ends, more_goes, read_none, read_on, items_on}

-- ---- what is shown of each part

-- the number is above that of the tokens from here on
abbrev pub Enough : List TokenKind → ℕ → Place → Type 0
Enough kinds n p = length kinds - p.at < n

-- what comes next ends an expression of the first level, or goes on with an operand of the second level
abbrev pub Ends : List TokenKind → ℕ → ℕ → Place → Type 0
Ends kinds least k q = (below (suffix (kind_at kinds q)) ≤ least) ⊎ (needs (suffix (kind_at kinds q)) ≤ k)

abbrev pub Goes : List TokenKind → ℕ → ℕ → ℕ → Place → Place → Expression → Type 0
Goes kinds n least k p q x = (m : ℕ) × Enough kinds m q × (p.at < q.at) × (read kinds n least p ≡ more kinds m k least x q)

-- the reader comes to the expression, and goes on after it
abbrev pub Reaches : List TokenKind → ℕ → Place → Place → Expression → Type 0
Reaches kinds k p q x = (n least : ℕ) → least ≤ k → least ≤ 14 → Ends kinds least k q → Enough kinds n p → Goes kinds n least k p q x

abbrev pub ReachesItems : List TokenKind → Place → Place → List Expression → Type 0
ReachesItems kinds p q xs = (n c : ℕ) → below (suffix (kind_at kinds q)) ≤ 0 → Enough kinds n p → Enough kinds c p
    → (p.at < q.at) × (items kinds (read kinds n) c p ≡ Gives xs q)

abbrev pub ReachesType : List TokenKind → Place → Place → TypeName → Type 0
ReachesType kinds p q t = (begins_type kinds p ≡ true) × ((n : ℕ) → At kinds q token.RightParenthesis → Enough kinds n p
    → (p.at < q.at) × (types kinds n p ≡ Gives t q))

-- ---- steps

abbrev Room : List TokenKind → ℕ → Place → Type 0
Room kinds n p = (m : ℕ) × (n ≡ suc m) × Enough kinds m (next p)

room : (kinds : List TokenKind) (n : ℕ) (p : Place) (kind : TokenKind) → At kinds p kind → Enough kinds n p → Room kinds n p
room kinds zero p kind a e = absurd (omega arith)
room kinds (suc m) p kind a e = (m, refl, omega (arith, slice_get_within kinds p.at kind a))

abbrev Begun : List TokenKind → ℕ → ℕ → Place → Prefix → Type 0
Begun kinds n least p s = (m : ℕ) × Enough kinds m (next p)
    × (read kinds n least p ≡ prefix_taken kinds (read kinds m) (types kinds m) (more kinds m) least p s)

begun : (kinds : List TokenKind) (n least : ℕ) (p : Place) (kind : TokenKind) (s : Prefix) → At kinds p kind → prefix_of kind ≡ s → Enough kinds n p
    → Begun kinds n least p s
begun kinds n least p kind s a f e =
    let r = room kinds n p kind a e in
    let w : prefix (kind_at kinds p) ≡ s = ap prefix a ∙ f in (
      r.0,
      r.2,
      ap (λ i. read kinds i least p) r.1 ∙ read_on kinds r.0 least p
          ∙ ap (prefix_taken kinds (read kinds r.0) (types kinds r.0) (more kinds r.0) least p) w,
    )

abbrev Taken : List TokenKind → ℕ → ℕ → ℕ → Expression → Place → Suffix → Type 0
Taken kinds n k least x q s = (m : ℕ) × Enough kinds m (next q)
    × (more kinds n k least x q ≡ suffix_taken kinds (read kinds m) (items kinds (read kinds m) m) (more kinds m) least x q s)

taken : (kinds : List TokenKind) (n k least : ℕ) (x : Expression) (q : Place) (kind : TokenKind) (s : Suffix) → At kinds q kind → suffix_of kind ≡ s
    → least < below s → needs s ≤ k → Enough kinds n q → Taken kinds n k least x q s
taken kinds n k least x q kind s a f b d e =
    let r = room kinds n q kind a e in
    let w : suffix (kind_at kinds q) ≡ s = ap suffix a ∙ f in
    (r.0, r.2, ap (λ i. more kinds i k least x q) r.1 ∙ more_goes kinds r.0 k least x q s w (goes_true k least s b d))

-- an operand goes on with what follows it
goes_by_needs : (kinds : List TokenKind) (least k : ℕ) (q : Place) (kind : TokenKind) (s : Suffix) → At kinds q kind → suffix_of kind ≡ s → needs s ≤ k → Ends kinds least k q
goes_by_needs kinds least k q kind s a f d = let w : suffix (kind_at kinds q) ≡ s = ap suffix a ∙ f in inr (subst (λ z. needs z ≤ k) (sym w) d)

pub below_at : (kinds : List TokenKind) (k : ℕ) (q : Place) (kind : TokenKind) (s : Suffix) → At kinds q kind → suffix_of kind ≡ s → below s ≤ k → below (suffix (kind_at kinds q)) ≤ k
below_at kinds k q kind s a f d = let w : suffix (kind_at kinds q) ≡ s = ap suffix a ∙ f in subst (λ z. below z ≤ k) (sym w) d

abbrev Exact : List TokenKind → ℕ → ℕ → Place → Place → Expression → Type 0
Exact kinds n k p q x = (p.at < q.at) × (read kinds n k p ≡ Gives x q)

pub exact : (kinds : List TokenKind) (k : ℕ) (p q : Place) (x : Expression) → Reaches kinds k p q x → (n : ℕ) → k ≤ 14
    → below (suffix (kind_at kinds q)) ≤ k → Enough kinds n p → Exact kinds n k p q x
exact kinds k p q x reaches n le stop e =
    let g = reaches n k (omega arith) le (inl stop) e in
    (g.2, g.3 ∙ more_ends kinds g.0 k k x q (goes_not_below k k (suffix (kind_at kinds q)) stop))

-- ---- the first token is none that begins specifiers

step_start : (step : Step) → start_of (step_sign step) ≡ start_of token.Sizeof
step_start step.Increment = refl
step_start step.Decrement = refl

unary_start : (operator : UnaryOperator) → start_of (unary_sign operator) ≡ start_of token.Sizeof
unary_start unary.Address = refl
unary_start unary.Indirection = refl
unary_start unary.Plus = refl
unary_start unary.Minus = refl
unary_start unary.Complement = refl
unary_start unary.Not = refl

pub leads : (kinds : List TokenKind) (k : ℕ) (p q : Place) (x : Expression) → IsExpression kinds k p q x → begins_type kinds p ≡ false
leads kinds k from to whole (grammar.name p text a o) = ap (λ i. is_start p (start i)) a ∙ o
leads kinds k from to whole (grammar.constant p kind value a) = ap (λ i. is_start p (start i)) a
leads kinds k from to whole (grammar.text p a) = ap (λ i. is_start p (start i)) a
leads kinds k from to whole (grammar.brackets p r y a d b) = ap (λ i. is_start p (start i)) a
leads kinds k from to whole (grammar.subscript p r s y z d a e b) = leads kinds 15 p r y d
leads kinds k from to whole (grammar.call_empty p r y d a b) = leads kinds 15 p r y d
leads kinds k from to whole (grammar.call p r s y ys d a e b) = leads kinds 15 p r y d
leads kinds k from to whole (grammar.member p r y text d a b) = leads kinds 15 p r y d
leads kinds k from to whole (grammar.pointed_member p r y text d a b) = leads kinds 15 p r y d
leads kinds k from to whole (grammar.postfix p r step y d a) = leads kinds 15 p r y d
leads kinds k from to whole (grammar.prefix p r step y a d) = ap (λ i. is_start p (start i)) a ∙ ap (is_start p) (step_start step)
leads kinds k from to whole (grammar.unary p r operator y a d) = ap (λ i. is_start p (start i)) a ∙ ap (is_start p) (unary_start operator)
leads kinds k from to whole (grammar.sizeof_expression p r y a d) = ap (λ i. is_start p (start i)) a
leads kinds k from to whole (grammar.sizeof_type p r t a b d c) = ap (λ i. is_start p (start i)) a
leads kinds k from to whole (grammar.cast p r s t y a d b e) = ap (λ i. is_start p (start i)) a
leads kinds k from to whole (grammar.binary p r s operator y z d a e) = leads kinds (level operator) p r y d
leads kinds k from to whole (grammar.conditional p r s t y z w d a e b f) = leads kinds 3 p r y d
leads kinds k from to whole (grammar.assign p r s operator y z d a e) = leads kinds 14 p r y d
leads kinds k from to whole (grammar.comma p r s y ys d a e) = leads kinds 1 p r y d
leads kinds k from to whole (grammar.pass j p r y d) = leads kinds (j + 1) p r y d

-- ---- primary expressions

pub name_goes : (kinds : List TokenKind) (p : Place) (text : List ℕ) → At kinds p (token.Name text) → IsOrdinary p text
    → Reaches kinds 15 p (next p) (tree.Name text p.at)
name_goes kinds p text a o n least h l s e =
    let b = begun kinds n least p (token.Name text) (Names text) a refl e in
    (b.0, b.1, omega arith, b.2 ∙ ap (λ c. if c then Refuses else more kinds b.0 15 least (tree.Name text p.at) (next p)) o)

pub constant_goes : (kinds : List TokenKind) (p : Place) (kind : IntType) (value : ℤ) → At kinds p (token.Constant kind value)
    → Reaches kinds 15 p (next p) (tree.Constant kind value p.at)
constant_goes kinds p kind value a n least h l s e =
    let b = begun kinds n least p (token.Constant kind value) (Constants kind value) a refl e in (b.0, b.1, omega arith, b.2)

pub text_goes : (kinds : List TokenKind) (p : Place) → At kinds p token.Text → Reaches kinds 15 p (next p) (tree.Text p.at)
text_goes kinds p a n least h l s e = let b = begun kinds n least p token.Text Texts a refl e in (b.0, b.1, omega arith, b.2)

pub brackets_goes : (kinds : List TokenKind) (p q : Place) (x : Expression) → At kinds p token.LeftParenthesis → begins_type kinds (next p) ≡ false
    → Reaches kinds 0 (next p) q x → At kinds q token.RightParenthesis → Reaches kinds 15 p (next q) x
brackets_goes kinds p q x a f ih c n least h l s e =
    let b = begun kinds n least p token.LeftParenthesis Opens a refl e in
    let i = exact kinds 0 (next p) q x ih b.0 (omega arith) (below_at kinds 0 q token.RightParenthesis NoSuffix c refl (omega arith)) b.1 in
    let lt : p.at + 1 < q.at = i.0 in
    let rd = read kinds b.0 in
    let go = more kinds b.0 in (
      b.0,
      omega (arith, b.1),
      omega arith,
      b.2
          ∙ ap (bracketed kinds rd (types kinds b.0) go least p) f
          ∙ ap (λ o. and_then o (λ y v. where_closes (mark_at kinds v) (go 15 least y (next v)))) i.1
          ∙ ap (λ z. where_closes (mark z) (go 15 least x (next q))) c,
    )

-- ---- postfix expressions

pub subscript_goes : (kinds : List TokenKind) (p q r : Place) (x y : Expression) → Reaches kinds 15 p q x → At kinds q token.LeftBracket
    → Reaches kinds 0 (next q) r y → At kinds r token.RightBracket → Reaches kinds 15 p (next r) (tree.Subscript x y q.at)
subscript_goes kinds p q r x y ihx a ihy c n least h l s e =
    let i = ihx n least h l (goes_by_needs kinds least 15 q token.LeftBracket Subscripts a refl (omega arith)) e in
    let t = taken kinds i.0 15 least x q token.LeftBracket Subscripts a refl (omega arith) (omega arith) i.1 in
    let j = exact kinds 0 (next q) r y ihy t.0 (omega arith) (below_at kinds 0 r token.RightBracket NoSuffix c refl (omega arith)) t.1 in
    let lp : p.at < q.at = i.2 in
    let lt : q.at + 1 < r.at = j.0 in
    let go = more kinds t.0 in (
      t.0,
      omega (arith, t.1),
      omega arith,
      i.3 ∙ t.2
          ∙ ap (λ o. and_then o (λ z v. where_square_closes (mark_at kinds v) (go 15 least (tree.Subscript x z q.at) (next v)))) j.1
          ∙ ap (λ z. where_square_closes (mark z) (go 15 least (tree.Subscript x y q.at) (next r))) c,
    )

pub call_empty_goes : (kinds : List TokenKind) (p q : Place) (x : Expression) → Reaches kinds 15 p q x → At kinds q token.LeftParenthesis
    → At kinds (next q) token.RightParenthesis → Reaches kinds 15 p (next (next q)) (tree.Call x [] q.at)
call_empty_goes kinds p q x ihx a c n least h l s e =
    let i = ihx n least h l (goes_by_needs kinds least 15 q token.LeftParenthesis Calls a refl (omega arith)) e in
    let t = taken kinds i.0 15 least x q token.LeftParenthesis Calls a refl (omega arith) (omega arith) i.1 in
    let lp : p.at < q.at = i.2 in (
      t.0,
      omega (arith, t.1),
      omega arith,
      i.3 ∙ t.2
          ∙ ap (λ z. call_of kinds (items kinds (read kinds t.0) t.0) (more kinds t.0) least x q (mark z)) c,
    )

-- no argument begins with `)`
abbrev NotRound : Mark → Type 0
NotRound sign.RoundCloses = ⊥
NotRound _ = Unit {0}

call_of_items : (kinds : List TokenKind) (list : Lists) (go : Continues) (least : ℕ) (x : Expression) (q : Place) (s : Mark) → NotRound s
    → call_of kinds list go least x q s ≡ and_then (list (next q)) (λ xs r. where_closes (mark_at kinds r) (go 15 least (tree.Call x xs q.at) (next r)))
call_of_items kinds list go least x q sign.RoundCloses h = absurd h
call_of_items kinds list go least x q _ h = refl

step_not_round : (step : Step) → NotRound (mark_of (step_sign step))
step_not_round step.Increment = tt
step_not_round step.Decrement = tt

unary_not_round : (operator : UnaryOperator) → NotRound (mark_of (unary_sign operator))
unary_not_round unary.Address = tt
unary_not_round unary.Indirection = tt
unary_not_round unary.Plus = tt
unary_not_round unary.Minus = tt
unary_not_round unary.Complement = tt
unary_not_round unary.Not = tt

not_round_at : (kinds : List TokenKind) (p : Place) (kind : TokenKind) → At kinds p kind → NotRound (mark_of kind) → NotRound (mark_at kinds p)
not_round_at kinds p kind a h = subst (λ i. NotRound (mark i)) (sym a) h

leads_not_round : (kinds : List TokenKind) (k : ℕ) (p q : Place) (x : Expression) → IsExpression kinds k p q x → NotRound (mark_at kinds p)
leads_not_round kinds k from to whole (grammar.name p text a o) = not_round_at kinds p _ a tt
leads_not_round kinds k from to whole (grammar.constant p kind value a) = not_round_at kinds p _ a tt
leads_not_round kinds k from to whole (grammar.text p a) = not_round_at kinds p _ a tt
leads_not_round kinds k from to whole (grammar.brackets p r y a d b) = not_round_at kinds p _ a tt
leads_not_round kinds k from to whole (grammar.subscript p r s y z d a e b) = leads_not_round kinds 15 p r y d
leads_not_round kinds k from to whole (grammar.call_empty p r y d a b) = leads_not_round kinds 15 p r y d
leads_not_round kinds k from to whole (grammar.call p r s y ys d a e b) = leads_not_round kinds 15 p r y d
leads_not_round kinds k from to whole (grammar.member p r y text d a b) = leads_not_round kinds 15 p r y d
leads_not_round kinds k from to whole (grammar.pointed_member p r y text d a b) = leads_not_round kinds 15 p r y d
leads_not_round kinds k from to whole (grammar.postfix p r step y d a) = leads_not_round kinds 15 p r y d
leads_not_round kinds k from to whole (grammar.prefix p r step y a d) = not_round_at kinds p _ a (step_not_round step)
leads_not_round kinds k from to whole (grammar.unary p r operator y a d) = not_round_at kinds p _ a (unary_not_round operator)
leads_not_round kinds k from to whole (grammar.sizeof_expression p r y a d) = not_round_at kinds p _ a tt
leads_not_round kinds k from to whole (grammar.sizeof_type p r t a b d c) = not_round_at kinds p _ a tt
leads_not_round kinds k from to whole (grammar.cast p r s t y a d b e) = not_round_at kinds p _ a tt
leads_not_round kinds k from to whole (grammar.binary p r s operator y z d a e) = leads_not_round kinds (level operator) p r y d
leads_not_round kinds k from to whole (grammar.conditional p r s t y z w d a e b f) = leads_not_round kinds 3 p r y d
leads_not_round kinds k from to whole (grammar.assign p r s operator y z d a e) = leads_not_round kinds 14 p r y d
leads_not_round kinds k from to whole (grammar.comma p r s y ys d a e) = leads_not_round kinds 1 p r y d
leads_not_round kinds k from to whole (grammar.pass j p r y d) = leads_not_round kinds (j + 1) p r y d

pub items_not_round : (kinds : List TokenKind) (p q : Place) (xs : List Expression) → AreAssignments kinds p q xs → NotRound (mark_at kinds p)
items_not_round kinds from to whole (grammar.one_assignment p r x d) = leads_not_round kinds 1 p r x d
items_not_round kinds from to whole (grammar.more_assignments p r s x ys d a e) = leads_not_round kinds 1 p r x d

pub call_goes : (kinds : List TokenKind) (p q r : Place) (x : Expression) (xs : List Expression) → Reaches kinds 15 p q x → At kinds q token.LeftParenthesis
    → NotRound (mark_at kinds (next q)) → ReachesItems kinds (next q) r xs → At kinds r token.RightParenthesis
    → Reaches kinds 15 p (next r) (tree.Call x xs q.at)
call_goes kinds p q r x xs ihx a f ihs c n least h l s e =
    let i = ihx n least h l (goes_by_needs kinds least 15 q token.LeftParenthesis Calls a refl (omega arith)) e in
    let t = taken kinds i.0 15 least x q token.LeftParenthesis Calls a refl (omega arith) (omega arith) i.1 in
    let j = ihs t.0 t.0 (below_at kinds 0 r token.RightParenthesis NoSuffix c refl (omega arith)) t.1 t.1 in
    let lp : p.at < q.at = i.2 in
    let lt : q.at + 1 < r.at = j.0 in
    let list = items kinds (read kinds t.0) t.0 in
    let go = more kinds t.0 in (
      t.0,
      omega (arith, t.1),
      omega arith,
      i.3 ∙ t.2
          ∙ call_of_items kinds list go least x q (mark_at kinds (next q)) f
          ∙ ap (λ o. and_then o (λ ys v. where_closes (mark_at kinds v) (go 15 least (tree.Call x ys q.at) (next v)))) j.1
          ∙ ap (λ z. where_closes (mark z) (go 15 least (tree.Call x xs q.at) (next r))) c,
    )

pub member_goes : (kinds : List TokenKind) (p q : Place) (x : Expression) (text : List ℕ) → Reaches kinds 15 p q x → At kinds q token.Dot
    → At kinds (next q) (token.Name text) → Reaches kinds 15 p (next (next q)) (tree.Member x text q.at)
member_goes kinds p q x text ihx a c n least h l s e =
    let i = ihx n least h l (goes_by_needs kinds least 15 q token.Dot Selects a refl (omega arith)) e in
    let t = taken kinds i.0 15 least x q token.Dot Selects a refl (omega arith) (omega arith) i.1 in
    let lp : p.at < q.at = i.2 in
    (t.0, omega (arith, t.1), omega arith, i.3 ∙ t.2 ∙ ap (λ z. where_name (prefix z) (λ w. more kinds t.0 15 least (tree.Member x w q.at) (next (next q)))) c)

pub pointed_member_goes : (kinds : List TokenKind) (p q : Place) (x : Expression) (text : List ℕ) → Reaches kinds 15 p q x → At kinds q token.Arrow
    → At kinds (next q) (token.Name text) → Reaches kinds 15 p (next (next q)) (tree.PointedMember x text q.at)
pointed_member_goes kinds p q x text ihx a c n least h l s e =
    let i = ihx n least h l (goes_by_needs kinds least 15 q token.Arrow Points a refl (omega arith)) e in
    let t = taken kinds i.0 15 least x q token.Arrow Points a refl (omega arith) (omega arith) i.1 in
    let lp : p.at < q.at = i.2 in
    (t.0, omega (arith, t.1), omega arith, i.3 ∙ t.2 ∙ ap (λ z. where_name (prefix z) (λ w. more kinds t.0 15 least (tree.PointedMember x w q.at) (next (next q)))) c)

pub postfix_goes : (kinds : List TokenKind) (p q : Place) (step : Step) (x : Expression) → Reaches kinds 15 p q x → At kinds q (step_sign step)
    → Reaches kinds 15 p (next q) (tree.Postfix step x q.at)
postfix_goes kinds p q step x ihx a n least h l s e =
    let i = ihx n least h l (goes_by_needs kinds least 15 q (step_sign step) (Steps step) a (suffix-step_sign step) (omega arith)) e in
    let t = taken kinds i.0 15 least x q (step_sign step) (Steps step) a (suffix-step_sign step) (omega arith) (omega arith) i.1 in
    let lp : p.at < q.at = i.2 in
    (t.0, omega (arith, t.1), omega arith, i.3 ∙ t.2)

-- ---- unary and cast expressions

-- what may follow a unary expression ends its operand
ends_operand : (s : Suffix) (least : ℕ) → least ≤ 14 → (below s ≤ least) ⊎ (needs s ≤ 14) → below s ≤ 13
ends_operand s least l (inl h) = ends_unary s (inl (omega arith))
ends_operand s least l (inr h) = ends_unary s (inr h)

ends_cast : (s : Suffix) (least : ℕ) → least ≤ 13 → (below s ≤ least) ⊎ (needs s ≤ 13) → below s ≤ 13
ends_cast s least l (inl h) = omega arith
ends_cast s least l (inr h) = ends_unary s (inr (omega arith))

pub prefix_goes : (kinds : List TokenKind) (p q : Place) (step : Step) (x : Expression) → At kinds p (step_sign step) → Reaches kinds 14 (next p) q x
    → Reaches kinds 14 p q (tree.Prefix step x p.at)
prefix_goes kinds p q step x a ih n least h l s e =
    let b = begun kinds n least p (step_sign step) (StepsFirst step) a (prefix-step_sign step) e in
    let stop = ends_operand (suffix (kind_at kinds q)) least l s in
    let i = exact kinds 14 (next p) q x ih b.0 (omega arith) (omega (arith, stop)) b.1 in
    let lt : p.at + 1 < q.at = i.0 in
    (b.0, omega (arith, b.1), omega arith, b.2 ∙ ap (λ o. and_then o (λ y v. more kinds b.0 14 least (tree.Prefix step y p.at) v)) i.1)

pub unary_goes : (kinds : List TokenKind) (p q : Place) (operator : UnaryOperator) (x : Expression) → At kinds p (unary_sign operator)
    → Reaches kinds 13 (next p) q x → Reaches kinds 14 p q (tree.Unary operator x p.at)
unary_goes kinds p q operator x a ih n least h l s e =
    let b = begun kinds n least p (unary_sign operator) (Operates operator) a (prefix-unary_sign operator) e in
    let i = exact kinds 13 (next p) q x ih b.0 (omega arith) (ends_operand (suffix (kind_at kinds q)) least l s) b.1 in
    let lt : p.at + 1 < q.at = i.0 in
    (b.0, omega (arith, b.1), omega arith, b.2 ∙ ap (λ o. and_then o (λ y v. more kinds b.0 14 least (tree.Unary operator y p.at) v)) i.1)

-- after `sizeof` a bracket that begins no type begins an operand
sized_plain : (kinds : List TokenKind) (rd : ReadsExpression) (types : Types) (go : Continues) (least : ℕ) (p : Place) (s : Prefix) → (s ≡ Opens → begins_type kinds (next (next p)) ≡ false)
    → sized kinds rd types go least p s ≡ sized_by kinds rd types go least p false
sized_plain kinds rd types go least p Opens h = ap (sized_by kinds rd types go least p) (h refl)
sized_plain kinds rd types go least p _ h = refl

pub sizeof_expression_goes : (kinds : List TokenKind) (p q : Place) (x : Expression) → At kinds p token.Sizeof
    → (prefix (kind_at kinds (next p)) ≡ Opens → begins_type kinds (next (next p)) ≡ false) → Reaches kinds 14 (next p) q x
    → Reaches kinds 14 p q (tree.SizeofExpression x p.at)
sizeof_expression_goes kinds p q x a f ih n least h l s e =
    let b = begun kinds n least p token.Sizeof Sizes a refl e in
    let stop = ends_operand (suffix (kind_at kinds q)) least l s in
    let i = exact kinds 14 (next p) q x ih b.0 (omega arith) (omega (arith, stop)) b.1 in
    let lt : p.at + 1 < q.at = i.0 in
    let rd = read kinds b.0 in
    let go = more kinds b.0 in (
      b.0,
      omega (arith, b.1),
      omega arith,
      b.2 ∙ sized_plain kinds rd (types kinds b.0) go least p (prefix (kind_at kinds (next p))) f
          ∙ ap (λ o. and_then o (λ y v. go 14 least (tree.SizeofExpression y p.at) v)) i.1,
    )

pub sizeof_type_goes : (kinds : List TokenKind) (p q : Place) (t : TypeName) → At kinds p token.Sizeof → At kinds (next p) token.LeftParenthesis
    → ReachesType kinds (next (next p)) q t → At kinds q token.RightParenthesis → Reaches kinds 14 p (next q) (tree.SizeofType t p.at)
sizeof_type_goes kinds p q t a d ih c n least h l s e =
    let b = begun kinds n least p token.Sizeof Sizes a refl e in
    let i = ih.1 b.0 c (omega (arith, b.1)) in
    let lt : p.at + 1 + 1 < q.at = i.0 in
    let rd = read kinds b.0 in
    let go = more kinds b.0 in (
      b.0,
      omega (arith, b.1),
      omega arith,
      b.2 ∙ ap (λ z. sized kinds rd (types kinds b.0) go least p (prefix z)) d
          ∙ ap (sized_by kinds rd (types kinds b.0) go least p) ih.0
          ∙ ap (λ o. and_then o (λ u v. where_closes (mark_at kinds v) (go 14 least (tree.SizeofType u p.at) (next v)))) i.1
          ∙ ap (λ z. where_closes (mark z) (go 14 least (tree.SizeofType t p.at) (next q))) c,
    )

pub cast_goes : (kinds : List TokenKind) (p q r : Place) (t : TypeName) (x : Expression) → At kinds p token.LeftParenthesis
    → ReachesType kinds (next p) q t → At kinds q token.RightParenthesis → Reaches kinds 13 (next q) r x → Reaches kinds 13 p r (tree.Cast t x p.at)
cast_goes kinds p q r t x a ih c ihx n least h l s e =
    let b = begun kinds n least p token.LeftParenthesis Opens a refl e in
    let i = ih.1 b.0 c b.1 in
    let lt : p.at + 1 < q.at = i.0 in
    let j = exact kinds 13 (next q) r x ihx b.0 (omega arith) (ends_cast (suffix (kind_at kinds r)) least h s) (omega (arith, b.1)) in
    let lu : q.at + 1 < r.at = j.0 in
    let rd = read kinds b.0 in
    let go = more kinds b.0 in (
      b.0,
      omega (arith, b.1),
      omega arith,
      b.2
          ∙ ap (bracketed kinds rd (types kinds b.0) go least p) ih.0
          ∙ ap (λ w. if w then and_then (types kinds b.0 (next p)) (λ u v. where_closes (mark_at kinds v) (and_then (rd 13 (next v)) (λ y z. go 13 least (tree.Cast u y p.at) z))) else Refuses)
          (le-leb least 13 h)
          ∙ ap (λ o. and_then o (λ u v. where_closes (mark_at kinds v) (and_then (rd 13 (next v)) (λ y z. go 13 least (tree.Cast u y p.at) z)))) i.1
          ∙ ap (λ w. where_closes (mark w) (and_then (rd 13 (next q)) (λ y z. go 13 least (tree.Cast t y p.at) z))) c
          ∙ ap (λ o. and_then o (λ y z. go 13 least (tree.Cast t y p.at) z)) j.1,
    )

-- ---- binary levels and above

ends_right : (s : Suffix) (least k : ℕ) → least ≤ k → (below s ≤ least) ⊎ (needs s ≤ k) → below s ≤ k + 1
ends_right s least k l (inl h) = omega arith
ends_right s least k l (inr h) = omega (arith, below_needs s)

pub binary_goes : (kinds : List TokenKind) (p q r : Place) (operator : BinaryOperator) (x y : Expression) → Reaches kinds (level operator) p q x
    → At kinds q (binary_sign operator) → Reaches kinds (level operator + 1) (next q) r y → Reaches kinds (level operator) p r (tree.Binary operator x y q.at)
binary_goes kinds p q r operator x y ihx a ihy n least h l s e =
    let i = ihx n least h l (goes_by_needs kinds least (level operator) q (binary_sign operator) (Infix operator) a (suffix-binary_sign operator) (omega arith)) e in
    let t = taken kinds i.0 (level operator) least x q (binary_sign operator) (Infix operator) a (suffix-binary_sign operator) (omega arith) (omega arith) i.1 in
    let j = exact kinds (level operator + 1) (next q) r y ihy t.0 (omega (arith, level_high operator)) (ends_right (suffix (kind_at kinds r)) least (level operator) h s) t.1 in
    let lp : p.at < q.at = i.2 in
    let lt : q.at + 1 < r.at = j.0 in
    (t.0, omega (arith, t.1), omega arith, i.3 ∙ t.2 ∙ ap (λ o. and_then o (λ z v. more kinds t.0 (level operator) least (tree.Binary operator x z q.at) v)) j.1)

ends_second : (s : Suffix) (least k : ℕ) → least ≤ k → k ≤ 2 → (below s ≤ least) ⊎ (needs s ≤ k) → (below s ≤ k) ⊎ (below s ≤ 1)
ends_second s least k l w (inl h) = inl (omega arith)
ends_second s least k l w (inr h) = inr (ends_conditional s (omega arith))

within_two : (m k : ℕ) → 1 ≤ k → (m ≤ k) ⊎ (m ≤ 1) → m ≤ k
within_two m k l (inl h) = h
within_two m k l (inr h) = omega arith

pub conditional_goes : (kinds : List TokenKind) (p q r v : Place) (x y z : Expression) → Reaches kinds 3 p q x → At kinds q token.Question
    → Reaches kinds 0 (next q) r y → At kinds r token.Colon → Reaches kinds 2 (next r) v z → Reaches kinds 2 p v (tree.Conditional x y z q.at)
conditional_goes kinds p q r v x y z ihx a ihy c ihz n least h l s e =
    let i = ihx n least (omega arith) l (goes_by_needs kinds least 3 q token.Question Asks a refl (omega arith)) e in
    let t = taken kinds i.0 3 least x q token.Question Asks a refl (omega arith) (omega arith) i.1 in
    let j = exact kinds 0 (next q) r y ihy t.0 (omega arith) (below_at kinds 0 r token.Colon NoSuffix c refl (omega arith)) t.1 in
    let lp : p.at < q.at = i.2 in
    let lt : q.at + 1 < r.at = j.0 in
    let stop = within_two (below (suffix (kind_at kinds v))) 2 (omega arith) (ends_second (suffix (kind_at kinds v)) least 2 h (omega arith) s) in
    let w = exact kinds 2 (next r) v z ihz t.0 (omega arith) stop (omega (arith, t.1)) in
    let lu : r.at + 1 < v.at = w.0 in
    let rd = read kinds t.0 in
    let go = more kinds t.0 in (
      t.0,
      omega (arith, t.1),
      omega arith,
      i.3 ∙ t.2
          ∙ ap (λ o. and_then o (choice_of kinds rd go least x q)) j.1
          ∙ ap (λ k. where_colon (mark k) (and_then (rd 2 (next r)) (λ b u. go 2 least (tree.Conditional x y b q.at) u))) c
          ∙ ap (λ o. and_then o (λ b u. go 2 least (tree.Conditional x y b q.at) u)) w.1,
    )

pub assign_goes : (kinds : List TokenKind) (p q r : Place) (operator : AssignOperator) (x y : Expression) → Reaches kinds 14 p q x
    → At kinds q (assign_sign operator) → Reaches kinds 1 (next q) r y → Reaches kinds 1 p r (tree.Assign operator x y q.at)
assign_goes kinds p q r operator x y ihx a ihy n least h l s e =
    let i = ihx n least (omega arith) l (goes_by_needs kinds least 14 q (assign_sign operator) (Assigns operator) a (suffix-assign_sign operator) (omega arith)) e in
    let t = taken kinds i.0 14 least x q (assign_sign operator) (Assigns operator) a (suffix-assign_sign operator) (omega arith) (omega arith) i.1 in
    let stop = within_two (below (suffix (kind_at kinds r))) 1 (omega arith) (ends_second (suffix (kind_at kinds r)) least 1 h (omega arith) s) in
    let j = exact kinds 1 (next q) r y ihy t.0 (omega arith) stop t.1 in
    let lp : p.at < q.at = i.2 in
    let lt : q.at + 1 < r.at = j.0 in
    (t.0, omega (arith, t.1), omega arith, i.3 ∙ t.2 ∙ ap (λ o. and_then o (λ z v. more kinds t.0 1 least (tree.Assign operator x z q.at) v)) j.1)

ends_commas : (s : Suffix) (least : ℕ) → least ≤ 0 → (below s ≤ least) ⊎ (needs s ≤ 0) → below s ≤ 0
ends_commas s least l (inl h) = omega arith
ends_commas s least l (inr h) = ends_whole s h

pub comma_goes : (kinds : List TokenKind) (p q r : Place) (x : Expression) (xs : List Expression) → Reaches kinds 1 p q x → At kinds q token.Comma
    → ReachesItems kinds (next q) r xs → Reaches kinds 0 p r (tree.Comma (x ∷ xs) q.at)
comma_goes kinds p q r x xs ihx a ihs n least h l s e =
    let i = ihx n least (omega arith) l (goes_by_needs kinds least 1 q token.Comma Commas a refl (omega arith)) e in
    let t = taken kinds i.0 1 least x q token.Comma Commas a refl (omega arith) (omega arith) i.1 in
    let j = ihs t.0 t.0 (ends_commas (suffix (kind_at kinds r)) least h s) t.1 t.1 in
    let lp : p.at < q.at = i.2 in
    let lt : q.at + 1 < r.at = j.0 in
    (t.0, omega (arith, t.1), omega arith, i.3 ∙ t.2 ∙ ap (λ o. and_then o (λ ys v. more kinds t.0 0 least (tree.Comma (x ∷ ys) q.at) v)) j.1)

-- ---- a level passes to the next one

same_level : (k least : ℕ) (s : Suffix) → (below s ≤ least) ⊎ (needs s ≤ k) → goes_on (k + 1) least s ≡ goes_on k least s
same_level k least s (inl h) = goes_not_below (k + 1) least s h ∙ sym (goes_not_below k least s h)
same_level k least s (inr h) = ap (λ b. nat_le (least + 1) (below s) && b) (le-leb (needs s) (k + 1) (omega arith) ∙ sym (le-leb (needs s) k h))

more_level : (kinds : List TokenKind) (n j k least : ℕ) (x : Expression) (q : Place)
    → goes_on j least (suffix (kind_at kinds q)) ≡ goes_on k least (suffix (kind_at kinds q)) → more kinds n j least x q ≡ more kinds n k least x q
unfolding more
more_level kinds zero j k least x q e = ap (λ b. if b then Refuses else Gives x q) e
more_level kinds (suc n) j k least x q e =
    ap (λ b. if b then suffix_taken kinds (read kinds n) (items kinds (read kinds n) n) (more kinds n) least x q (suffix (kind_at kinds q)) else Gives x q) e

ends_above : (kinds : List TokenKind) (least k : ℕ) (q : Place) → Ends kinds least k q → Ends kinds least (k + 1) q
ends_above kinds least k q (inl h) = inl h
ends_above kinds least k q (inr h) = inr (omega arith)

pub pass_goes : (kinds : List TokenKind) (k : ℕ) (p q : Place) (x : Expression) → Reaches kinds (k + 1) p q x → Reaches kinds k p q x
pass_goes kinds k p q x ih n least h l s e =
    let i = ih n least (omega arith) l (ends_above kinds least k q s) e in
    (i.0, i.1, i.2, i.3 ∙ more_level kinds i.0 (k + 1) k least x q (same_level k least (suffix (kind_at kinds q)) s))

-- ---- lists

items_after_ends : (list : Lists) (x : Expression) (q : Place) (s : Suffix) → below s ≤ 0 → items_after list x q s ≡ Gives (x ∷ []) q
items_after_ends list x q Commas h = absurd (omega arith)
items_after_ends list x q _ h = refl

-- a list isn't empty, so a number that is enough isn't 0
counted : (kinds : List TokenKind) (p q : Place) (x : Expression) → Reaches kinds 1 p q x → below (suffix (kind_at kinds q)) ≤ 1 → Enough kinds 0 p → ⊥
counted kinds p q x ih stop e =
    let i = exact kinds 1 p q x ih 0 (omega arith) stop e in
    let z = read_none kinds 1 p in
    cc

pub one_goes : (kinds : List TokenKind) (p q : Place) (x : Expression) → Reaches kinds 1 p q x → ReachesItems kinds p q (x ∷ [])
one_goes kinds p q x ih n zero stop e f = absurd (counted kinds p q x ih (omega arith) f)
one_goes kinds p q x ih n (suc c) stop e f =
    let i = exact kinds 1 p q x ih n (omega arith) (omega arith) e in
    let list = items kinds (read kinds n) c in (
      i.0,
      items_on kinds (read kinds n) c p
          ∙ ap (λ o. and_then o (λ y v. items_after list y v (suffix (kind_at kinds v)))) i.1
          ∙ items_after_ends list x q (suffix (kind_at kinds q)) stop,
    )

pub more_items_goes : (kinds : List TokenKind) (p q r : Place) (x : Expression) (xs : List Expression) → Reaches kinds 1 p q x → At kinds q token.Comma
    → ReachesItems kinds (next q) r xs → ReachesItems kinds p r (x ∷ xs)
more_items_goes kinds p q r x xs ih a ihs n zero stop e f = absurd (counted kinds p q x ih (below_at kinds 1 q token.Comma Commas a refl (omega arith)) f)
more_items_goes kinds p q r x xs ih a ihs n (suc c) stop e f =
    let i = exact kinds 1 p q x ih n (omega arith) (below_at kinds 1 q token.Comma Commas a refl (omega arith)) e in
    let lp : p.at < q.at = i.0 in
    let w = slice_get_within kinds q.at token.Comma a in
    let j = ihs n c stop (omega (arith, w)) (omega (arith, w)) in
    let lt : q.at + 1 < r.at = j.0 in
    let list = items kinds (read kinds n) c in (
      omega arith,
      items_on kinds (read kinds n) c p
          ∙ ap (λ o. and_then o (λ y v. items_after list y v (suffix (kind_at kinds v)))) i.1
          ∙ ap (λ k. items_after list x q (suffix k)) a
          ∙ ap (λ o. and_then o (λ ys v. Gives (x ∷ ys) v)) j.1,
    )

-- ---- after a bracket that begins an operand

opens_not_name : (kinds : List TokenKind) (p : Place) (kind : TokenKind) (s : Prefix) → At kinds p kind → prefix_of kind ≡ s → prefix (kind_at kinds p) ≡ Opens → s ≡ Opens
opens_not_name kinds p kind s a f h = sym f ∙ sym (ap prefix a) ∙ h

pub leads_inside : (kinds : List TokenKind) (k : ℕ) (p q : Place) (x : Expression) → IsExpression kinds k p q x → 14 ≤ k → prefix (kind_at kinds p) ≡ Opens
    → begins_type kinds (next p) ≡ false
leads_inside kinds k from to whole (grammar.name p text a o) l h = let z = opens_not_name kinds p (token.Name text) (Names text) a refl h in cc
leads_inside kinds k from to whole (grammar.constant p kind value a) l h = let z = opens_not_name kinds p (token.Constant kind value) (Constants kind value) a refl h in cc
leads_inside kinds k from to whole (grammar.text p a) l h = let z = opens_not_name kinds p token.Text Texts a refl h in cc
leads_inside kinds k from to whole (grammar.brackets p r y a d b) l h = leads kinds 0 (next p) r y d
leads_inside kinds k from to whole (grammar.subscript p r s y z d a e b) l h = leads_inside kinds 15 p r y d (omega arith) h
leads_inside kinds k from to whole (grammar.call_empty p r y d a b) l h = leads_inside kinds 15 p r y d (omega arith) h
leads_inside kinds k from to whole (grammar.call p r s y ys d a e b) l h = leads_inside kinds 15 p r y d (omega arith) h
leads_inside kinds k from to whole (grammar.member p r y text d a b) l h = leads_inside kinds 15 p r y d (omega arith) h
leads_inside kinds k from to whole (grammar.pointed_member p r y text d a b) l h = leads_inside kinds 15 p r y d (omega arith) h
leads_inside kinds k from to whole (grammar.postfix p r step y d a) l h = leads_inside kinds 15 p r y d (omega arith) h
leads_inside kinds k from to whole (grammar.prefix p r step y a d) l h = let z = opens_not_name kinds p (step_sign step) (StepsFirst step) a (prefix-step_sign step) h in cc
leads_inside kinds k from to whole (grammar.unary p r operator y a d) l h = let z = opens_not_name kinds p (unary_sign operator) (Operates operator) a (prefix-unary_sign operator) h in cc
leads_inside kinds k from to whole (grammar.sizeof_expression p r y a d) l h = let z = opens_not_name kinds p token.Sizeof Sizes a refl h in cc
leads_inside kinds k from to whole (grammar.sizeof_type p r t a b d c) l h = let z = opens_not_name kinds p token.Sizeof Sizes a refl h in cc
leads_inside kinds k from to whole (grammar.cast p r s t y a d b e) l h = absurd (omega arith)
leads_inside kinds k from to whole (grammar.binary p r s operator y z d a e) l h = absurd (omega (arith, level_high operator))
leads_inside kinds k from to whole (grammar.conditional p r s t y z w d a e b f) l h = absurd (omega arith)
leads_inside kinds k from to whole (grammar.assign p r s operator y z d a e) l h = absurd (omega arith)
leads_inside kinds k from to whole (grammar.comma p r s y ys d a e) l h = absurd (omega arith)
leads_inside kinds k from to whole (grammar.pass j p r y d) l h = leads_inside kinds (j + 1) p r y d (omega arith) h
