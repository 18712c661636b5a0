-- Declarators, part by part.
use Rattle.std.proofs.Common.{◌≡◌, ℕ, ◌+◌, ◌-◌, ◌<◌, ◌≤◌, List, [], Option, None, Result, refl, sym, subst, ◌∙◌, ap, arith}
use Rattle.c_tokens.specs.declared.token.TokenKind.{TokenKind}
use Rattle.c_tree.specs.declared.expression.Expression.{Expression}
use Rattle.c_tree.specs.declared.expression.Declarator.{Declarator}
use Rattle.c_tree.specs.declared.expression.Declarator.TheVariants as declarator_node
use Rattle.c_tree.specs.declared.scope.Entry.{Entry}
use Rattle.c_tree.specs.Places.{Place, next, enter, leave, first_of}
use Rattle.c_tree.specs.Spells.{nearest}
use Rattle.c_cursor.specs.declared.fault.Fault.{Fault}
use Rattle.c_cursor.specs.declared.marks.Mark.TheVariants as mark
use Rattle.c_cursor.specs.declared.parts.Titled as parts_titled
use Rattle.c_cursor.specs.declared.parts.Perhaps as parts_perhaps
use Rattle.c_cursor.specs.Bare.{bare}
use Rattle.c_declarators.specs.TypeNames.{closed_size}
use Rattle.c_cursor.specs.Reads.{ReadsAs, titled_of, perhaps_of, name_read}
use Rattle.c_declarators.specs.Declarators.{alone, parameters_at, array_suffix, function_parameters, function_suffix, titled_at, inner_declarator, declared_name, perhaps_at}
use Rattle.c_grammar.specs.Marks as spec
use Rattle.c_grammar.specs.Marks.{Mark, mark_of, mark_at}
use Rattle.c_grammar.specs.ReadExpressions.{Outcome, Gives, Refuses, and_then, ReadsExpression}
use Rattle.c_grammar.specs.ReadTypes.{Titled, Titles, Takes, Taken, Suffixes, Without, where_closes, where_square_closes, array_by, with_parameters, function_by, suffixes_by, suffixes}
use Rattle.c_grammar.specs.Readers.{read, declarator}
use Rattle.c_cursor.proofs.Plain.{told}
use Rattle.c_cursor.proofs.Lists.{one_further}
use Rattle.c_cursor.proofs.Skipped.{closes_both, square_closes_both}
use Rattle.c_cursor.proofs.Single.{name_of, name_marked}
use Rattle.c_cursor.proofs.Lists.{then_both}

-- ---- arrays

sized_on : (kinds : List TokenKind) (rd : ReadsExpression) (go : Suffixes) (name : List ℕ) (parameters : Option (List Entry)) (inner : Declarator) (at : ℕ) (p : Place)
    → and_then (rd 2 p) (λ size r. where_square_closes (mark_at kinds r) (go (Titles name parameters (declarator_node.Array inner size at)) (next r)))
    ≡ and_then (and_then (rd 2 p) (λ size r. where_square_closes (mark_at kinds r) (Gives size (next r)))) (λ size r. go (Titles name parameters (declarator_node.Array inner size at)) r)
sized_on kinds rd go name parameters inner at p =
    then_both (rd 2 p) (λ size r. where_square_closes (mark_at kinds r) (go (Titles name parameters (declarator_node.Array inner size at)) (next r)))
    (λ size r. where_square_closes (mark_at kinds r) (Gives size (next r))) (λ size r. go (Titles name parameters (declarator_node.Array inner size at)) r)
    (λ size r. square_closes_both (mark_at kinds r) (go (Titles name parameters (declarator_node.Array inner size at)) (next r)) (Gives size (next r))
    (λ size r. go (Titles name parameters (declarator_node.Array inner size at)) r) refl)

array_on : (kinds : List TokenKind) (rd : ReadsExpression) (go : Suffixes) (d : Titled) (p : Place) (m : Mark) → array_by kinds rd go d p m ≡ and_then (array_by kinds rd alone d p m) go
array_on kinds rd go (Titles name parameters inner) p spec.SquareCloses = refl
array_on kinds rd go (Titles name parameters inner) p _ =
    then_both (rd 2 (next p)) (λ size r. where_square_closes (mark_at kinds r) (go (Titles name parameters (declarator_node.Array inner size p.at)) (next r)))
    (λ size r. where_square_closes (mark_at kinds r) (Gives (Titles name parameters (declarator_node.Array inner size p.at)) (next r))) go
    (λ size r. square_closes_both (mark_at kinds r) (go (Titles name parameters (declarator_node.Array inner size p.at)) (next r))
    (Gives (Titles name parameters (declarator_node.Array inner size p.at)) (next r)) go refl)

by_open : (kinds : List TokenKind) (rd : ReadsExpression) (name : List ℕ) (parameters : Option (List Entry)) (inner : Declarator) (p : Place) (m : Mark) → bare m ≡ mark.SquareCloses
    → array_by kinds rd alone (Titles name parameters inner) p m ≡ Gives (Titles name parameters (declarator_node.OpenArray inner p.at)) (next (next p))
by_open kinds rd name parameters inner p m e = rw (told m spec.SquareCloses tt e) refl

by_sized : (kinds : List TokenKind) (n : ℕ) (name : List ℕ) (parameters : Option (List Entry)) (inner : Declarator) (p : Place) (m : Mark) → (bare m ≡ mark.SquareCloses → ⊥)
    → array_by kinds (read kinds n) alone (Titles name parameters inner) p m ≡ and_then (closed_size kinds n (next p)) (λ size r. Gives (Titles name parameters (declarator_node.Array inner size p.at)) r)
by_sized kinds n name parameters inner p spec.SquareCloses f = absurd (f refl)
by_sized kinds n name parameters inner p _ f = sized_on kinds (read kinds n) alone name parameters inner p.at (next p)

pub array_open : (kinds : List TokenKind) (n : ℕ) (name : List ℕ) (parameters : Option (List Entry)) (inner : Declarator) (p q r : Place) → q ≡ next p
    → bare (mark_at kinds q) ≡ mark.SquareCloses → r ≡ next q
    → array_suffix kinds n (Titles name parameters inner) p ≡ Gives (Titles name parameters (declarator_node.OpenArray inner p.at)) r
array_open kinds n name parameters inner p q r e h f =
    by_open kinds (read kinds n) name parameters inner p (mark_at kinds (next p)) (ap (λ t. bare (mark_at kinds t)) (sym e) ∙ h)
    ∙ ap (λ t. Gives (Titles name parameters (declarator_node.OpenArray inner p.at)) t) (sym (f ∙ ap next e))

array_behind : (kinds : List TokenKind) (n : ℕ) (name : List ℕ) (parameters : Option (List Entry)) (inner : Declarator) (p q : Place) → q ≡ next p
    → (bare (mark_at kinds q) ≡ mark.SquareCloses → ⊥)
    → array_suffix kinds n (Titles name parameters inner) p ≡ and_then (closed_size kinds n q) (λ size r. Gives (Titles name parameters (declarator_node.Array inner size p.at)) r)
array_behind kinds n name parameters inner p q e h =
    by_sized kinds n name parameters inner p (mark_at kinds (next p)) (λ f. h (ap (λ t. bare (mark_at kinds t)) e ∙ f))
    ∙ ap (λ t. and_then (closed_size kinds n t) (λ size r. Gives (Titles name parameters (declarator_node.Array inner size p.at)) r)) (sym e)

pub array_sized : (kinds : List TokenKind) (n : ℕ) (name : List ℕ) (parameters : Option (List Entry)) (inner : Declarator) (p q r : Place) (size : Expression) → q ≡ next p
    → (bare (mark_at kinds q) ≡ mark.SquareCloses → ⊥) → closed_size kinds n q ≡ Gives size r
    → array_suffix kinds n (Titles name parameters inner) p ≡ Gives (Titles name parameters (declarator_node.Array inner size p.at)) r
array_sized kinds n name parameters inner p q r size e h f =
    array_behind kinds n name parameters inner p q e h ∙ ap (λ o. and_then o (λ size r. Gives (Titles name parameters (declarator_node.Array inner size p.at)) r)) f

pub array_refused : (kinds : List TokenKind) (n : ℕ) (name : List ℕ) (parameters : Option (List Entry)) (inner : Declarator) (p q : Place) → q ≡ next p
    → (bare (mark_at kinds q) ≡ mark.SquareCloses → ⊥) → closed_size kinds n q ≡ Refuses → array_suffix kinds n (Titles name parameters inner) p ≡ Refuses
array_refused kinds n name parameters inner p q e h f =
    array_behind kinds n name parameters inner p q e h ∙ ap (λ o. and_then o (λ size r. Gives (Titles name parameters (declarator_node.Array inner size p.at)) r)) f

-- ---- functions

with_on : (kinds : List TokenKind) (go : Suffixes) (name : List ℕ) (parameters : Option (List Entry)) (inner : Declarator) (p : Place) (t : Takes) (r : Place)
    → with_parameters kinds go (Titles name parameters inner) p t r ≡ and_then (with_parameters kinds alone (Titles name parameters inner) p t r) go
with_on kinds go name parameters inner p (Taken list variadic) r =
    closes_both (mark_at kinds r) (go (Titles name (nearest parameters (first_of r.blocks)) (declarator_node.Function inner list variadic p.at)) (leave (next r)))
    (Gives (Titles name (nearest parameters (first_of r.blocks)) (declarator_node.Function inner list variadic p.at)) (leave (next r))) go refl

function_on : (kinds : List TokenKind) (list : Place → Outcome Takes) (go : Suffixes) (d : Titled) (p : Place) (m : Mark)
    → function_by kinds list go d p m ≡ and_then (function_by kinds list alone d p m) go
function_on kinds list go (Titles name parameters inner) p spec.RoundCloses = refl
function_on kinds list go (Titles name parameters inner) p _ =
    then_both (list (enter (next p))) (with_parameters kinds go (Titles name parameters inner) p) (with_parameters kinds alone (Titles name parameters inner) p) go
    (λ t r. with_on kinds go name parameters inner p t r)

by_empty : (kinds : List TokenKind) (list : Place → Outcome Takes) (name : List ℕ) (parameters : Option (List Entry)) (inner : Declarator) (p : Place) (m : Mark) → bare m ≡ mark.RoundCloses
    → function_by kinds list alone (Titles name parameters inner) p m ≡ Gives (Titles name (nearest parameters []) (declarator_node.Function inner [] None p.at)) (next (next p))
by_empty kinds list name parameters inner p m e = rw (told m spec.RoundCloses tt e) refl

by_parameters : (kinds : List TokenKind) (n : ℕ) (name : List ℕ) (parameters : Option (List Entry)) (inner : Declarator) (p : Place) (m : Mark) → (bare m ≡ mark.RoundCloses → ⊥)
    → function_by kinds (parameters_at kinds n) alone (Titles name parameters inner) p m ≡ function_parameters kinds n (Titles name parameters inner) p.at (next p)
by_parameters kinds n name parameters inner p spec.RoundCloses f = absurd (f refl)
by_parameters kinds n name parameters inner p _ f = refl

pub function_empty : (kinds : List TokenKind) (n : ℕ) (name : List ℕ) (parameters : Option (List Entry)) (inner : Declarator) (p q r : Place) → q ≡ next p
    → bare (mark_at kinds q) ≡ mark.RoundCloses → r ≡ next q
    → function_suffix kinds n (Titles name parameters inner) p ≡ Gives (Titles name (nearest parameters []) (declarator_node.Function inner [] None p.at)) r
function_empty kinds n name parameters inner p q r e h f =
    by_empty kinds (parameters_at kinds n) name parameters inner p (mark_at kinds (next p)) (ap (λ t. bare (mark_at kinds t)) (sym e) ∙ h)
    ∙ ap (λ t. Gives (Titles name (nearest parameters []) (declarator_node.Function inner [] None p.at)) t) (sym (f ∙ ap next e))

pub function_some : (kinds : List TokenKind) (n : ℕ) (name : List ℕ) (parameters : Option (List Entry)) (inner : Declarator) (at : ℕ) (p q : Place) (r : Result parts_titled.Titled Fault) (s : Place)
    → at ≡ p.at → q ≡ next p → (bare (mark_at kinds q) ≡ mark.RoundCloses → ⊥) → ReadsAs titled_of (function_parameters kinds n (Titles name parameters inner) at q) r s
    → ReadsAs titled_of (function_suffix kinds n (Titles name parameters inner) p) r s
function_some kinds n name parameters inner at p q r s a e h k =
    let whole : function_suffix kinds n (Titles name parameters inner) p ≡ function_parameters kinds n (Titles name parameters inner) at q =
    by_parameters kinds n name parameters inner p (mark_at kinds (next p)) (λ f. h (ap (λ t. bare (mark_at kinds t)) e ∙ f))
    ∙ (ap (λ t. function_parameters kinds n (Titles name parameters inner) t (next p)) (sym a) ∙ ap (function_parameters kinds n (Titles name parameters inner) at) (sym e)) in
    subst (λ o. ReadsAs titled_of o r s) (sym whole) k

-- ---- what follows a direct declarator

-- this many more suffixes
abbrev pub further_suffixes : List TokenKind → ℕ → ℕ → Titled → Place → Outcome Titled
further_suffixes kinds n m d p = suffixes kinds (read kinds n) (parameters_at kinds n) m d p

suffixes_step : (kinds : List TokenKind) (d n i : ℕ) (x : Titled) (p : Place) → i < n
    → further_suffixes kinds d (n - i) x p ≡ suffixes_by kinds (read kinds d) (parameters_at kinds d) (further_suffixes kinds d (n - (i + 1))) x p (mark_at kinds p)
unfolding suffixes
suffixes_step kinds d n i x p h = ap (λ m. further_suffixes kinds d m x p) (one_further n i h)

by_array : (kinds : List TokenKind) (n : ℕ) (go : Suffixes) (x : Titled) (p : Place) (m : Mark) → bare m ≡ mark.SquareOpens
    → suffixes_by kinds (read kinds n) (parameters_at kinds n) go x p m ≡ and_then (array_suffix kinds n x p) go
by_array kinds n go x p m e = rw (told m spec.SquareOpens tt e) (array_on kinds (read kinds n) go x p (mark_at kinds (next p)))

by_function : (kinds : List TokenKind) (n : ℕ) (go : Suffixes) (x : Titled) (p : Place) (m : Mark) → bare m ≡ mark.RoundOpens
    → suffixes_by kinds (read kinds n) (parameters_at kinds n) go x p m ≡ and_then (function_suffix kinds n x p) go
by_function kinds n go x p m e = rw (told m spec.RoundOpens tt e) (function_on kinds (parameters_at kinds n) go x p (mark_at kinds (next p)))

by_end : (kinds : List TokenKind) (n : ℕ) (go : Suffixes) (x : Titled) (p : Place) (m : Mark) → (bare m ≡ mark.SquareOpens → ⊥) → (bare m ≡ mark.RoundOpens → ⊥)
    → suffixes_by kinds (read kinds n) (parameters_at kinds n) go x p m ≡ Gives x p
by_end kinds n go x p spec.SquareOpens f g = absurd (f refl)
by_end kinds n go x p spec.RoundOpens f g = absurd (g refl)
by_end kinds n go x p _ f g = refl

array_goes : (kinds : List TokenKind) (d n i : ℕ) (x : Titled) (p : Place) → i < n → bare (mark_at kinds p) ≡ mark.SquareOpens
    → further_suffixes kinds d (n - i) x p ≡ and_then (array_suffix kinds d x p) (further_suffixes kinds d (n - (i + 1)))
array_goes kinds d n i x p h e = suffixes_step kinds d n i x p h ∙ by_array kinds d (further_suffixes kinds d (n - (i + 1))) x p (mark_at kinds p) e

function_goes : (kinds : List TokenKind) (d n i : ℕ) (x : Titled) (p : Place) → i < n → bare (mark_at kinds p) ≡ mark.RoundOpens
    → further_suffixes kinds d (n - i) x p ≡ and_then (function_suffix kinds d x p) (further_suffixes kinds d (n - (i + 1)))
function_goes kinds d n i x p h e = suffixes_step kinds d n i x p h ∙ by_function kinds d (further_suffixes kinds d (n - (i + 1))) x p (mark_at kinds p) e

pub suffixes_array : (kinds : List TokenKind) (d n i : ℕ) (x y : Titled) (p q : Place) → i < n → bare (mark_at kinds p) ≡ mark.SquareOpens → array_suffix kinds d x p ≡ Gives y q
    → further_suffixes kinds d (n - i) x p ≡ further_suffixes kinds d (n - (i + 1)) y q
suffixes_array kinds d n i x y p q h e f = array_goes kinds d n i x p h e ∙ ap (λ o. and_then o (further_suffixes kinds d (n - (i + 1)))) f

pub suffixes_no_array : (kinds : List TokenKind) (d n i : ℕ) (x : Titled) (p : Place) → i < n → bare (mark_at kinds p) ≡ mark.SquareOpens → array_suffix kinds d x p ≡ Refuses
    → further_suffixes kinds d (n - i) x p ≡ Refuses
suffixes_no_array kinds d n i x p h e f = array_goes kinds d n i x p h e ∙ ap (λ o. and_then o (further_suffixes kinds d (n - (i + 1)))) f

pub suffixes_function : (kinds : List TokenKind) (d n i : ℕ) (x y : Titled) (p q : Place) → i < n → bare (mark_at kinds p) ≡ mark.RoundOpens → function_suffix kinds d x p ≡ Gives y q
    → further_suffixes kinds d (n - i) x p ≡ further_suffixes kinds d (n - (i + 1)) y q
suffixes_function kinds d n i x y p q h e f = function_goes kinds d n i x p h e ∙ ap (λ o. and_then o (further_suffixes kinds d (n - (i + 1)))) f

pub suffixes_no_function : (kinds : List TokenKind) (d n i : ℕ) (x : Titled) (p : Place) → i < n → bare (mark_at kinds p) ≡ mark.RoundOpens → function_suffix kinds d x p ≡ Refuses
    → further_suffixes kinds d (n - i) x p ≡ Refuses
suffixes_no_function kinds d n i x p h e f = function_goes kinds d n i x p h e ∙ ap (λ o. and_then o (further_suffixes kinds d (n - (i + 1)))) f

pub suffixes_end : (kinds : List TokenKind) (d n i : ℕ) (x : Titled) (p : Place) → i < n → (bare (mark_at kinds p) ≡ mark.SquareOpens → ⊥) → (bare (mark_at kinds p) ≡ mark.RoundOpens → ⊥)
    → further_suffixes kinds d (n - i) x p ≡ Gives x p
suffixes_end kinds d n i x p h f g = suffixes_step kinds d n i x p h ∙ by_end kinds d (further_suffixes kinds d (n - (i + 1))) x p (mark_at kinds p) f g

pub suffixes_none : (kinds : List TokenKind) (d n i : ℕ) (x : Titled) (p : Place) → n ≤ i → further_suffixes kinds d (n - i) x p ≡ Refuses
unfolding suffixes
suffixes_none kinds d n i x p h =
    let none : n - i ≡ 0 = omega arith in
    ap (λ m. further_suffixes kinds d m x p) none

-- the same declarator at the same place
pub suffixes_moved : (kinds : List TokenKind) (n m : ℕ) (x y : parts_titled.Titled) (p q : Place) → x ≡ y → p ≡ q
    → further_suffixes kinds n m (titled_of y) q ≡ further_suffixes kinds n m (titled_of x) p
suffixes_moved kinds n m x y p q e f =
    ap (λ t. further_suffixes kinds n m (titled_of t) q) (sym e) ∙ ap (λ t. further_suffixes kinds n m (titled_of x) t) (sym f)

-- ---- a declared name

declared_by : (p : Place) (m : Mark) → declared_name p m ≡ and_then (name_of p m) (λ text q. Gives (Titles text None (declarator_node.Name text p.at)) q)
declared_by p (spec.Name text) = refl
declared_by p _ = refl

pub declared_name_read : (kinds : List TokenKind) (p : Place)
    → declared_name p (mark_at kinds p) ≡ and_then (name_read kinds p) (λ text q. Gives (Titles text None (declarator_node.Name text p.at)) q)
declared_name_read kinds p =
    declared_by p (mark_at kinds p) ∙ ap (λ o. and_then o (λ text q. Gives (Titles text None (declarator_node.Name text p.at)) q)) (sym (name_marked kinds p))

-- ---- a declarator, or what stands for one in a parameter

by_pointer : (kinds : List TokenKind) (n : ℕ) (p : Place) (m : Mark) → bare m ≡ mark.Star → perhaps_at kinds n p m ≡ perhaps_at kinds n p spec.Star
by_pointer kinds n p m e = ap (perhaps_at kinds n p) (told m spec.Star tt e)

by_name : (kinds : List TokenKind) (n : ℕ) (p : Place) (m : Mark) → bare m ≡ mark.Name → perhaps_at kinds n p m ≡ and_then (declared_name p m) (titled_at kinds n)
by_name kinds n p (spec.Name text) e = refl
by_name kinds n p _ e = cc

brackets_on : (kinds : List TokenKind) (n : ℕ) (p : Place) → perhaps_at kinds n p spec.RoundOpens ≡ and_then (inner_declarator kinds n p) (titled_at kinds n)
brackets_on kinds n p =
    then_both (declarator kinds n (next p)) (λ d q. where_closes (mark_at kinds q) (titled_at kinds n d (next q))) (λ d q. where_closes (mark_at kinds q) (Gives d (next q))) (titled_at kinds n)
    (λ d q. closes_both (mark_at kinds q) (titled_at kinds n d (next q)) (Gives d (next q)) (titled_at kinds n) refl)

by_brackets : (kinds : List TokenKind) (n : ℕ) (p : Place) (m : Mark) → bare m ≡ mark.RoundOpens → perhaps_at kinds n p m ≡ and_then (inner_declarator kinds n p) (titled_at kinds n)
by_brackets kinds n p m e = ap (perhaps_at kinds n p) (told m spec.RoundOpens tt e) ∙ brackets_on kinds n p

by_others : (kinds : List TokenKind) (n : ℕ) (p : Place) (m : Mark) → (bare m ≡ mark.Star → ⊥) → (bare m ≡ mark.Name → ⊥) → (bare m ≡ mark.RoundOpens → ⊥)
    → perhaps_at kinds n p m ≡ Gives (Without (declarator_node.Unnamed p.at)) p
by_others kinds n p spec.Star f g h = absurd (f refl)
by_others kinds n p (spec.Name text) f g h = absurd (g refl)
by_others kinds n p spec.RoundOpens f g h = absurd (h refl)
by_others kinds n p _ f g h = refl

pub perhaps_pointer : (kinds : List TokenKind) (n : ℕ) (p : Place) (r : Result parts_perhaps.Perhaps Fault) (s : Place) → bare (mark_at kinds p) ≡ mark.Star
    → ReadsAs perhaps_of (perhaps_at kinds n p spec.Star) r s → ReadsAs perhaps_of (perhaps_at kinds n p (mark_at kinds p)) r s
perhaps_pointer kinds n p r s e k = subst (λ o. ReadsAs perhaps_of o r s) (sym (by_pointer kinds n p (mark_at kinds p) e)) k

pub perhaps_name : (kinds : List TokenKind) (n : ℕ) (p q : Place) (d : Titled) (r : Result parts_perhaps.Perhaps Fault) (s : Place) → bare (mark_at kinds p) ≡ mark.Name
    → declared_name p (mark_at kinds p) ≡ Gives d q → ReadsAs perhaps_of (titled_at kinds n d q) r s → ReadsAs perhaps_of (perhaps_at kinds n p (mark_at kinds p)) r s
perhaps_name kinds n p q d r s e f k =
    let whole : perhaps_at kinds n p (mark_at kinds p) ≡ titled_at kinds n d q = by_name kinds n p (mark_at kinds p) e ∙ ap (λ o. and_then o (titled_at kinds n)) f in
    subst (λ o. ReadsAs perhaps_of o r s) (sym whole) k

pub perhaps_no_name : (kinds : List TokenKind) (n : ℕ) (p : Place) → bare (mark_at kinds p) ≡ mark.Name → declared_name p (mark_at kinds p) ≡ Refuses
    → perhaps_at kinds n p (mark_at kinds p) ≡ Refuses
perhaps_no_name kinds n p e f = by_name kinds n p (mark_at kinds p) e ∙ ap (λ o. and_then o (titled_at kinds n)) f

pub perhaps_brackets : (kinds : List TokenKind) (n : ℕ) (p q : Place) (d : Titled) (r : Result parts_perhaps.Perhaps Fault) (s : Place) → bare (mark_at kinds p) ≡ mark.RoundOpens
    → inner_declarator kinds n p ≡ Gives d q → ReadsAs perhaps_of (titled_at kinds n d q) r s → ReadsAs perhaps_of (perhaps_at kinds n p (mark_at kinds p)) r s
perhaps_brackets kinds n p q d r s e f k =
    let whole : perhaps_at kinds n p (mark_at kinds p) ≡ titled_at kinds n d q = by_brackets kinds n p (mark_at kinds p) e ∙ ap (λ o. and_then o (titled_at kinds n)) f in
    subst (λ o. ReadsAs perhaps_of o r s) (sym whole) k

pub perhaps_no_brackets : (kinds : List TokenKind) (n : ℕ) (p : Place) → bare (mark_at kinds p) ≡ mark.RoundOpens → inner_declarator kinds n p ≡ Refuses
    → perhaps_at kinds n p (mark_at kinds p) ≡ Refuses
perhaps_no_brackets kinds n p e f = by_brackets kinds n p (mark_at kinds p) e ∙ ap (λ o. and_then o (titled_at kinds n)) f

pub perhaps_none : (kinds : List TokenKind) (n at : ℕ) (p : Place) → at ≡ p.at → (bare (mark_at kinds p) ≡ mark.Star → ⊥) → (bare (mark_at kinds p) ≡ mark.Name → ⊥)
    → (bare (mark_at kinds p) ≡ mark.RoundOpens → ⊥) → perhaps_at kinds n p (mark_at kinds p) ≡ Gives (Without (declarator_node.Unnamed at)) p
perhaps_none kinds n at p a f g h = by_others kinds n p (mark_at kinds p) f g h ∙ ap (λ t. Gives (Without (declarator_node.Unnamed t)) p) (sym a)
