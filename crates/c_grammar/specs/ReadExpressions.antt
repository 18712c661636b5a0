-- What the reader of expressions does with a token. It never goes back.
use Rattle.std.specs.Prelude.{ℕ, zero, suc, ◌+◌, Bool, true, false, nat_le, List, [], ◌∷◌, if◌then◌else◌}
use Rattle.c_tokens.specs.declared.token.TokenKind.{TokenKind}
use Rattle.c_tree.specs.declared.expression.Expression.{Expression}
use Rattle.c_tree.specs.declared.expression.Expression.TheVariants as tree
use Rattle.c_tree.specs.declared.expression.TypeName.{TypeName}
use Rattle.c_tree.specs.Places.{Place, next, names_type}
use Rattle.c_tree.specs.Signs.{level}
use Rattle.c_grammar.specs.Kinds.{kind_at, Suffix, Infix, Assigns, Asks, Commas, Subscripts, Calls, Selects, Points, Steps, NoSuffix, suffix, Prefix, Names, Constants, Texts, Opens, StepsFirst, Operates, Sizes, NoPrefix, prefix, begins_type}
use Rattle.c_grammar.specs.Marks as sign
use Rattle.c_grammar.specs.Marks.{Mark, mark_at}

-- what was read and the place after it, or nothing
pub data Outcome (A : Type 0) : Type 0 where
  Gives : (x : A) (q : Place) → Outcome A
  Refuses : Outcome A

abbrev pub and_then : {A B : Type 0} → Outcome A → (A → Place → Outcome B) → Outcome B
and_then (Gives x q) f = f x q
and_then Refuses f = Refuses

-- only where this mark comes next
abbrev pub where_opens : {B : Type 0} → Mark → Outcome B → Outcome B
where_opens sign.RoundOpens o = o
where_opens _ o = Refuses

abbrev pub where_closes : {B : Type 0} → Mark → Outcome B → Outcome B
where_closes sign.RoundCloses o = o
where_closes _ o = Refuses

abbrev pub where_square_closes : {B : Type 0} → Mark → Outcome B → Outcome B
where_square_closes sign.SquareCloses o = o
where_square_closes _ o = Refuses

abbrev pub where_curly_closes : {B : Type 0} → Mark → Outcome B → Outcome B
where_curly_closes sign.CurlyCloses o = o
where_curly_closes _ o = Refuses

abbrev pub where_semicolon : {B : Type 0} → Mark → Outcome B → Outcome B
where_semicolon sign.Semicolon o = o
where_semicolon _ o = Refuses

abbrev pub where_colon : {B : Type 0} → Mark → Outcome B → Outcome B
where_colon sign.Colon o = o
where_colon _ o = Refuses

abbrev pub where_name : {B : Type 0} → Prefix → (List ℕ → Outcome B) → Outcome B
where_name (Names text) f = f text
where_name _ f = Refuses

-- reads an expression of this level or above
abbrev pub ReadsExpression : Type 0
ReadsExpression = ℕ → Place → Outcome Expression

-- goes on after an operand of the first level, for an expression of the second level or above
abbrev pub Continues : Type 0
Continues = ℕ → ℕ → Expression → Place → Outcome Expression

abbrev pub Lists : Type 0
Lists = Place → Outcome (List Expression)

abbrev pub Types : Type 0
Types = Place → Outcome TypeName

-- ---- assignment expressions with commas

abbrev pub items_after : Lists → Expression → Place → Suffix → Outcome (List Expression)
items_after more x q Commas = and_then (more (next q)) (λ xs r. Gives (x ∷ xs) r)
items_after more x q _ = Gives (x ∷ []) q

-- the number bounds how many there are
unfoldable pub items : List TokenKind → ReadsExpression → ℕ → Lists
items kinds rd zero p = Refuses
items kinds rd (suc n) p = and_then (rd 1 p) (λ x q. items_after (items kinds rd n) x q (suffix (kind_at kinds q)))

-- ---- after an operand

abbrev pub call_of : List TokenKind → Lists → Continues → ℕ → Expression → Place → Mark → Outcome Expression
call_of kinds list go least x q sign.RoundCloses = go 15 least (tree.Call x [] q.at) (next (next q))
call_of kinds list go least x q _ = and_then (list (next q)) (λ xs r. where_closes (mark_at kinds r) (go 15 least (tree.Call x xs q.at) (next r)))

abbrev pub choice_of : List TokenKind → ReadsExpression → Continues → ℕ → Expression → Place → Expression → Place → Outcome Expression
choice_of kinds rd go least x q y r =
    where_colon (mark_at kinds r) (and_then (rd 2 (next r)) (λ z s. go 2 least (tree.Conditional x y z q.at) s))

abbrev pub suffix_taken : List TokenKind → ReadsExpression → Lists → Continues → ℕ → Expression → Place → Suffix → Outcome Expression
suffix_taken kinds rd list go least x q (Infix operator) = and_then (rd (level operator + 1) (next q)) (λ y r. go (level operator) least (tree.Binary operator x y q.at) r)
suffix_taken kinds rd list go least x q (Assigns operator) = and_then (rd 1 (next q)) (λ y r. go 1 least (tree.Assign operator x y q.at) r)
suffix_taken kinds rd list go least x q Asks = and_then (rd 0 (next q)) (choice_of kinds rd go least x q)
suffix_taken kinds rd list go least x q Commas = and_then (list (next q)) (λ xs r. go 0 least (tree.Comma (x ∷ xs) q.at) r)
suffix_taken kinds rd list go least x q Subscripts =
    and_then (rd 0 (next q)) (λ y r. where_square_closes (mark_at kinds r) (go 15 least (tree.Subscript x y q.at) (next r)))
suffix_taken kinds rd list go least x q Calls = call_of kinds list go least x q (mark_at kinds (next q))
suffix_taken kinds rd list go least x q Selects = where_name (prefix (kind_at kinds (next q))) (λ text. go 15 least (tree.Member x text q.at) (next (next q)))
suffix_taken kinds rd list go least x q Points = where_name (prefix (kind_at kinds (next q))) (λ text. go 15 least (tree.PointedMember x text q.at) (next (next q)))
suffix_taken kinds rd list go least x q (Steps step) = go 15 least (tree.Postfix step x q.at) (next q)
suffix_taken kinds rd list go least x q NoSuffix = Refuses

-- ---- where an operand is due

abbrev pub bracketed : List TokenKind → ReadsExpression → Types → Continues → ℕ → Place → Bool → Outcome Expression
bracketed kinds rd types go least p true =
    if nat_le least 13 then and_then (types (next p)) (λ t q. where_closes (mark_at kinds q) (and_then (rd 13 (next q)) (λ x r. go 13 least (tree.Cast t x p.at) r))) else Refuses
bracketed kinds rd types go least p false = and_then (rd 0 (next p)) (λ x q. where_closes (mark_at kinds q) (go 15 least x (next q)))

abbrev pub sized_by : List TokenKind → ReadsExpression → Types → Continues → ℕ → Place → Bool → Outcome Expression
sized_by kinds rd types go least p true =
    and_then (types (next (next p))) (λ t q. where_closes (mark_at kinds q) (go 14 least (tree.SizeofType t p.at) (next q)))
sized_by kinds rd types go least p false = and_then (rd 14 (next p)) (λ x q. go 14 least (tree.SizeofExpression x p.at) q)

abbrev pub sized : List TokenKind → ReadsExpression → Types → Continues → ℕ → Place → Prefix → Outcome Expression
sized kinds rd types go least p Opens = sized_by kinds rd types go least p (begins_type kinds (next (next p)))
sized kinds rd types go least p _ = sized_by kinds rd types go least p false

abbrev pub prefix_taken : List TokenKind → ReadsExpression → Types → Continues → ℕ → Place → Prefix → Outcome Expression
prefix_taken kinds rd types go least p (Names text) = if names_type p.blocks text then Refuses else go 15 least (tree.Name text p.at) (next p)
prefix_taken kinds rd types go least p (Constants kind value) = go 15 least (tree.Constant kind value p.at) (next p)
prefix_taken kinds rd types go least p Texts = go 15 least (tree.Text p.at) (next p)
prefix_taken kinds rd types go least p Opens = bracketed kinds rd types go least p (begins_type kinds (next p))
prefix_taken kinds rd types go least p (StepsFirst step) = and_then (rd 14 (next p)) (λ x q. go 14 least (tree.Prefix step x p.at) q)
prefix_taken kinds rd types go least p (Operates operator) = and_then (rd 13 (next p)) (λ x q. go 14 least (tree.Unary operator x p.at) q)
prefix_taken kinds rd types go least p Sizes = sized kinds rd types go least p (prefix (kind_at kinds (next p)))
prefix_taken kinds rd types go least p NoPrefix = Refuses
