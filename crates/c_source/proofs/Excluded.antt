-- What spells a straight program isn't refused.
use Rattle.std.proofs.Common.{◌≡◌, ℕ, ◌+◌, ◌<◌, ◌≤◌, List, length, Option, Some, None, sym, subst, ◌∙◌, ap, arith}
use Rattle.c_tokens.specs.declared.token.Token.{Token}
use Rattle.c_tokens.specs.declared.token.TokenKind.{TokenKind}
use Rattle.c_tokens.specs.declared.data_model.DataModel.TheVariants.{Lp64}
use Rattle.c_straight_model.specs.declared.program.BlockItem.{BlockItem}
use Rattle.c_straight_model.specs.declared.program.Program.{Program}
use Rattle.c_tokens.specs.Reading.{Fault, Reading, Read, Fails, reading}
use Rattle.c_tree.specs.declared.declaration.Tree.{Tree}
use Rattle.c_tree.specs.Nesting.{depth_after}
use Rattle.c_tree.specs.SpellsText.{kinds_of, Spells}
use Rattle.c_grammar_laws.specs.Laws.{OneTree}
use Rattle.c_tokens.specs.declared.limits.TheConstants.{MAX_NESTING}
use Rattle.c_parser.specs.Parses.{left_out, IsFirstTooDeep, IsWithin}
use Rattle.c_straight.specs.Straight.{IsStraight, items_of}
use Rattle.c_source.specs.declared.refusal.Refusal.{Refusal}
use Rattle.c_source.specs.declared.refusal.Refusal.TheVariants.{TooLong, NoToken, Directive, LongConstant, TooManyTokens, LeftOut, TooDeep, Syntax, NotYet}
use Rattle.c_source.specs.Sources.{HasTokens, FailsWith, HasTree, SpellsStraight, Refuses}

same_tokens : (source : List ℕ) (a b : List Token) → HasTokens source a → HasTokens source b → a ≡ b
same_tokens source a b h k = let e = h.read in let f = k.read in cc

read_or_fails : (source : List ℕ) (tokens : List Token) (fault : Fault) → HasTokens source tokens → FailsWith source fault → ⊥
read_or_fails source tokens fault h k = let e = h.read in let f = k.read in cc

none_deeper : (tokens : List Token) (at : ℕ) → IsFirstTooDeep tokens None → IsFirstTooDeep tokens (Some at) → ⊥
none_deeper tokens at none some =
    let inside : at + 1 ≤ length (kinds_of tokens) = let h = some.0 in omega arith in
    let flat : depth_after (kinds_of tokens) (at + 1) ≤ MAX_NESTING = none (at + 1) inside in
    let deep : MAX_NESTING < depth_after (kinds_of tokens) (at + 1) = some.1 in
    omega arith

within_of : (source : List ℕ) (tokens : List Token) (tree : Tree) (others : List Token) → HasTree source tokens tree → HasTokens source others → IsWithin others
within_of source tokens tree others h k = subst IsWithin (same_tokens source tokens others h.tokens_are k) h.within

spelled_of : (source : List ℕ) (tokens : List Token) (tree : Tree) (others : List Token) → HasTree source tokens tree → HasTokens source others → Spells others tree
spelled_of source tokens tree others h k =
    let P : List Token → Type 0 = λ ts. Spells ts tree in
    subst P (same_tokens source tokens others h.tokens_are k) h.spelled

straight_of : (source : List ℕ) (tokens : List Token) (tree : Tree) (others : List Token) (other : Tree) (program : Program) → OneTree
    → HasTree source tokens tree → IsStraight tree program → HasTree source others other → IsStraight other program
straight_of source tokens tree others other program one h is k =
    let P : Tree → Type 0 = λ t. IsStraight t program in
    subst P (one others tree other (spelled_of source tokens tree others h k.tokens_are) k.spelled) is

pub spells_or_refuses_lem : OneTree → (source : List ℕ) (program : Program) (refusal : Refusal) → SpellsStraight source program → Refuses source refusal → ⊥
spells_or_refuses_lem one source program TooLong early r = let size = early.has.tokens_are.size in omega arith
spells_or_refuses_lem one source program (NoToken line) early r = read_or_fails source early.tokens _ early.has.tokens_are r.1.fails
spells_or_refuses_lem one source program (Directive line) early r = read_or_fails source early.tokens _ early.has.tokens_are r.1.fails
spells_or_refuses_lem one source program (LongConstant line) early r = read_or_fails source early.tokens _ early.has.tokens_are r.1.fails
spells_or_refuses_lem one source program (TooManyTokens line) early r = read_or_fails source early.tokens _ early.has.tokens_are r.1.fails
spells_or_refuses_lem one source program (LeftOut word line) early r =
    let within : IsWithin r.tokens = within_of source early.tokens early.tree r.tokens early.has r.has in
    let none : left_out r.tokens ≡ None = within.0 in let some = r.first in cc
spells_or_refuses_lem one source program (TooDeep line) early r =
    let within : IsWithin r.tokens = within_of source early.tokens early.tree r.tokens early.has r.has in
    none_deeper r.tokens r.at within.1 r.first
spells_or_refuses_lem one source program (Syntax line) early r = r.no_tree early.tree (spelled_of source early.tokens early.tree r.tokens early.has r.has)
spells_or_refuses_lem one source program NotYet early r =
    r.not_straight program (straight_of source early.tokens early.tree r.tokens r.tree program one early.has early.straight r.has)

-- what is found is the items of both
same_program : (one other : Program) (found : Option (List BlockItem)) → found ≡ Some one.items → found ≡ Some other.items → one ≡ other
same_program one other found e f =
    let items : one.items ≡ other.items = cc in
    ap (λ (xs : List BlockItem). record { items = xs }) items

pub one_program_lem : OneTree → (source : List ℕ) (one other : Program) → SpellsStraight source one → SpellsStraight source other → one ≡ other
one_program_lem law source one other a b =
    let there : IsStraight b.tree one = straight_of source a.tokens a.tree b.tokens b.tree one law a.has a.straight b.has in
    same_program one other (items_of b.tree.lines b.tree.externals) there.items b.straight.items
