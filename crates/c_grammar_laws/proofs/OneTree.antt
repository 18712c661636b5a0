-- Tokens spell one tree at most, part by part.
use Rattle.std.proofs.Common.{◌≡◌, ℕ, ◌+◌, ◌<◌, ◌≤◌, List, length, Option, Some, None, Bool, true, ap, ◌∙◌, sym, refl, arith, inl, inr}
use Rattle.std.specs.Prelude.{◌⊎◌, slice_get, get_or}
use Rattle.std.proofs.lemmas.List.{length-map}
use Rattle.std.proofs.lemmas.Option.{slice_get_past, slice_get_cases}
use Rattle.c_tokens.specs.declared.token.TokenKind.{TokenKind}
use Rattle.c_tokens.specs.declared.token.TokenKind.TheVariants as token
use Rattle.c_tokens.specs.declared.token.Token.{Token}
use Rattle.c_tree.specs.declared.expression.Declarator.{Declarator}
use Rattle.c_tree.specs.declared.expression.Specifier.{Specifier}
use Rattle.c_tree.specs.declared.declaration.External.{External}
use Rattle.c_tree.specs.declared.declaration.Tree.{Tree}
use Rattle.c_tree.specs.declared.scope.Entry.{Entry}
use Rattle.c_tree.specs.Places.{Place, At}
use Rattle.c_tree.specs.SpellsText.{Spells, kinds_of, lines_of, beginning}
use Rattle.c_grammar.specs.Kinds.{kind_at}
use Rattle.c_grammar.specs.Marks as sign
use Rattle.c_grammar.specs.Marks.{mark_at}
use Rattle.c_grammar.specs.ReadExpressions.{Outcome, Gives, Refuses}
use Rattle.c_grammar.specs.ReadTypes.{Specifies, Titles}
use Rattle.c_grammar.specs.ReadText.{text}
use Rattle.c_grammar_laws.specs.Laws.{OneExpression, OneTypeName, OneListOfSpecifiers, OneInitialiser, OneDeclarator, OneDeclaration, OneStatement, OneExternal, OneTree, IsRead, ReadsWhatIsSpelled, RefusesTheRest}
use Rattle.c_grammar_laws.proofs.MarkLaws.{mark_means}
use Rattle.c_grammar_laws.proofs.Complete.{Enough, exact}
use Rattle.c_grammar_laws.proofs.CompleteReaders.{complete, complete_type, complete_specifiers, complete_decorated}
use Rattle.c_grammar_laws.proofs.CompleteDeclarations.{complete_initialiser, complete_declaration}
use Rattle.c_grammar_laws.proofs.CompleteStatements.{complete_statement, Shut}
use Rattle.c_grammar_laws.proofs.CompleteText.{complete_external, complete_externals, externals_within}
use Rattle.c_grammar_laws.proofs.SoundText.{externals_sound}

enough : (kinds : List TokenKind) (p : Place) → Enough kinds (length kinds + 1) p
enough kinds p = omega arith

same : {A : Type 0} (o : Outcome A) (x y : A) (q r : Place) → o ≡ Gives x q → o ≡ Gives y r → (x ≡ y) × (q ≡ r)
same o x y q r a b = let e : Gives x q ≡ Gives y r = sym a ∙ b in (cc, cc)

pub one_expression : OneExpression
one_expression kinds k p q r x y le d f a b =
    let i = exact kinds k p q x (complete kinds k p q x d) (length kinds + 1) le a (enough kinds p) in
    let j = exact kinds k p r y (complete kinds k p r y f) (length kinds + 1) le b (enough kinds p) in
    same _ x y q r i.1 j.1

pub one_type_name : OneTypeName
one_type_name kinds p q r x y d f a b =
    let c = complete_type kinds p q x d in
    let e = complete_type kinds p r y f in
    let i = c.1 (length kinds + 1) a (enough kinds p) in
    let j = e.1 (length kinds + 1) b (enough kinds p) in
    same _ x y q r i.1 j.1

specified_same : (d e : Bool) (x y : List Specifier) (q r : Place) → (Specifies d x ≡ Specifies e y) × (q ≡ r) → (x ≡ y) × (q ≡ r) × (d ≡ e)
specified_same d e x y q r h =
    let s : Specifies d x ≡ Specifies e y = h.0 in
    (cc, h.1, cc)

pub one_list_of_specifiers : OneListOfSpecifiers
one_list_of_specifiers kinds p q r d e x y f g a b =
    let i = complete_specifiers kinds p q d x f (length kinds + 1) a (enough kinds p) in
    let j = complete_specifiers kinds p r e y g (length kinds + 1) b (enough kinds p) in
    specified_same d e x y q r (same _ (Specifies d x) (Specifies e y) q r i.1 j.1)

pub one_initialiser : OneInitialiser
one_initialiser kinds p q r x y d f a b =
    let i = complete_initialiser kinds p q x d (length kinds + 1) a (enough kinds p) in
    let j = complete_initialiser kinds p r y f (length kinds + 1) b (enough kinds p) in
    same _ x y q r i.1 j.1

titles_same : (name other : List ℕ) (parameters others : Option (List Entry)) (x y : Declarator) (q r : Place) → (Titles name parameters x ≡ Titles other others y) × (q ≡ r)
    → (x ≡ y) × (q ≡ r) × (name ≡ other) × (parameters ≡ others)
titles_same name other parameters others x y q r e =
    let d : Titles name parameters x ≡ Titles other others y = e.0 in
    (cc, e.1, cc, cc)

pub one_declarator : OneDeclarator
one_declarator kinds p q r name other parameters others x y d f a b =
    let i = complete_decorated kinds p q name parameters x d (length kinds + 1) a (enough kinds p) in
    let j = complete_decorated kinds p r other others y f (length kinds + 1) b (enough kinds p) in
    titles_same name other parameters others x y q r (same _ (Titles name parameters x) (Titles other others y) q r i.1 j.1)

pub one_declaration : OneDeclaration
one_declaration kinds p q r x y d f =
    let i = complete_declaration kinds p q x d (length kinds + 1) (enough kinds p) in
    let j = complete_declaration kinds p r y f (length kinds + 1) (enough kinds p) in
    same _ x y q r i.1 j.1

shut_from : (kinds : List TokenKind) (ends_open : Bool) (q : Place) → (ends_open ≡ true → At kinds q token.Else → ⊥) → Shut kinds ends_open q
shut_from kinds ends_open q f e h = f e (mark_means (kind_at kinds q) sign.Else h (λ z. cc))

pub one_statement : OneStatement
one_statement kinds ends_open ends_so p q r x y d f a b =
    let i = complete_statement kinds ends_open p q x d (length kinds + 1) (shut_from kinds ends_open q a) (enough kinds p) in
    let j = complete_statement kinds ends_so p r y f (length kinds + 1) (shut_from kinds ends_so r b) (enough kinds p) in
    same _ x y q r i.1 j.1

pub one_external : OneExternal
one_external kinds p q r x y d f =
    let i = complete_external kinds p q x d (length kinds + 1) (enough kinds p) in
    let j = complete_external kinds p r y f (length kinds + 1) (enough kinds p) in
    same _ x y q r i.1 j.1

spelled_read : (tokens : List Token) (tree : Tree) (s : Spells tokens tree) → text (kinds_of tokens) ≡ Gives tree.externals s.end
spelled_read tokens tree s =
    let kinds = kinds_of tokens in
    let same_length = length-map tokens (λ t. t.kind) in
    let all_read = s.all in
    let last : kind_at kinds s.end ≡ None = slice_get_past kinds s.end.at (omega (arith, same_length, all_read)) in
    let i = complete_externals kinds beginning s.end tree.externals s.spelled (length kinds + 1) (length kinds + 1) last (enough kinds beginning) (enough kinds beginning) in
    i.1

past_by : (kinds : List TokenKind) (n : ℕ) → slice_get kinds n ≡ None
    → (((x : TokenKind) × (n < length kinds) × (slice_get kinds n ≡ Some x) × (get_or kinds n x ≡ x)) ⊎ ((length kinds ≤ n) × (slice_get kinds n ≡ None))) → length kinds ≤ n
past_by kinds n h (inl c) = let e : slice_get kinds n ≡ Some c.0 = c.2 in let z = sym h ∙ e in cc
past_by kinds n h (inr c) = c.0

past : (kinds : List TokenKind) (n : ℕ) → slice_get kinds n ≡ None → length kinds ≤ n
past kinds n h = let c = slice_get_cases kinds n in past_by kinds n h c.1

read_spelled : (tokens : List Token) (tree : Tree) → IsRead tokens tree → Spells tokens tree
read_spelled tokens tree t =
    let kinds = kinds_of tokens in
    let q : Place = t.0.0 in
    let w = externals_sound kinds (length kinds + 1) (length kinds + 1) beginning tree.externals q t.0.1 in
    let ge = past kinds q.at w.1 in
    let le = externals_within kinds beginning q tree.externals w.0 (omega arith) in
    let same_length = length-map tokens (λ t. t.kind) in
    record { end = q; all = omega (arith, ge, le, same_length); spelled = w.0; lines_are = t.1 }

pub reads_what_is_spelled : ReadsWhatIsSpelled
reads_what_is_spelled tokens tree = (λ s. ((s.end, spelled_read tokens tree s), s.lines_are), λ t. read_spelled tokens tree t)

refused : (tokens : List Token) → text (kinds_of tokens) ≡ Refuses → (tree : Tree) → Spells tokens tree → ⊥
refused tokens e tree s = let f = spelled_read tokens tree s in let z = sym e ∙ f in cc

refuses_by : (tokens : List Token) → ((tree : Tree) → Spells tokens tree → ⊥) → (o : Outcome (List External)) → text (kinds_of tokens) ≡ o → o ≡ Refuses
refuses_by tokens h (Gives xs q) e =
    let tree : Tree = record { externals = xs; lines = lines_of tokens } in
    absurd (h tree (read_spelled tokens tree ((q, e), refl)))
refuses_by tokens h Refuses e = refl

pub refuses_the_rest : RefusesTheRest
refuses_the_rest tokens = (λ e. refused tokens e, λ h. refuses_by tokens h (text (kinds_of tokens)) refl)

pub one_tree : OneTree
one_tree tokens x y s t =
    let e = same (text (kinds_of tokens)) x.externals y.externals s.end t.end (spelled_read tokens x s) (spelled_read tokens y t) in
    let f : x.externals ≡ y.externals = e.0 in
    let g : x.lines ≡ y.lines = s.lines_are ∙ sym t.lines_are in
    ap (λ z. let made : Tree = record { externals = z; lines = x.lines } in made) f
    ∙ ap (λ z. let made : Tree = record { externals = y.externals; lines = z } in made) g
