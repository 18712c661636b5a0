-- What the tokens spell is what the reader of texts reads.
use Rattle.std.proofs.Common.{◌≡◌, ℕ, zero, suc, ◌+◌, ◌<◌, ◌≤◌, List, [], ◌∷◌, length, Option, Some, None, Bool, true, false, refl, ap, ◌∙◌, arith, inl, inr}
use Rattle.c_tokens.specs.declared.token.TokenKind.{TokenKind}
use Rattle.c_tokens.specs.declared.token.TokenKind.TheVariants as token
use Rattle.c_tree.specs.declared.expression.Specifier.{Specifier}
use Rattle.c_tree.specs.declared.expression.Declarator.{Declarator}
use Rattle.c_tree.specs.declared.declaration.Declared.{Declared}
use Rattle.c_tree.specs.declared.declaration.Declaration.{Declaration}
use Rattle.c_tree.specs.declared.declaration.External.{External}
use Rattle.c_tree.specs.declared.declaration.External.TheVariants as external_node
use Rattle.c_tree.specs.declared.statement.BlockItem.{BlockItem}
use Rattle.c_tree.specs.declared.scope.Entry.{Entry}
use Rattle.c_tree.specs.Places.{Place, At, next, declare, enter_with, leave}
use Rattle.c_tree.specs.Spells.{AreSpecifiers, IsDecorated}
use Rattle.c_tree.specs.SpellsStatements.{IsDeclaration, AreDeclared, no_names, some_names, one_declared, more_declared}
use Rattle.c_tree.specs.SpellsText as grammar
use Rattle.c_tree.specs.SpellsText.{IsExternal, AreExternals, parameters_of}
use Rattle.c_grammar.specs.Kinds.{kind_at}
use Rattle.c_grammar.specs.Marks as sign
use Rattle.c_grammar.specs.Marks.{follows_specifiers, Mark, mark, mark_at, extends_declarator}
use Rattle.c_grammar.specs.ReadExpressions.{Gives, and_then}
use Rattle.c_grammar.specs.ReadTypes.{ListOf, separated_after, Specifies, Titled, Titles}
use Rattle.c_grammar.specs.Readers.{specifiers, declarator}
use Rattle.c_grammar.specs.ReadStatements.{initialiser, declared_after, declaration_end, names_with, declaration, block, statement}
use Rattle.c_grammar.specs.ReadText as rule
use Rattle.c_grammar_laws.proofs.StatementSteps.{externals_on}
use Rattle.c_grammar_laws.proofs.Complete.{Enough}
use Rattle.c_grammar_laws.proofs.Leads.{begins_declarator, begins_specifiers, is_curly, declarator_follows, decorated_leads, specifiers_lead}
use Rattle.c_grammar_laws.proofs.CompleteTypes.{then_on, curly_closes_on, semicolon_on, Inside, inside}
use Rattle.c_grammar_laws.proofs.CompleteReaders.{complete_specifiers, complete_decorated}
use Rattle.c_grammar_laws.proofs.CompleteDeclarations.{ReachesDeclared, complete_declared, complete_names, names_lead}
use Rattle.c_grammar_laws.proofs.StatementLeads.{declaration_leads}
use Rattle.c_grammar_laws.proofs.CompleteStatements.{complete_block}

abbrev ReachesExternal : List TokenKind → Place → Place → External → Type 0
ReachesExternal kinds p q x = (n : ℕ) → Enough kinds n p → (p.at < q.at) × (rule.external kinds n p ≡ Gives x q)

external_specified : (kinds : List TokenKind) (n : ℕ) (p : Place) (m : Mark) → begins_specifiers m ≡ true
    → rule.external_from kinds n p m ≡ and_then (specifiers kinds n p) (rule.external_after kinds n)
external_specified kinds n p sign.Semicolon h = cc
external_specified kinds n p _ h = refl

external_declared : (kinds : List TokenKind) (n : ℕ) (defines : Bool) (list : List Specifier) (q : Place) (m : Mark) → begins_declarator m ≡ true
    → rule.external_named kinds n defines list q m ≡ and_then (declarator kinds n q) (λ d r. rule.external_by kinds n defines list d r (mark_at kinds r))
external_declared kinds n defines list q sign.Semicolon h = cc
external_declared kinds n defines list q _ h = refl

external_plain : (kinds : List TokenKind) (n : ℕ) (defines : Bool) (list : List Specifier) (d : Titled) (r : Place) (m : Mark) → is_curly m ≡ false
    → rule.external_by kinds n defines list d r m ≡ and_then (declared_after kinds (initialiser kinds n) defines d r) (rule.external_names kinds (names_with kinds n) defines list)
external_plain kinds n defines list d r sign.CurlyOpens h = cc
external_plain kinds n defines list d r _ h = refl

-- after the first name
abbrev ReachesOthers : List TokenKind → Bool → Place → Place → Declared → Place → List Declared → Type 0
ReachesOthers kinds defines q s x r names = (n : ℕ) → Enough kinds n q
    → (s.at ≤ r.at) × (q.at < s.at) × (d : Titled) × (o : Place) × (declarator kinds n q ≡ Gives d o) × (is_curly (mark_at kinds o) ≡ false)
    × (declared_after kinds (initialiser kinds n) defines d o ≡ Gives x s) × (separated_after (names_with kinds n defines) x s (mark_at kinds s) ≡ Gives names r)

-- the first of the names and the others
abbrev FirstOf : List TokenKind → Bool → Place → Place → List Declared → Type 0
FirstOf kinds defines q r names = (x : Declared) × (s : Place) × ReachesOthers kinds defines q s x r names

one_first : (kinds : List TokenKind) (defines : Bool) (q r : Place) (x : Declared) → ReachesDeclared kinds defines q r x → At kinds r token.Semicolon
    → ReachesOthers kinds defines q r x r (x ∷ [])
one_first kinds defines q r x ih a n e =
    let i = ih n (inr a) e in
    (omega arith, i.2, i.0, i.1, i.3, i.4, i.5, ap (λ k. separated_after (names_with kinds n defines) x r (mark k)) a)

more_first : (kinds : List TokenKind) (defines : Bool) (q s r : Place) (x : Declared) (xs : List Declared) → ReachesDeclared kinds defines q s x → At kinds s token.Comma
    → AreDeclared kinds defines (next s) r xs → At kinds r token.Semicolon → ReachesOthers kinds defines q s x r (x ∷ xs)
more_first kinds defines q s r x xs ih b f a n e =
    let i = ih n (inl b) e in
    let lt : q.at < s.at = i.2 in
    let j = complete_names kinds defines (next s) r xs f n n a (omega (arith, lt)) (omega (arith, lt)) in
    let lr : s.at + 1 < r.at = j.0 in (
      omega (arith, lr),
      lt,
      i.0,
      i.1,
      i.3,
      i.4,
      i.5,
      ap (λ k. separated_after (names_with kinds n defines) x s (mark k)) b ∙ then_on (names_with kinds n defines (next s)) xs r _ j.1,
    )

first_of_names : (kinds : List TokenKind) (defines : Bool) (q r : Place) (names : List Declared) → AreDeclared kinds defines q r names → At kinds r token.Semicolon → FirstOf kinds defines q r names
first_of_names kinds defines from to whole (one_declared q r x d) a = (x, r, one_first kinds defines q r x (complete_declared kinds defines q r x d) a)
first_of_names kinds defines from to whole (more_declared q s r x xs d b f) a = (x, s, more_first kinds defines q s r x xs (complete_declared kinds defines q s x d) b f a)

no_names_goes : (kinds : List TokenKind) (p q : Place) (defines : Bool) (list : List Specifier) → AreSpecifiers kinds p q defines list → At kinds q token.Semicolon
    → ReachesExternal kinds p (next q) (external_node.Declared (record { specifiers = list; names = []; at = q.at }))
no_names_goes kinds p q defines list d a n e =
    let i = complete_specifiers kinds p q defines list d n (ap (λ k. follows_specifiers (mark k)) a) e in
    let lt : p.at < q.at = i.0 in (
      omega (arith, lt),
      external_specified kinds n p (mark_at kinds p) (specifiers_lead kinds p q defines list d) ∙ then_on (specifiers kinds n p) (Specifies defines list) q _ i.1
          ∙ ap (λ k. rule.external_named kinds n defines list q (mark k)) a,
    )

some_names_goes : (kinds : List TokenKind) (p q r : Place) (defines : Bool) (list : List Specifier) (names : List Declared) → AreSpecifiers kinds p q defines list
    → begins_declarator (mark_at kinds q) ≡ true → FirstOf kinds defines q r names → At kinds r token.Semicolon
    → ReachesExternal kinds p (next r) (external_node.Declared (record { specifiers = list; names = names; at = r.at }))
some_names_goes kinds p q r defines list names d l first a n e =
    let i = complete_specifiers kinds p q defines list d n (declarator_follows (mark_at kinds q) l) e in
    let lt : p.at < q.at = i.0 in
    let j = first.2 n (omega (arith, lt)) in
    let x = first.0 in
    let s = first.1 in
    let le : s.at ≤ r.at = j.0 in
    let ls : q.at < s.at = j.1 in
    let end : declaration_end kinds list names r ≡ Gives (record { specifiers = list; names = names; at = r.at }) (next r) = semicolon_on kinds r _ a in (
      omega (arith, lt, le, ls),
      external_specified kinds n p (mark_at kinds p) (specifiers_lead kinds p q defines list d) ∙ then_on (specifiers kinds n p) (Specifies defines list) q _ i.1
          ∙ external_declared kinds n defines list q (mark_at kinds q) l ∙ then_on (declarator kinds n q) j.2 j.3 _ j.4
          ∙ external_plain kinds n defines list j.2 j.3 (mark_at kinds j.3) j.5 ∙ then_on (declared_after kinds (initialiser kinds n) defines j.2 j.3) x s _ j.6
          ∙ then_on (separated_after (names_with kinds n defines) x s (mark_at kinds s)) names r _ j.7
          ∙ then_on (declaration_end kinds list names r) (record { specifiers = list; names = names; at = r.at }) (next r) _ end,
    )

declared_external_goes : (kinds : List TokenKind) (p q : Place) (x : Declaration) → IsDeclaration kinds p q x → ReachesExternal kinds p q (external_node.Declared x)
declared_external_goes kinds from to whole (no_names p q defines list d a) = no_names_goes kinds p q defines list d a
declared_external_goes kinds from to whole (some_names p q r defines list names d e a) =
    some_names_goes kinds p q r defines list names d (names_lead kinds defines q r names e) (first_of_names kinds defines q r names e a) a

defined_goes : (kinds : List TokenKind) (p q r s : Place) (defines : Bool) (list : List Specifier) (name : List ℕ) (parameters : Option (List Entry)) (inner : Declarator)
    (items : List BlockItem) → AreSpecifiers kinds p q defines list → IsDecorated kinds q r name parameters inner → At kinds r token.LeftBrace
    → ((n c : ℕ) → Enough kinds n (next r) → Enough kinds c (next r)
    → (r.at + 1 ≤ s.at) × (block kinds (declaration kinds n) (statement kinds n) c (enter_with (declare (next r) name defines) (parameters_of parameters)) ≡ Gives items s))
    → At kinds s token.RightBrace → ReachesExternal kinds p (leave (next s)) (external_node.Defined list inner items r.at)
defined_goes kinds p q r s defines list name parameters inner items d f a ih b n e =
    let l = decorated_leads kinds q r name parameters inner f in
    let i = complete_specifiers kinds p q defines list d n (declarator_follows (mark_at kinds q) l) e in
    let lt : p.at < q.at = i.0 in
    let j = complete_decorated kinds q r name parameters inner f n (ap (λ k. extends_declarator (mark k)) a) (omega (arith, lt)) in
    let lr : q.at < r.at = j.0 in
    let k = ih n n (omega (arith, lt, lr)) (omega (arith, lt, lr)) in
    let le : r.at + 1 ≤ s.at = k.0 in (
      omega (arith, lt, lr, le),
      external_specified kinds n p (mark_at kinds p) (specifiers_lead kinds p q defines list d) ∙ then_on (specifiers kinds n p) (Specifies defines list) q _ i.1
          ∙ external_declared kinds n defines list q (mark_at kinds q) l ∙ then_on (declarator kinds n q) (Titles name parameters inner) r _ j.1
          ∙ ap (λ m. rule.external_by kinds n defines list (Titles name parameters inner) r (mark m)) a
          ∙ then_on (block kinds (declaration kinds n) (statement kinds n) n (enter_with (declare (next r) name defines) (parameters_of parameters))) items s _ k.1
          ∙ curly_closes_on kinds s _ b,
    )

pub complete_external : (kinds : List TokenKind) (p q : Place) (x : External) → IsExternal kinds p q x → ReachesExternal kinds p q x
complete_external kinds from to whole (grammar.empty_external p a) = λ n e. (omega arith, ap (λ k. rule.external_from kinds n p (mark k)) a)
complete_external kinds from to whole (grammar.declared_external p q x d) = declared_external_goes kinds p q x d
complete_external kinds from to whole (grammar.defined_function p q r s defines list name parameters inner items d f a g b) =
    defined_goes kinds p q r s defines list name parameters inner items d f a
    (λ n c e h. complete_block kinds (enter_with (declare (next r) name defines) (parameters_of parameters)) s items g n c b e h) b

-- ---- the text

abbrev begins_external : Mark → Bool
begins_external sign.Semicolon = true
begins_external m = begins_specifiers m

specifiers_external : (m : Mark) → begins_specifiers m ≡ true → begins_external m ≡ true
specifiers_external sign.Semicolon h = cc
specifiers_external _ h = h

external_leads : (kinds : List TokenKind) (p q : Place) (x : External) → IsExternal kinds p q x → begins_external (mark_at kinds p) ≡ true
external_leads kinds from to whole (grammar.empty_external p a) = ap (λ k. begins_external (mark k)) a
external_leads kinds from to whole (grammar.declared_external p q x d) = specifiers_external (mark_at kinds p) (declaration_leads kinds p q x d)
external_leads kinds from to whole (grammar.defined_function p q r s defines list name parameters inner items d f a g b) =
    specifiers_external (mark_at kinds p) (specifiers_lead kinds p q defines list d)

externals_some : (kinds : List TokenKind) (n : ℕ) (more : ListOf External) (p : Place) (k : Option TokenKind) → begins_external (mark k) ≡ true
    → rule.externals_by kinds n more p k ≡ and_then (rule.external kinds n p) (λ x q. and_then (more q) (λ xs r. Gives (x ∷ xs) r))
externals_some kinds n more p None h = cc
externals_some kinds n more p (Some kind) h = refl

inside_some : (kinds : List TokenKind) (p : Place) (k : Option TokenKind) → kind_at kinds p ≡ k → begins_external (mark k) ≡ true → Inside kinds p
inside_some kinds p None e h = cc
inside_some kinds p (Some kind) e h = inside kinds p kind e

abbrev ReachesExternals : List TokenKind → Place → Place → List External → Type 0
ReachesExternals kinds p q xs = (n c : ℕ) → kind_at kinds q ≡ None → Enough kinds n p → Enough kinds c p → (p.at ≤ q.at) × (rule.externals kinds n c p ≡ Gives xs q)

no_externals_goes : (kinds : List TokenKind) (p : Place) → ReachesExternals kinds p p []
no_externals_goes kinds p n zero a e f = absurd (omega arith)
no_externals_goes kinds p n (suc c) a e f = (omega arith, externals_on kinds n c p ∙ ap (rule.externals_by kinds n (rule.externals kinds n c) p) a)

more_externals_goes : (kinds : List TokenKind) (p q r : Place) (x : External) (xs : List External) → begins_external (mark_at kinds p) ≡ true → ReachesExternal kinds p q x
    → ReachesExternals kinds q r xs → ReachesExternals kinds p r (x ∷ xs)
more_externals_goes kinds p q r x xs l ih jh n zero a e f = absurd (omega arith)
more_externals_goes kinds p q r x xs l ih jh n (suc c) a e f =
    let w = inside_some kinds p (kind_at kinds p) refl l in
    let i = ih n e in
    let lt : p.at < q.at = i.0 in
    let j = jh n c a (omega (arith, lt)) (omega (arith, lt, w)) in
    let le : q.at ≤ r.at = j.0 in (
      omega (arith, lt, le),
      externals_on kinds n c p ∙ externals_some kinds n (rule.externals kinds n c) p (kind_at kinds p) l ∙ then_on (rule.external kinds n p) x q _ i.1
          ∙ then_on (rule.externals kinds n c q) xs r _ j.1,
    )

pub complete_externals : (kinds : List TokenKind) (p q : Place) (xs : List External) → AreExternals kinds p q xs → ReachesExternals kinds p q xs
complete_externals kinds from to whole (grammar.no_externals p) = no_externals_goes kinds p
complete_externals kinds from to whole (grammar.more_externals p q r x xs d e) =
    more_externals_goes kinds p q r x xs (external_leads kinds p q x d) (complete_external kinds p q x d) (complete_externals kinds q r xs e)

-- ---- the last token ends the text

declaration_within : (kinds : List TokenKind) (p q : Place) (x : Declaration) → IsDeclaration kinds p q x → q.at ≤ length kinds
declaration_within kinds from to whole (no_names p q defines list d a) = omega (arith, inside kinds q token.Semicolon a)
declaration_within kinds from to whole (some_names p q r defines list names d e a) = omega (arith, inside kinds r token.Semicolon a)

external_within : (kinds : List TokenKind) (p q : Place) (x : External) → IsExternal kinds p q x → q.at ≤ length kinds
external_within kinds from to whole (grammar.empty_external p a) = omega (arith, inside kinds p token.Semicolon a)
external_within kinds from to whole (grammar.declared_external p q x d) = declaration_within kinds p q x d
external_within kinds from to whole (grammar.defined_function p q r s defines list name parameters inner items d f a g b) = omega (arith, inside kinds s token.RightBrace b)

pub externals_within : (kinds : List TokenKind) (p q : Place) (xs : List External) → AreExternals kinds p q xs → p.at ≤ length kinds → q.at ≤ length kinds
externals_within kinds from to whole (grammar.no_externals p) h = h
externals_within kinds from to whole (grammar.more_externals p q r x xs d e) h = externals_within kinds q r xs e (external_within kinds p q x d)
