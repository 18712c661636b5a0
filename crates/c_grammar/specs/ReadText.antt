-- The reader of a whole text.
use Rattle.std.specs.Prelude.{ℕ, zero, suc, ◌+◌, Bool, List, [], ◌∷◌, length, Option, Some, None}
use Rattle.c_tokens.specs.declared.token.TokenKind.{TokenKind}
use Rattle.c_tree.specs.declared.expression.Specifier.{Specifier}
use Rattle.c_tree.specs.declared.declaration.Declared.{Declared}
use Rattle.c_tree.specs.declared.declaration.Declaration.{Declaration}
use Rattle.c_tree.specs.declared.declaration.External.{External}
use Rattle.c_tree.specs.declared.declaration.External.TheVariants as external_node
use Rattle.c_tree.specs.declared.statement.BlockItem.{BlockItem}
use Rattle.c_tree.specs.Places.{Place, next, declare, enter_with, leave}
use Rattle.c_tree.specs.SpellsText.{parameters_of, beginning}
use Rattle.c_grammar.specs.Kinds.{kind_at}
use Rattle.c_grammar.specs.Marks as sign
use Rattle.c_grammar.specs.Marks.{Mark, mark_at}
use Rattle.c_grammar.specs.ReadExpressions.{Outcome, Gives, Refuses, and_then}
use Rattle.c_grammar.specs.ReadTypes.{where_curly_closes, ListOf, separated_after, Specified, Specifies, Titled, Titles}
use Rattle.c_grammar.specs.Readers.{specifiers, declarator}
use Rattle.c_grammar.specs.ReadStatements.{initialiser, declared_after, declaration_end, names_with, declaration, block, statement}

abbrev pub is_declaration : Declaration → Place → Outcome External
is_declaration x q = Gives (external_node.Declared x) q

-- after the first name of a declaration and its initialiser
abbrev pub external_names : List TokenKind → (Bool → ListOf Declared) → Bool → List Specifier → Declared → Place → Outcome External
external_names kinds names defines list x q =
    and_then (separated_after (names defines) x q (mark_at kinds q)) (λ xs r. and_then (declaration_end kinds list xs r) is_declaration)

-- the body of a function (6.9.1)
abbrev pub defined : List TokenKind → ListOf BlockItem → Bool → List Specifier → Titled → Place → Outcome External
defined kinds items defines list (Titles name parameters inner) r =
    and_then (items (enter_with (declare (next r) name defines) (parameters_of parameters)))
    (λ xs s. where_curly_closes (mark_at kinds s) (Gives (external_node.Defined list inner xs r.at) (leave (next s))))

-- after the first declarator: one token says whether a body stands there
abbrev pub external_by : List TokenKind → ℕ → Bool → List Specifier → Titled → Place → Mark → Outcome External
external_by kinds n defines list d r sign.CurlyOpens = defined kinds (block kinds (declaration kinds n) (statement kinds n) n) defines list d r
external_by kinds n defines list d r _ = and_then (declared_after kinds (initialiser kinds n) defines d r) (external_names kinds (names_with kinds n) defines list)

abbrev pub external_named : List TokenKind → ℕ → Bool → List Specifier → Place → Mark → Outcome External
external_named kinds n defines list q sign.Semicolon = Gives (external_node.Declared (record { specifiers = list; names = []; at = q.at })) (next q)
external_named kinds n defines list q _ = and_then (declarator kinds n q) (λ d r. external_by kinds n defines list d r (mark_at kinds r))

abbrev pub external_after : List TokenKind → ℕ → Specified → Place → Outcome External
external_after kinds n (Specifies defines list) q = external_named kinds n defines list q (mark_at kinds q)

-- 6.9
abbrev pub external_from : List TokenKind → ℕ → Place → Mark → Outcome External
external_from kinds n p sign.Semicolon = Gives (external_node.Empty p.at) (next p)
external_from kinds n p _ = and_then (specifiers kinds n p) (external_after kinds n)

abbrev pub external : List TokenKind → ℕ → Place → Outcome External
external kinds n p = external_from kinds n p (mark_at kinds p)

abbrev pub externals_by : List TokenKind → ℕ → ListOf External → Place → Option TokenKind → Outcome (List External)
externals_by kinds n more p None = Gives [] p
externals_by kinds n more p (Some kind) = and_then (external kinds n p) (λ x q. and_then (more q) (λ xs r. Gives (x ∷ xs) r))

-- to the end of the text; the second number bounds how many there are
unfoldable pub externals : List TokenKind → ℕ → ℕ → ListOf External
externals kinds n zero p = Refuses
externals kinds n (suc count) p = externals_by kinds n (externals kinds n count) p (kind_at kinds p)

-- one more than the tokens is enough
abbrev pub text : List TokenKind → Outcome (List External)
text kinds = externals kinds (length kinds + 1) (length kinds + 1) beginning
