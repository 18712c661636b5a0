-- The parts of specifiers (6.7), as the functions that read them divide them.
use Rattle.std.specs.Prelude.{ℕ, Bool, List, []}
use Rattle.c_tokens.specs.declared.token.TokenKind.{TokenKind}
use Rattle.c_tree.specs.declared.expression.Specifier.TheVariants as specifier_node
use Rattle.c_tree.specs.Places.{Place, next}
use Rattle.c_tree.specs.Spells as spelled
use Rattle.c_tree.specs.Spells.{storage_role}
use Rattle.c_grammar.specs.Marks as sign
use Rattle.c_grammar.specs.Marks.{mark_at}
use Rattle.c_grammar.specs.ReadExpressions.{Outcome, Gives, Refuses, and_then}
use Rattle.c_grammar.specs.ReadTypes as spec
use Rattle.c_grammar.specs.ReadTypes.{Plays, attributes}
use Rattle.c_cursor.specs.declared.marks.Mark.{Mark}
use Rattle.c_cursor.specs.declared.marks.Mark.TheVariants as mark
use Rattle.c_cursor.specs.Parts.{lines_at, constants_at}
use Rattle.c_specifiers.specs.declared.specifiers.Role.{Role}
use Rattle.c_specifiers.specs.declared.specifiers.Role.TheVariants.{Defines, Types, Modifies}
use Rattle.c_specifiers.specs.declared.specifiers.Specific.{Specific}

abbrev pub role_of : Role → spelled.Role
role_of Defines = spelled.Defines
role_of Types = spelled.Types
role_of Modifies = spelled.Modifies

abbrev pub specific_of : Specific → spec.Specific
specific_of s = Plays (role_of s.role) s.specifier

-- ---- single specifiers

-- from the word on
abbrev pub structure : List TokenKind → ℕ → Place → Outcome spec.Specific
structure kinds n p = spec.struct_by kinds (lines_at kinds n) p (mark_at kinds (next p))

abbrev pub enumeration : List TokenKind → ℕ → Place → Outcome spec.Specific
enumeration kinds n p = spec.enum_by kinds (constants_at kinds n) p (mark_at kinds (next p))

-- the number that a word stands at
abbrev pub at_number : ℕ → Place
at_number at = record { at = at; blocks = [] }

abbrev pub typedef_name : Bool → Place → sign.Mark → Outcome spec.Specific
typedef_name typed p (sign.Name text) = spec.name_specifier typed p text
typedef_name typed p _ = Refuses

-- a word that is a specifier by itself
abbrev pub word_specifier : Mark → Place → Outcome spec.Specific
word_specifier (mark.Stores word) p = Gives (Plays (storage_role word) (specifier_node.Storage word p.at)) (next p)
word_specifier (mark.Functions word) p = Gives (Plays spelled.Modifies (specifier_node.Function word p.at)) (next p)
word_specifier (mark.Qualifies word) p = Gives (Plays spelled.Modifies (specifier_node.Qualified word p.at)) (next p)
word_specifier (mark.Bases word) p = Gives (Plays spelled.Types (specifier_node.Base word p.at)) (next p)
word_specifier (mark.TypeWords kind) p = Gives (Plays spelled.Types (specifier_node.TypeWord kind p.at)) (next p)
word_specifier _ p = Refuses

abbrev pub specifier_at : List TokenKind → ℕ → Bool → Place → Outcome spec.Specific
specifier_at kinds n typed p = spec.specifier_by kinds (lines_at kinds n) (constants_at kinds n) typed p (mark_at kinds p)

-- with what has no meaning after it, which the second number bounds
abbrev pub decorated_specifier : List TokenKind → ℕ → ℕ → Bool → Place → Outcome spec.Specific
decorated_specifier kinds n limit typed p = and_then (specifier_at kinds n typed p) (λ s q. and_then (attributes kinds limit q) (λ u r. Gives s r))

-- ---- all specifiers

abbrev pub further_at : List TokenKind → ℕ → ℕ → Bool → Place → Outcome spec.Specified
further_at kinds n limit typed p = spec.further kinds (lines_at kinds n) (constants_at kinds n) limit typed p

abbrev pub all_specifiers_at : List TokenKind → ℕ → ℕ → Place → Outcome spec.Specified
all_specifiers_at kinds n limit p = spec.all_specifiers kinds (lines_at kinds n) (constants_at kinds n) limit p
