-- A mark without the name that it carries.
use Rattle.std.specs.Prelude.{◌≡◌, ℕ, List, [], Result, Ok, Err}
use Rattle.c_tokens.specs.declared.token.TokenKind.{TokenKind}
use Rattle.c_tree.specs.Places.{Place, next}
use Rattle.c_tree.specs.Signs as sign
use Rattle.c_cursor.specs.declared.fault.Fault.{Fault}
use Rattle.c_cursor.specs.declared.fault.Fault.TheVariants.{Syntax, NoMemory}
use Rattle.c_grammar.specs.Marks as spec
use Rattle.c_grammar.specs.Marks.{mark_at}
pub use Rattle.c_cursor.specs.declared.marks.Mark.{Mark}
use Rattle.c_cursor.specs.declared.marks.Mark.TheVariants as mark
use Rattle.c_cursor.specs.declared.skips.Bracket.{Bracket}
use Rattle.c_cursor.specs.declared.skips.Bracket.TheVariants as bracket
use Rattle.c_cursor.specs.declared.skips.Bracketing.{Bracketing}
use Rattle.c_cursor.specs.declared.skips.Bracketing.TheVariants as bracketing
use Rattle.c_grammar.specs.ReadExpressions.{Outcome, Gives}
use Rattle.c_grammar.specs.ReadTypes.{balanced, attribute}

abbrev pub bare : spec.Mark → Mark
bare spec.RoundOpens = mark.RoundOpens
bare spec.RoundCloses = mark.RoundCloses
bare spec.SquareOpens = mark.SquareOpens
bare spec.SquareCloses = mark.SquareCloses
bare spec.CurlyOpens = mark.CurlyOpens
bare spec.CurlyCloses = mark.CurlyCloses
bare spec.Semicolon = mark.Semicolon
bare spec.Comma = mark.Comma
bare spec.Colon = mark.Colon
bare spec.Equals = mark.Equals
bare spec.Star = mark.Star
bare spec.Ellipsis = mark.Ellipsis
bare (spec.Name text) = mark.Name
bare spec.Attribute = mark.Attribute
bare spec.Extension = mark.Extension
bare (spec.Stores word) = mark.Stores word
bare (spec.Functions word) = mark.Functions word
bare (spec.Qualifies word) = mark.Qualifies word
bare (spec.Bases word) = mark.Bases word
bare (spec.TypeWords kind) = mark.TypeWords kind
bare spec.Structs = mark.Structs
bare spec.Enums = mark.Enums
bare spec.Case = mark.Case
bare spec.Default = mark.Default
bare spec.If = mark.If
bare spec.Else = mark.Else
bare spec.Switch = mark.Switch
bare spec.While = mark.While
bare spec.Do = mark.Do
bare spec.For = mark.For
bare spec.Break = mark.Break
bare spec.Continue = mark.Continue
bare spec.Return = mark.Return
bare spec.NoMark = mark.NoMark

-- what the next token is
abbrev pub bare_at : List TokenKind → Place → Mark
bare_at kinds p = bare (mark_at kinds p)

-- there is a token, and it is a mark
abbrev pub IsMark : Mark → Type 0
IsMark mark.NoMark = ⊥
IsMark _ = Unit {0}

-- the next token is what is wanted and is taken, or it is not
abbrev pub Takes : List TokenKind → Mark → Place → Result (Unit {0}) Fault → Place → Type 0
Takes kinds wanted old (Ok u) new = (bare_at kinds old ≡ wanted) × (new ≡ next old)
Takes kinds wanted old (Err (Syntax at)) new = bare_at kinds old ≡ wanted → ⊥
Takes kinds wanted old (Err NoMemory) new = ⊥

-- ---- brackets

abbrev pub bare_bracket : sign.Bracket → Bracket
bare_bracket sign.Round = bracket.Round
bare_bracket sign.Square = bracket.Square
bare_bracket sign.Curly = bracket.Curly

abbrev pub bare_bracketing : spec.Bracketing → Bracketing
bare_bracketing (spec.Opens b) = bracketing.Opens (bare_bracket b)
bare_bracketing (spec.Closes b) = bracketing.Closes (bare_bracket b)
bare_bracketing spec.NoBracket = bracketing.NoBracket
bare_bracketing spec.NoToken = bracketing.NoToken

abbrev pub IsToken : Bracketing → Type 0
IsToken bracketing.NoToken = ⊥
IsToken _ = Unit {0}

-- what follows `__attribute__`, and nothing after that
abbrev pub attribute_alone : List TokenKind → ℕ → Place → Outcome (Unit {0})
attribute_alone kinds n p = attribute kinds (balanced kinds n []) (λ q. Gives tt q) p
