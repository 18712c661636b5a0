-- What the bytes of a source say: the straight program that they spell, or why they are refused. Sections are those of
-- ISO/IEC 9899:2011.
use Rattle.std.specs.Prelude.{◌≡◌, ℕ, ◌+◌, ◌-◌, ◌<◌, ◌≤◌, List, [], length, take, min, Option, Some, None, slice_get, unwrap_or}
use Rattle.c_tokens.specs.declared.data_model.DataModel.TheVariants.{Lp64}
use Rattle.c_tokens.specs.declared.limits.TheConstants.{MAX_BYTES}
use Rattle.c_tokens.specs.declared.token.Token.{Token}
use Rattle.c_tokens.specs.declared.token.TokenKind.{TokenKind}
use Rattle.c_straight_model.specs.declared.program.Program.{Program}
use Rattle.c_tokens.specs.Reading.{Fault, Read, Fails, newlines, place_of, reading}
use Rattle.c_tokens.specs.Reading as lexing
use Rattle.c_tokens.specs.Words.{left_out_text}
use Rattle.c_tree.specs.declared.declaration.Tree.{Tree}
use Rattle.c_tree.specs.SpellsText.{kinds_of, Spells}
use Rattle.c_parser.specs.Parses.{left_out, IsFirstTooDeep, IsWithin, SpellsNone}
use Rattle.c_straight.specs.Straight.{IsStraight}
use Rattle.c_source.specs.declared.refusal.Refusal.{Refusal}
use Rattle.c_source.specs.declared.refusal.Refusal.TheVariants.{TooLong, NoToken, Directive, LongConstant, TooManyTokens, LeftOut, TooDeep, Syntax, NotYet}

-- ---- lines, counted from 1

-- the line of the byte at an offset
abbrev pub line_of : List ℕ → ℕ → ℕ
line_of source at = 1 + newlines (take at source)

abbrev pub line_in : Option Token → ℕ
line_in (Some token) = token.line
line_in None = 1

-- the line of the token of a number; after the last token it is that of the last, or 1
abbrev pub line_at : List Token → ℕ → ℕ
line_at tokens at = line_in (slice_get tokens (min at (length tokens - 1)))

-- ---- words

-- a left-out token as it is printed; nothing where it isn't left out
abbrev pub word_of : TokenKind → List ℕ
word_of kind = unwrap_or (left_out_text kind) []

abbrev pub word_in : Option TokenKind → List ℕ
word_in (Some kind) = word_of kind
word_in None = []

abbrev pub word_at : List Token → ℕ → List ℕ
word_at tokens at = word_in (slice_get (kinds_of tokens) at)

-- ---- what the bytes say

-- these are the tokens of the bytes (6.4, 6.10)
pub record HasTokens (source : List ℕ) (tokens : List Token) : Type 0 where
  pub size : length source ≤ MAX_BYTES
  pub read : reading Lp64 source ≡ Read tokens

-- the reading of the bytes fails so
pub record FailsWith (source : List ℕ) (fault : Fault) : Type 0 where
  pub size : length source ≤ MAX_BYTES
  pub read : reading Lp64 source ≡ Fails fault

-- this is the tree of the bytes (6.9)
pub record HasTree (source : List ℕ) (tokens : List Token) (tree : Tree) : Type 0 where
  pub tokens_are : HasTokens source tokens
  pub within : IsWithin tokens
  pub spelled : Spells tokens tree

-- the bytes spell this straight program
pub record SpellsStraight (source : List ℕ) (program : Program) : Type 0 where
  pub tokens : List Token
  pub tree : Tree
  pub has : HasTree source tokens tree
  pub straight : IsStraight tree program

-- ---- why they are refused: each cause is the first in this order

-- a fault of this reading (5.1.1.2, 6.4, 6.10), at this line
pub record IsUnread (source : List ℕ) (fault : Fault) (line : ℕ) : Type 0 where
  pub fails : FailsWith source fault
  pub line_is : line ≡ line_of source (place_of fault)

-- a token that the accepted C leaves out, the first
pub record IsLeftOut (source word : List ℕ) (line : ℕ) : Type 0 where
  pub tokens : List Token
  pub at : ℕ
  pub has : HasTokens source tokens
  pub first : left_out tokens ≡ Some at
  pub word_is : word ≡ word_at tokens at
  pub line_is : line ≡ line_at tokens at

-- the first token after which the text is nested too deep
pub record IsTooDeep (source : List ℕ) (line : ℕ) : Type 0 where
  pub tokens : List Token
  pub at : ℕ
  pub has : HasTokens source tokens
  pub none_left_out : left_out tokens ≡ None
  pub first : IsFirstTooDeep tokens (Some at)
  pub line_is : line ≡ line_at tokens at

-- the tokens spell no tree; the line is that of one of them
pub record IsNoSyntax (source : List ℕ) (line : ℕ) : Type 0 where
  pub tokens : List Token
  pub at : ℕ
  pub has : HasTokens source tokens
  pub within : IsWithin tokens
  pub no_tree : SpellsNone tokens
  pub line_is : line ≡ line_at tokens at

-- the tree is that of no straight program
pub record IsNotYet (source : List ℕ) : Type 0 where
  pub tokens : List Token
  pub tree : Tree
  pub has : HasTree source tokens tree
  pub not_straight : (program : Program) → IsStraight tree program → ⊥

-- the bytes are refused for this
abbrev pub Refuses : List ℕ → Refusal → Type 0
Refuses source TooLong = MAX_BYTES < length source
Refuses source (NoToken line) = (at : ℕ) × IsUnread source (lexing.NoToken at) line
Refuses source (Directive line) = (at : ℕ) × IsUnread source (lexing.Directive at) line
Refuses source (LongConstant line) = (at : ℕ) × IsUnread source (lexing.LongConstant at) line
Refuses source (TooManyTokens line) = (at : ℕ) × IsUnread source (lexing.TooManyTokens at) line
Refuses source (LeftOut word line) = IsLeftOut source word.now line
Refuses source (TooDeep line) = IsTooDeep source line
Refuses source (Syntax line) = IsNoSyntax source line
Refuses source NotYet = IsNotYet source

-- no bytes spell a straight program and are refused
abbrev pub SpellsOrRefuses : Type 0
SpellsOrRefuses = (source : List ℕ) (program : Program) (refusal : Refusal) → SpellsStraight source program → Refuses source refusal → ⊥

-- no bytes spell two straight programs
abbrev pub OneProgram : Type 0
OneProgram = (source : List ℕ) (one other : Program) → SpellsStraight source one → SpellsStraight source other → one ≡ other
