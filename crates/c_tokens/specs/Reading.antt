-- Reading: the tokens of a text under its directives and replacements, or its first fault (5.1.1.2, 6.4p4, 6.10).
use Rattle.std.specs.Prelude.{ℕ, suc, zero, ◌+◌, Bool, true, false, not, ◌&&◌, ◌||◌, ◌==◌, nat_le, nat_lt, List, [], ◌∷◌, ◌++◌, length, take, drop, count_by, Option, Some, None, if◌then◌else◌, codes, pos}
use Rattle.std.specs.List.{list_any}
use Rattle.std.specs.Option.{is_some}
use Rattle.std.specs.Str.{bytes_eq}
use Rattle.kv_num.specs.declared.types.IntType.TheVariants.{Int}
use Rattle.c_tokens.specs.declared.token.Token.{Token}
use Rattle.c_tokens.specs.declared.token.TokenKind.{TokenKind}
use Rattle.c_tokens.specs.declared.token.TokenKind.TheVariants.{Name, Constant, FloatingConstant, Text}
use Rattle.c_tokens.specs.declared.data_model.DataModel.{DataModel}
use Rattle.c_tokens.specs.declared.limits.TheConstants.{MAX_TOKENS}
use Rattle.c_tokens.specs.Words.{lookup, words}
use Rattle.c_tokens.specs.Pieces.{Shape, Space, Word, Number, Character, Quoted, Mark, first_piece, begins_digit, begins_with, in_blanks, run_size}
use Rattle.c_tokens.specs.Constants.{Number as NumberMeaning, Whole, TooLarge, Floating, NoConstant, number_of, char_value}
use Rattle.c_tokens.specs.Headers.{Header, AssertHeader, LimitsHeader, StdboolHeader, StddefHeader, StdintHeader, names_of, limits_names, stdbool_names, stddef_names, stdint_names}
use Rattle.c_tokens.specs.Directives.{Outside, Form, Nothing, Includes, Defines, Wrong, line_from, open_comment, form_of}

-- ---- faults

pub data Fault : Type 0 where
  -- no token begins here
  NoToken : (at : ℕ) → Fault
  -- a directive that the accepted C leaves out
  Directive : (at : ℕ) → Fault
  -- an integer constant that no type represents
  LongConstant : (at : ℕ) → Fault
  -- one token too many
  TooManyTokens : (at : ℕ) → Fault

-- ---- macros

-- the macros that the directives so far define, each with the text that replaces it, and which headers are included
pub record Macros : Type 0 where
  pub defined : List (List ℕ × List ℕ)
  pub limits : Bool
  pub stdbool : Bool
  pub stddef : Bool
  pub stdint : Bool

abbrev pub no_macros : Macros
no_macros = record { defined = []; limits = false; stdbool = false; stddef = false; stdint = false }

abbrev pub if_included : Bool → List (List ℕ × TokenKind) → List (List ℕ × TokenKind)
if_included included rows = if included then rows else []

-- what the included headers give
abbrev pub given : DataModel → Macros → List (List ℕ × TokenKind)
given model macros =
    if_included macros.limits (limits_names model) ++ (if_included macros.stdbool stdbool_names
    ++ (if_included macros.stddef (stddef_names model) ++ if_included macros.stdint (stdint_names model)))

-- what stands for a number that replaces a name
abbrev pub number_kind : NumberMeaning → TokenKind
number_kind (Whole kind value) = Constant kind (pos value)
number_kind TooLarge = FloatingConstant
number_kind Floating = FloatingConstant
number_kind NoConstant = FloatingConstant

-- what a name that no `#define` replaces is
abbrev pub given_or_name : DataModel → Macros → List ℕ → TokenKind
given_or_name model macros name = elim (lookup (given model macros) name) as (λ _. TokenKind) [ Some kind ↦ kind | None ↦ Name name ]

-- What a name is, in at most n replacements: it is replaced again and again, and stays where it was met before
-- (6.10.3.4p2). Keywords and left-out words aren't replaced.
unfoldable pub replaced : ℕ → DataModel → Macros → List (List ℕ) → List ℕ → TokenKind
replaced zero model macros met name = Name name
replaced (suc n) model macros met name =
    elim (lookup words name) as (λ _. TokenKind) [
      | Some kind ↦ kind
      | None ↦ if list_any (bytes_eq name) met then Name name
          else elim (lookup macros.defined name) as (λ _. TokenKind) [
            | Some text ↦ if begins_digit text then number_kind (number_of model text) else replaced n model macros (met ++ name ∷ []) text
            | None ↦ given_or_name model macros name
          ]
    ]

-- each name is replaced at most once in a row, so there are no more replacements than defined names
unfoldable pub kind_of_name : DataModel → Macros → List ℕ → TokenKind
kind_of_name model macros name = replaced (length macros.defined + 1) model macros [] name

-- ---- states

-- what was read so far: the offset, the line, whether only white space stands before on this line, macros, tokens
pub record State : Type 0 where
  pub at : ℕ
  pub line : ℕ
  pub fresh : Bool
  pub macros : Macros
  pub tokens : List Token

-- how reading goes on: after some bytes, or it stops
pub data Advance : Type 0 where
  Goes : (size : ℕ) → (state : State) → Advance
  Stops : (fault : Fault) → Advance

abbrev pub newlines : List ℕ → ℕ
newlines text = count_by (λ c. c == 10) text

-- after white space, comments or a directive
abbrev pub moved : State → List ℕ → Macros → State
moved state text macros = record {
  at = state.at + length text;
  line = state.line + newlines text;
  fresh = state.fresh || list_any (λ c. c == 10) text;
  macros = macros;
  tokens = state.tokens;
}

-- after a token
abbrev pub with_token : State → List ℕ → TokenKind → Advance
with_token state text kind =
    if length state.tokens == MAX_TOKENS then Stops (TooManyTokens state.at)
    else Goes (length text) (record {
      at = state.at + length text;
      line = state.line + newlines text;
      fresh = false;
      macros = state.macros;
      tokens = state.tokens ++ record { kind = kind; at = state.at; line = state.line } ∷ [];
    })

-- ---- pieces

abbrev pub number_step : State → List ℕ → NumberMeaning → Advance
number_step state text (Whole kind value) = with_token state text (Constant kind (pos value))
number_step state text TooLarge = Stops (LongConstant state.at)
number_step state text Floating = with_token state text FloatingConstant
number_step state text NoConstant = Stops (NoToken state.at)

unfoldable pub shape_step : DataModel → State → List ℕ → Shape → Advance
shape_step model state text Space = Goes (length text) (moved state text state.macros)
shape_step model state text Word = with_token state text (kind_of_name model state.macros text)
shape_step model state text Number = number_step state text (number_of model text)
shape_step model state text (Character value) = with_token state text (Constant Int (char_value value))
shape_step model state text Quoted = with_token state text Text
shape_step model state text (Mark kind) = with_token state text kind

unfoldable pub piece_step : DataModel → State → List ℕ → Advance
piece_step model state rest =
    elim (first_piece rest) as (λ _. Advance) [
      | Some piece ↦ shape_step model state (take piece.size rest) piece.shape
      | None ↦ Stops (NoToken state.at)
    ]

-- ---- directives

abbrev pub is_defined : Macros → List ℕ → Bool
is_defined macros name = is_some (lookup macros.defined name)

abbrev pub include_header : Macros → Header → Macros
include_header macros AssertHeader = macros
include_header macros LimitsHeader = record macros { limits = true }
include_header macros StdboolHeader = record macros { stdbool = true }
include_header macros StddefHeader = record macros { stddef = true }
include_header macros StdintHeader = record macros { stdint = true }

-- an `#include` (6.10.2)
unfoldable pub included : DataModel → Macros → Header → Option Macros
included model macros header =
    if list_any (λ row. is_defined macros row.0) (names_of model header) then None
    else Some (include_header macros header)

-- the name has this replacement, which is the only one that it may have (6.10.3p2)
abbrev pub again : Macros → List ℕ → List ℕ → Option Macros
again macros other text = if bytes_eq other text then Some macros else None

-- a `#define` of a name that no included header gives
unfoldable pub defined : DataModel → Macros → List ℕ → List ℕ → Option Macros
defined model macros name text =
    if is_some (lookup (given model macros) name) then None
    else elim (lookup macros.defined name) as (λ _. Option Macros) [
      | Some other ↦ again macros other text
      | None ↦ Some (record macros { defined = macros.defined ++ (name, text) ∷ [] })
    ]

abbrev pub is_too_large : NumberMeaning → Bool
is_too_large (Whole kind value) = false
is_too_large TooLarge = true
is_too_large Floating = false
is_too_large NoConstant = false

-- the macros after a directive of this form; none where it is a fault
unfoldable pub form_step : DataModel → Macros → Form → Option Macros
form_step model macros Nothing = Some macros
form_step model macros (Includes header) = included model macros header
form_step model macros (Defines name text place) = defined model macros name text
form_step model macros Wrong = None

-- the constant of a `#define` that no type represents, by its place
abbrev pub large_constant : DataModel → Form → Option ℕ
large_constant model Nothing = None
large_constant model (Includes header) = None
large_constant model (Defines name text place) = if begins_digit text && is_too_large (number_of model text) then Some place else None
large_constant model Wrong = None

-- a directive: its line, after the `#`, begins at rest
unfoldable pub directive_step : DataModel → State → List ℕ → Advance
directive_step model state rest =
    let line = line_from Outside rest in
    elim (form_step model state.macros (form_of line)) as (λ _. Advance) [
      | None ↦ Stops (Directive state.at)
      | Some macros ↦ elim (large_constant model (form_of line)) as (λ _. Advance) [
        | Some place ↦ Stops (LongConstant (state.at + 1 + place))
        | None ↦ elim (open_comment Outside 0 0 rest) as (λ _. Advance) [
          | Some place ↦ Stops (NoToken (state.at + 1 + place))
          | None ↦ Goes (length line + 1) (moved state (35 ∷ take (length line) rest) macros)
        ]
      ]
    ]

-- ---- texts

abbrev pub step : DataModel → State → ℕ → List ℕ → Advance
step model state c cs = if state.fresh && c == 35 then directive_step model state cs else piece_step model state (c ∷ cs)

-- the tokens of a whole text, or where it stops
pub data Reading : Type 0 where
  Read : (tokens : List Token) → Reading
  Fails : (fault : Fault) → Reading

-- the division of what is left into at most n pieces and directives
unfoldable pub divided : ℕ → DataModel → State → List ℕ → Reading
divided n model state [] = Read state.tokens
divided zero model state (c ∷ cs) = Fails (NoToken state.at)
divided (suc n) model state (c ∷ cs) =
    elim (step model state c cs) as (λ _. Reading) [ Goes size later ↦ divided n model later (drop size (c ∷ cs)) | Stops fault ↦ Fails fault ]

abbrev pub beginning : State
beginning = record { at = 0; line = 1; fresh = true; macros = no_macros; tokens = [] }

-- nothing but white space stands before the next newline
abbrev pub ends_blank : List ℕ → Bool
ends_blank text = begins_with (codes "\n") (drop (run_size in_blanks 0 text) text)

-- a line splice: a backslash or its trigraph, and nothing but white space before the next newline (5.1.1.2p1,
-- 5.2.1.1); a C compiler may delete it and read on, also where blanks or a carriage return stand between
abbrev pub is_splice : List ℕ → Bool
is_splice text = (begins_with (codes "\\") text && ends_blank (drop 1 text)) || (begins_with (codes "??/") text && ends_blank (drop 3 text))

-- a carriage return that no newline follows: a C compiler may end a line there
abbrev pub is_lone_return : List ℕ → Bool
is_lone_return text = begins_with (codes "\r") text && not (begins_with (codes "\n") (drop 1 text))

-- where a C compiler may divide the text into other lines
abbrev pub moves_lines : List ℕ → Bool
moves_lines text = is_splice text || is_lone_return text

-- how many bytes stand before the first such place; all where there is none
unfoldable pub splice_from : List ℕ → ℕ
splice_from [] = 0
splice_from (c ∷ cs) = if moves_lines (c ∷ cs) then 0 else splice_from cs + 1

abbrev pub place_of : Fault → ℕ
place_of (NoToken at) = at
place_of (Directive at) = at
place_of (LongConstant at) = at
place_of (TooManyTokens at) = at

-- a line splice is no token; a fault before it comes first
abbrev pub with_splice : ℕ → ℕ → Reading → Reading
with_splice size splice (Read tokens) = if nat_lt splice size then Fails (NoToken splice) else Read tokens
with_splice size splice (Fails fault) = if nat_le splice (place_of fault) && nat_lt splice size then Fails (NoToken splice) else Fails fault

-- what a text is under a data model: its tokens, or its first fault
unfoldable pub reading : DataModel → List ℕ → Reading
reading model bytes = with_splice (length bytes) (splice_from bytes) (divided (length bytes) model beginning bytes)
