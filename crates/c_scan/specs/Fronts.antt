-- How far quoted texts and comments go, and what piece stands at the front of a text.
use Rattle.std.specs.Prelude.{ℕ, ◌+◌, ◌-◌, Bool, false, not, ◌&&◌, ◌==◌, nat_eq, nat_le, List, [], ◌∷◌, length, take, Option, Some, None, if◌then◌else◌, codes}
use Rattle.std.specs.List.{starts_with}
use Rattle.std.specs.Option.{option_map}
use Rattle.c_tokens.specs.Words.{lookup, punctuators}
use Rattle.c_tokens.specs.Pieces.{Shape as SpecShape, Space, Word, Number, Character, Quoted, Mark, Piece as SpecPiece, character_value, has_doubtful_quote}
use Rattle.c_scan.specs.declared.pieces.Shape.{Shape}
use Rattle.c_scan.specs.declared.pieces.Shape.TheVariants as shapes
use Rattle.c_scan.specs.declared.pieces.Piece.{Piece}

abbrev pub shape_of : Shape → SpecShape
shape_of shapes.Space = Space
shape_of shapes.Word = Word
shape_of shapes.Number = Number
shape_of (shapes.Character value) = Character value
shape_of shapes.Quoted = Quoted
shape_of (shapes.Mark kind) = Mark kind

abbrev pub piece : ℕ → SpecShape → SpecPiece
piece size shape = record { size = size; shape = shape }

abbrev pub piece_of : Piece → SpecPiece
piece_of p = piece p.size (shape_of p.shape)

-- the place after the closing quote, where the text begins at a place
abbrev pub quoted_from : ℕ → ℕ → Bool → List ℕ → Option ℕ
quoted_from at quote taken [] = None
quoted_from at quote taken (c ∷ cs) =
    if c == 10 then None
    else if not taken && c == quote then Some (at + 1)
    else quoted_from (at + 1) quote (not taken && c == 92) cs

-- the place after the closing `*/`
abbrev pub block_from : ℕ → List ℕ → Option ℕ
block_from at [] = None
block_from at (c ∷ cs) = if starts_with nat_eq (c ∷ cs) (codes "*/") then Some (at + 2) else block_from (at + 1) cs

-- the character constant at the front, after its opening quote
abbrev pub character_front : List ℕ → Option SpecPiece
character_front rest =
    elim (quoted_from 0 39 false rest) as (λ _. Option SpecPiece) [
      | Some size ↦ option_map (λ value. piece (size + 1) (Character value)) (character_value (take (size - 1) rest))
      | None ↦ None
    ]

-- the string at the front, after its opening quote
abbrev pub string_front : List ℕ → Option SpecPiece
string_front rest =
    elim (quoted_from 0 34 false rest) as (λ _. Option SpecPiece) [
      | Some size ↦ if has_doubtful_quote (take size rest) then None else Some (piece (size + 1) Quoted)
      | None ↦ None
    ]

abbrev pub block_front : List ℕ → Option SpecPiece
block_front rest = option_map (λ size. piece (size + 2) Space) (block_from 0 rest)

-- the punctuator of this size at the front, or else what a shorter one is
abbrev pub mark_or : ℕ → Option SpecPiece → List ℕ → Option SpecPiece
mark_or size shorter text =
    if nat_le size (length text)
    then elim (lookup punctuators (take size text)) as (λ _. Option SpecPiece) [ Some kind ↦ Some (piece size (Mark kind)) | None ↦ shorter ]
    else shorter

abbrev pub mark_front : List ℕ → Option SpecPiece
mark_front text = mark_or 3 (mark_or 2 (mark_or 1 None text) text) text

-- the first of two pieces that is there
abbrev pub or_else : Option SpecPiece → Option SpecPiece → Option SpecPiece
or_else (Some p) other = Some p
or_else None other = other
