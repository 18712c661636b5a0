-- What a text is by itself: white space, a comment, a name, a number, a character constant, a string or a
-- punctuator; and the piece at the front of a text. Sections are those of ISO/IEC 9899:2011.
use Rattle.std.specs.Prelude.{ℕ, suc, zero, ◌+◌, ◌-◌, ◌*◌, Bool, true, false, not, ◌&&◌, ◌||◌, ◌==◌, nat_le, nat_lt, List, [], ◌∷◌, length, take, drop, Option, Some, None, if◌then◌else◌, codes, fold}
use Rattle.std.specs.List.{starts_with, list_all}
use Rattle.std.specs.Prelude.{nat_eq}
use Rattle.std.specs.Option.{option_map}
use Rattle.c_tokens.specs.declared.token.TokenKind.{TokenKind}
use Rattle.c_tokens.specs.Words.{lookup, punctuators}

-- ---- bytes

abbrev pub is_within : ℕ → ℕ → ℕ → Bool
is_within low high c = nat_le low c && nat_le c high

-- space, tab, newline, vertical tab, form feed, carriage return (6.4p3)
abbrev pub is_space : ℕ → Bool
is_space c = c == 32 || is_within 9 13 c

abbrev pub is_digit : ℕ → Bool
is_digit c = is_within 48 57 c

-- a letter or an underscore (6.4.2.1)
abbrev pub is_nondigit : ℕ → Bool
is_nondigit c = is_within 65 90 c || is_within 97 122 c || c == 95

abbrev pub is_word_byte : ℕ → Bool
is_word_byte c = is_nondigit c || is_digit c

-- the value of a digit of any base up to 16; 16 where it is none (6.4.4.1)
abbrev pub digit_value : ℕ → ℕ
digit_value c = if is_digit c then c - 48 else if is_within 97 102 c then c - 87 else if is_within 65 70 c then c - 55 else 16

-- digits of this base, and the number that they write
abbrev pub are_digits : ℕ → List ℕ → Bool
are_digits base text = list_all (λ c. nat_lt (digit_value c) base) text

abbrev pub written : ℕ → List ℕ → ℕ
written base text = fold (λ value c. value * base + digit_value c) 0 text

abbrev pub begins_with : List ℕ → List ℕ → Bool
begins_with front text = starts_with nat_eq text front

-- ---- runs: texts that each next byte prolongs, by the byte before it

abbrev pub is_run : (ℕ → ℕ → Bool) → ℕ → List ℕ → Bool
is_run goes_on before [] = true
is_run goes_on before (c ∷ cs) = goes_on before c && is_run goes_on c cs

-- how far a run goes
abbrev pub run_size : (ℕ → ℕ → Bool) → ℕ → List ℕ → ℕ
run_size goes_on before [] = 0
run_size goes_on before (c ∷ cs) = if goes_on before c then run_size goes_on c cs + 1 else 0

-- letters, digits and underscores (6.4.2.1)
abbrev pub in_word : ℕ → ℕ → Bool
in_word before c = is_word_byte c

-- the same, dots, and a sign after an exponent's letter (6.4.8)
abbrev pub in_number : ℕ → ℕ → Bool
in_number before c = is_word_byte c || c == 46 || ((c == 43 || c == 45) && (before == 69 || before == 101 || before == 80 || before == 112))

abbrev pub in_line : ℕ → ℕ → Bool
in_line before c = not (c == 10)

abbrev pub begins_name : List ℕ → Bool
begins_name [] = false
begins_name (c ∷ cs) = is_nondigit c

-- a digit, or a dot and a digit (6.4.8)
abbrev pub begins_digit : List ℕ → Bool
begins_digit [] = false
begins_digit (c ∷ cs) = is_digit c

abbrev pub begins_number : List ℕ → Bool
begins_number [] = false
begins_number (c ∷ cs) = is_digit c || (c == 46 && begins_digit cs)

-- white space other than a newline, or a byte 0, which a C compiler may pass over
abbrev pub in_blanks : ℕ → ℕ → Bool
in_blanks before c = (is_space c || c == 0) && not (c == 10)

-- ---- what ends a text

abbrev pub is_empty : List ℕ → Bool
is_empty [] = true
is_empty (c ∷ cs) = false

-- what follows an opening quote: the quote ends it, unless a backslash takes it; it has no newline (6.4.4.4, 6.4.5)
abbrev pub is_quoted : ℕ → Bool → List ℕ → Bool
is_quoted quote taken [] = false
is_quoted quote taken (c ∷ cs) =
    if c == 10 then false
    else if taken then is_quoted quote false cs
    else if c == quote then is_empty cs
    else is_quoted quote (c == 92) cs

-- a quote stands directly after two backslashes
abbrev pub has_doubtful_quote : List ℕ → Bool
has_doubtful_quote [] = false
has_doubtful_quote (c ∷ cs) = starts_with nat_eq (c ∷ cs) (codes "\\\\\"") || has_doubtful_quote cs

-- what follows `/*`: the first `*/` ends it (6.4.9p1)
abbrev pub is_block : List ℕ → Bool
is_block [] = false
is_block (c ∷ cs) = if starts_with nat_eq (c ∷ cs) (codes "*/") then length cs == 1 else is_block cs

-- ---- character constants (6.4.4.4)

-- what stands for what after a backslash
abbrev pub simple_escapes : List (List ℕ × ℕ)
simple_escapes = (codes "n", 10) ∷ (codes "t", 9) ∷ (codes "r", 13) ∷ (codes "a", 7) ∷ (codes "b", 8) ∷ (codes "f", 12) ∷ (codes "v", 11)
    ∷ (codes "\\", 92) ∷ (codes "'", 39) ∷ (codes "\"", 34) ∷ (codes "?", 63) ∷ []

abbrev pub below_256 : Bool → ℕ → Option ℕ
below_256 is_form value = if is_form && nat_lt value 256 then Some value else None

-- one to three octal digits, or `x` and hexadecimal digits
abbrev pub numeric_escape : List ℕ → Option ℕ
numeric_escape [] = None
numeric_escape (c ∷ cs) =
    if c == 120 then below_256 (not (is_empty cs) && are_digits 16 cs) (written 16 cs)
    else below_256 (nat_le (length cs) 2 && are_digits 8 (c ∷ cs)) (written 8 (c ∷ cs))

abbrev pub escape_value : List ℕ → Option ℕ
escape_value text = elim (lookup simple_escapes text) as (λ _. Option ℕ) [ Some value ↦ Some value | None ↦ numeric_escape text ]

-- the byte that stands between the quotes
abbrev pub character_value : List ℕ → Option ℕ
character_value [] = None
character_value (c ∷ cs) =
    if c == 92 then escape_value cs
    else if is_empty cs && is_within 32 126 c && not (c == 39) then Some c
    else None

-- ---- pieces

-- what a text may be
pub data Shape : Type 0 where
  Space : Shape
  Word : Shape
  Number : Shape
  Character : (value : ℕ) → Shape
  Quoted : Shape
  Mark : (kind : TokenKind) → Shape

abbrev pub only_where : Bool → Shape → Option Shape
only_where is_form shape = if is_form then Some shape else None

abbrev pub without_last : List ℕ → List ℕ
without_last text = take (length text - 1) text

-- what follows an opening `'`
abbrev pub character_shape : List ℕ → Option Shape
character_shape rest = if is_quoted 39 false rest then option_map Character (character_value (without_last rest)) else None

-- what a whole text is
unfoldable pub shape_of : List ℕ → Option Shape
shape_of [] = None
shape_of (c ∷ cs) =
    if is_space c then only_where (is_empty cs) Space
    else if is_nondigit c then only_where (is_run in_word c cs) Word
    else if begins_number (c ∷ cs) then only_where (is_run in_number c cs) Number
    else if c == 39 then character_shape cs
    else if c == 34 then only_where (is_quoted 34 false cs && not (has_doubtful_quote cs)) Quoted
    else if begins_with (codes "/*") (c ∷ cs) then only_where (is_block (drop 1 cs)) Space
    else if begins_with (codes "//") (c ∷ cs) then only_where (is_run in_line 47 (drop 1 cs)) Space
    else option_map Mark (lookup punctuators (c ∷ cs))

-- a front of a text, and what it is
pub record Piece : Type 0 where
  pub size : ℕ
  pub shape : Shape

-- the longest front of more than low and at most n bytes that is something (6.4p4)
unfoldable pub longest : ℕ → ℕ → List ℕ → Option Piece
longest low zero text = None
longest low (suc n) text =
    if nat_lt low (suc n)
    then elim (shape_of (take (suc n) text)) as (λ _. Option Piece) [ Some shape ↦ Some (record { size = suc n; shape = shape }) | None ↦ longest low n text ]
    else None

-- the longest piece at the front of a text; `/*` opens a comment and is no `/` (6.4.9p1)
unfoldable pub longest_piece : List ℕ → Option Piece
longest_piece text = longest (if begins_with (codes "/*") text then 1 else 0) (length text) text

-- an encoding prefix directly before a quote
abbrev pub begins_quote : List ℕ → Bool
begins_quote [] = false
begins_quote (c ∷ cs) = c == 39 || c == 34

abbrev pub is_prefixed : List ℕ → List ℕ → Bool
is_prefixed prefix text = begins_with prefix text && begins_quote (drop (length prefix) text)

-- a character constant or string with an encoding prefix (6.4.4.4, 6.4.5), which the accepted C leaves out
abbrev pub begins_prefixed : List ℕ → Bool
begins_prefixed text = is_prefixed (codes "L") text || is_prefixed (codes "u") text || is_prefixed (codes "U") text || is_prefixed (codes "u8") text

-- the piece at the front of a text
unfoldable pub first_piece : List ℕ → Option Piece
first_piece text = if begins_prefixed text then None else longest_piece text
