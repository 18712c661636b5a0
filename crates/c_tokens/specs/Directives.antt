-- Directives: how far one goes, and what it says (6.10).
use Rattle.std.specs.Prelude.{ℕ, ◌+◌, ◌-◌, Bool, true, false, not, ◌&&◌, ◌||◌, ◌==◌, List, [], ◌∷◌, length, take, drop, Option, Some, None, if◌then◌else◌, codes}
use Rattle.std.specs.List.{list_all}
use Rattle.std.specs.Option.{is_some}
use Rattle.std.specs.Str.{bytes_eq}
use Rattle.c_tokens.specs.Words.{lookup}
use Rattle.c_tokens.specs.Pieces.{is_space, is_empty, run_size, in_word, in_number, begins_name, begins_digit, begins_number}
use Rattle.c_tokens.specs.Constants.{suffix_of}
use Rattle.c_tokens.specs.Headers.{Header, headers}

-- ---- the line of a directive

-- where a byte of the line stands: outside of the others, in a string or character constant, in a comment
-- to the end of the line, on the `*` that opens a comment, in such a comment
pub data Context : Type 0 where
  Outside : Context
  InQuotes : (quote : ℕ) → (taken : Bool) → Context
  InLine : Context
  AtOpening : Context
  InBlock : (starred : Bool) → Context

-- the byte opens a comment of this kind with the byte after it
abbrev pub opens_line : Context → ℕ → ℕ → Bool
opens_line Outside c next = c == 47 && next == 47
opens_line (InQuotes quote taken) c next = false
opens_line InLine c next = false
opens_line AtOpening c next = false
opens_line (InBlock starred) c next = false

abbrev pub opens_block : Context → ℕ → ℕ → Bool
opens_block Outside c next = c == 47 && next == 42
opens_block (InQuotes quote taken) c next = false
opens_block InLine c next = false
opens_block AtOpening c next = false
opens_block (InBlock starred) c next = false

abbrev pub is_commented : Context → Bool
is_commented Outside = false
is_commented (InQuotes quote taken) = false
is_commented InLine = true
is_commented AtOpening = true
is_commented (InBlock starred) = true

abbrev pub is_in_block : Context → Bool
is_in_block Outside = false
is_in_block (InQuotes quote taken) = false
is_in_block InLine = false
is_in_block AtOpening = true
is_in_block (InBlock starred) = true

-- where the next byte stands
abbrev pub after : Context → ℕ → ℕ → Context
after Outside c next =
    if opens_line Outside c next then InLine
    else if opens_block Outside c next then AtOpening
    else if c == 34 || c == 39 then InQuotes c false
    else Outside
after (InQuotes quote taken) c next =
    if taken then InQuotes quote false
    else if c == quote then Outside
    else InQuotes quote (c == 92)
after InLine c next = InLine
after AtOpening c next = InBlock false
after (InBlock starred) c next = if starred && c == 47 then Outside else InBlock (c == 42)

-- a newline outside of a block comment ends the line (5.1.1.2p1)
abbrev pub ends_line : Context → ℕ → Bool
ends_line context c = c == 10 && not (is_in_block context)

abbrev pub first_or_0 : List ℕ → ℕ
first_or_0 [] = 0
first_or_0 (c ∷ cs) = c

abbrev pub opens_comment : Context → ℕ → ℕ → Bool
opens_comment context c next = opens_line context c next || opens_block context c next

-- The line of a directive: read as pieces of white space, comments, quoted texts and other bytes, it goes up to the
-- first newline outside of a block comment, and each byte of a comment counts as a space (5.1.1.2p1).
unfoldable pub line_from : Context → List ℕ → List ℕ
line_from context [] = []
line_from context (c ∷ cs) =
    if ends_line context c then []
    else (if is_commented context || opens_comment context c (first_or_0 cs) then 32 else c) ∷ line_from (after context c (first_or_0 cs)) cs

-- Where the block comment begins that isn't closed, if the line of a directive, read as pieces of white space, comments,
-- quoted texts and other bytes, ends in one; the context's comment begins at began.
unfoldable pub open_comment : Context → ℕ → ℕ → List ℕ → Option ℕ
open_comment context began at [] = if is_in_block context then Some began else None
open_comment context began at (c ∷ cs) =
    if ends_line context c then None
    else open_comment (after context c (first_or_0 cs)) (if opens_block context c (first_or_0 cs) then at else began) (at + 1) cs

-- ---- what a directive says

pub data Form : Type 0 where
  -- nothing that changes what comes
  Nothing : Form
  Includes : (header : Header) → Form
  -- a name, the text that replaces it, and that text's place in the line
  Defines : (name : List ℕ) → (text : List ℕ) → (place : ℕ) → Form
  -- no directive of the accepted C
  Wrong : Form

abbrev pub in_space : ℕ → ℕ → Bool
in_space before c = is_space c

abbrev pub in_spelling : ℕ → ℕ → Bool
in_spelling before c = not (is_space c)

abbrev pub without_space : List ℕ → List ℕ
without_space text = drop (run_size in_space 0 text) text

abbrev pub is_blank : List ℕ → Bool
is_blank text = list_all is_space text

abbrev pub word_size : List ℕ → ℕ
word_size text = run_size in_word 0 text

-- the number at the front, if one is there, else nothing
abbrev pub number_size : List ℕ → ℕ
number_size text = if begins_digit text then run_size in_number 0 text else 0

-- `NAME T`, and then nothing
unfoldable pub replacement : ℕ → List ℕ → List ℕ → Form
replacement place name text =
    let size = if begins_name text then word_size text else number_size text in
    if not (size == 0) && is_blank (drop size text) && (begins_name text || is_some (suffix_of (take size text)))
    then Defines name (take size text) place else Wrong

-- what follows the word `define`, in a line of this length (6.10.3)
unfoldable pub define_form : ℕ → List ℕ → Form
define_form length_of_line rest =
    let text = without_space (drop (word_size rest) rest) in
    if begins_name rest then replacement (length_of_line - length text) (take (word_size rest) rest) text else Wrong

-- what follows the word `include` (6.10.2)
unfoldable pub include_form : List ℕ → Form
include_form rest =
    let size = run_size in_spelling 0 rest in
    elim (lookup headers (take size rest)) as (λ _. Form) [ Some header ↦ if is_blank (drop size rest) then Includes header else Wrong | None ↦ Wrong ]

-- what follows `#` on the line (6.10)
unfoldable pub form_of : List ℕ → Form
form_of line =
    let text = without_space line in
    let word = take (word_size text) text in
    let rest = without_space (drop (word_size text) text) in
    if is_empty text || begins_number text then Nothing
    else if bytes_eq word (codes "pragma") then Nothing
    else if bytes_eq word (codes "line") then (if begins_number rest then Nothing else Wrong)
    else if bytes_eq word (codes "include") then include_form rest
    else if bytes_eq word (codes "define") then define_form (length line) rest
    else Wrong
