-- The runs of the code as those of the definition.
use Rattle.std.specs.Prelude.{ℕ, Bool, ◌==◌, ◌||◌, nat_lt}
use Rattle.c_tokens.specs.Pieces.{in_word, in_number, in_line, in_blanks, digit_value}
use Rattle.c_tokens.specs.Directives.{in_space, in_spelling}
use Rattle.c_scan.specs.declared.bytes.Run.{Run}
use Rattle.c_scan.specs.declared.bytes.Run.TheVariants as runs

abbrev pub goes_on : Run → ℕ → ℕ → Bool
goes_on runs.Word = in_word
goes_on runs.Number = in_number
goes_on runs.Line = in_line
goes_on runs.Space = in_space
goes_on runs.Blanks = in_blanks
goes_on runs.Spelling = in_spelling
goes_on (runs.Digits base) = λ before c. nat_lt (digit_value c) base

abbrev pub is_sign : ℕ → Bool
is_sign c = c == 43 || c == 45

abbrev pub is_exponent : ℕ → Bool
is_exponent c = (c == 69 || c == 101) || c == 80 || c == 112
