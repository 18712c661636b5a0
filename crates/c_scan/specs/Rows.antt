-- The tables of the code as tables of texts.
use Rattle.std.specs.Prelude.{ℕ, List, ◌++◌, map}
use Rattle.c_tokens.specs.declared.token.TokenKind.{TokenKind}
use Rattle.c_scan.specs.declared.words.Row.{Row}
use Rattle.c_scan.specs.declared.words.Words.{Words}

abbrev pub row_view : Row → List ℕ × TokenKind
row_view row = (row.text.now, row.kind)

abbrev pub rows : List Row → List (List ℕ × TokenKind)
rows table = map row_view table

abbrev pub words_of : Words → List (List ℕ × TokenKind)
words_of words = rows words.keywords ++ rows words.left_out
