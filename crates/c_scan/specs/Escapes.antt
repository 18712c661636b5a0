-- The table of simple escapes as one of texts.
use Rattle.std.specs.Prelude.{ℕ, List, map}
use Rattle.c_scan.specs.declared.pieces.Escape.{Escape}

abbrev pub escapes : List Escape → List (List ℕ × ℕ)
escapes table = map (λ row. (row.text.now, row.value)) table
