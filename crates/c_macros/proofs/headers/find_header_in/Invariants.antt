use Rattle.std.proofs.Common.{◌≡◌, drop}
use Rattle.c_tokens.specs.Words.{lookup}
use Rattle.c_macros.specs.HeaderRows.{header_rows}
use Rattle.c_macros.proofs.headers.find_header_in.Given as goal

-- no row so far has the text
abbrev pub invariant-loop-row : goal.invariant-loop-row
invariant-loop-row l = lookup (header_rows (drop l.row-index l.table)) l.text ≡ lookup (header_rows l.table) l.text
