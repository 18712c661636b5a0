use Rattle.std.proofs.Common.{◌≡◌, drop}
use Rattle.c_tokens.specs.Words.{lookup}
use Rattle.c_scan.specs.Rows.{rows}
use Rattle.c_scan.proofs.words.find.Given as goal

-- no row so far has the text
abbrev pub invariant-loop-row : goal.invariant-loop-row
invariant-loop-row l = lookup (rows (drop l.row-index l.table)) l.text ≡ lookup (rows l.table) l.text
