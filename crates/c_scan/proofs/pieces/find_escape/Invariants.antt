use Rattle.std.proofs.Common.{◌≡◌, drop}
use Rattle.c_tokens.specs.Words.{lookup}
use Rattle.c_scan.specs.Escapes.{escapes}
use Rattle.c_scan.proofs.pieces.find_escape.Given as goal

-- no row so far has the text
abbrev pub invariant-loop-row : goal.invariant-loop-row
invariant-loop-row l = lookup (escapes (drop l.row-index l.table)) l.text ≡ lookup (escapes l.table) l.text
