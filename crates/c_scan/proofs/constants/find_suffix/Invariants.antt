use Rattle.std.proofs.Common.{◌≡◌, drop}
use Rattle.c_tokens.specs.Words.{lookup}
use Rattle.c_scan.specs.Numbers.{suffix_rows}
use Rattle.c_scan.proofs.constants.find_suffix.Given as goal

-- no row so far has the text
abbrev pub invariant-loop-row : goal.invariant-loop-row
invariant-loop-row l = lookup (suffix_rows (drop l.row-index l.table)) l.text ≡ lookup (suffix_rows l.table) l.text
