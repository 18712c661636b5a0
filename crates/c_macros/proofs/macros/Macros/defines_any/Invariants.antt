use Rattle.std.proofs.Common.{◌≡◌, drop}
use Rattle.std.specs.List.{list_any}
use Rattle.c_tokens.specs.Reading.{is_defined}
use Rattle.c_scan.specs.Rows.{rows}
use Rattle.c_macros.specs.Tables.{macros_view}
use Rattle.c_macros.proofs.macros.Macros.defines_any.Given as goal

-- none so far is defined
abbrev pub invariant-loop-row : goal.invariant-loop-row
invariant-loop-row l = list_any (λ row. is_defined (macros_view l.self) row.0) (rows (drop l.row-index l.table)) ≡ list_any (λ row. is_defined (macros_view l.self) row.0) (rows l.table)
