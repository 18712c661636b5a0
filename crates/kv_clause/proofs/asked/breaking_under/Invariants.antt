use Rattle.std.proofs.Common.{◌≡◌}
use Rattle.kv_clause.specs.Queries.{bounds_before}
use Rattle.kv_clause.proofs.asked.breaking_under.Given as goal

abbrev pub invariant-loop-i : goal.invariant-loop-i
invariant-loop-i l = l.made ≡ bounds_before l.t l.under l.i
