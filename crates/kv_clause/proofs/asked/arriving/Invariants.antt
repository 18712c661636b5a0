use Rattle.std.proofs.Common.{◌≡◌}
use Rattle.kv_clause.specs.Queries.{arrivals}
use Rattle.kv_clause.proofs.asked.arriving.Given as goal

abbrev pub invariant-loop-i : goal.invariant-loop-i
invariant-loop-i l = l.made ≡ arrivals l.t l.i
