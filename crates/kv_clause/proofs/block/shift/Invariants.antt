use Rattle.std.proofs.Common.{◌≡◌, map, take}
use Rattle.sat_clause.specs.Literals.{moved}
use Rattle.kv_clause.proofs.block.shift.Given as goal

abbrev pub invariant-loop-clause : goal.invariant-loop-clause
invariant-loop-clause l = l.clauses ≡ map (λ c. map (moved l.by) c) (take l.clause-index l.clause-items)
