use Rattle.std.proofs.Common.{◌≡◌, take}
use Rattle.kv_clause.specs.Queries.{lits_of}
use Rattle.kv_clause.proofs.asked.bound_literals.Given as goal

abbrev pub invariant-loop-candidate : goal.invariant-loop-candidate
invariant-loop-candidate l = l.made ≡ lits_of (take l.candidate-index l.candidate-items) l.set
