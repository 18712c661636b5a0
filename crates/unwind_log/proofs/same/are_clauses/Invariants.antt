use Rattle.std.proofs.Common.{◌≡◌, length, take}
use Rattle.kv_clause.specs.Blocks.{clauses_in}
use Rattle.unwind_log.proofs.same.are_clauses.Given as goal

abbrev pub invariant-loop-at : goal.invariant-loop-at
invariant-loop-at l = (length l.clauses ≡ length l.of) × (take l.at l.clauses ≡ clauses_in l.t l.i (take l.at l.of))
