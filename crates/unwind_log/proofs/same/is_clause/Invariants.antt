use Rattle.std.proofs.Common.{◌≡◌, map, length, take}
use Rattle.kv_clause.specs.Blocks.{literal_in}
use Rattle.unwind_log.proofs.same.is_clause.Given as goal

abbrev pub invariant-loop-at : goal.invariant-loop-at
invariant-loop-at l = (length l.clause ≡ length l.of) × (take l.at l.clause ≡ map (literal_in l.t l.i) (take l.at l.of))
