use Rattle.std.proofs.Common.{◌≡◌, take, false}
use Rattle.sat_clause.specs.Literals.{clause_holds, truths}
use Rattle.sat_clause.proofs.truth.holds.Given as goal

abbrev pub invariant-loop-lit : goal.invariant-loop-lit
invariant-loop-lit l = clause_holds (truths l.a) (take l.lit-index l.lit-items) ≡ false
