use Rattle.std.proofs.Common.{◌≡◌, map, take}
use Rattle.sat_clause.specs.Literals.{complement_of}
use Rattle.proof_checker.proofs.checker.complements.Given as goal

abbrev pub invariant-loop-lit : goal.invariant-loop-lit
invariant-loop-lit l = l.made.items ≡ map complement_of (take l.lit-index l.lits)
