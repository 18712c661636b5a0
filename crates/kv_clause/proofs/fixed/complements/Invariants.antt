use Rattle.std.proofs.Common.{◌≡◌, map, take}
use Rattle.sat_clause.specs.Literals.{complement_of}
use Rattle.kv_clause.proofs.fixed.complements.Given as goal

abbrev pub invariant-loop-lit : goal.invariant-loop-lit
invariant-loop-lit l = l.made ≡ map complement_of (take l.lit-index l.lit-items)
