use Rattle.std.proofs.Common.{◌≡◌, take}
use Rattle.sat_clause.specs.Literals.{units}
use Rattle.kv_clause.proofs.fixed.units_of.Given as goal

abbrev pub invariant-loop-lit : goal.invariant-loop-lit
invariant-loop-lit l = l.made ≡ units (take l.lit-index l.lit-items)
