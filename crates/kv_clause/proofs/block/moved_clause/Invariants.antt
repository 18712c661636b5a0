use Rattle.std.proofs.Common.{◌≡◌, map, take}
use Rattle.sat_clause.specs.Literals.{moved}
use Rattle.kv_clause.proofs.block.moved_clause.Given as goal

abbrev pub invariant-loop-lit : goal.invariant-loop-lit
invariant-loop-lit l = l.made ≡ map (moved l.by) (take l.lit-index l.lit-items)
