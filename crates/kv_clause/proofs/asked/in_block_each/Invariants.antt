use Rattle.std.proofs.Common.{◌≡◌, map, take}
use Rattle.kv_clause.specs.Blocks.{literal_in}
use Rattle.kv_clause.proofs.asked.in_block_each.Given as goal

abbrev pub invariant-loop-lit : goal.invariant-loop-lit
invariant-loop-lit l = l.made ≡ map (literal_in l.t l.i) (take l.lit-index l.lit-items)
