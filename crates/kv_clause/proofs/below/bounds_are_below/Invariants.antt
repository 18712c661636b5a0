use Rattle.std.proofs.Common.{◌<◌, take}
use Rattle.std.specs.List.{All}
use Rattle.sat_clause.specs.Literals.{variable_of}
use Rattle.kv_clause.proofs.below.bounds_are_below.Given as goal

abbrev pub invariant-loop-bound : goal.invariant-loop-bound
invariant-loop-bound l = All (λ b. variable_of b.lit < l.n) (take l.bound-index l.bound-items)
