use Rattle.std.proofs.Common.{◌≡◌, ◌++◌, map, take, drop}
use Rattle.c_model.specs.Store.{outlives}
use Rattle.c_values.proofs.store.outlive_all.Given as goal

abbrev pub invariant-loop-object : goal.invariant-loop-object
invariant-loop-object l = l.object-items ≡ map (outlives l.living) (take l.object-index l.initial.object-items) ++ drop l.object-index l.initial.object-items
