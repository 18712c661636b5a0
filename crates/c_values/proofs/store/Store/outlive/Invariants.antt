use Rattle.std.proofs.Common.{◌≡◌, length, take}
use Rattle.c_values.proofs.store.Store.outlive.Given as goal

abbrev pub invariant-loop-self : goal.invariant-loop-self
invariant-loop-self l = take l.living l.self ≡ take l.living l.initial.self

abbrev pub decreases-loop-self : goal.decreases-loop-self
decreases-loop-self l = length l.self
