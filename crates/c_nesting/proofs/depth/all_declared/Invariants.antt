use Rattle.std.proofs.Common.{◌≡◌, true, take}
use Rattle.std.specs.List.{list_all}
use Rattle.c_nesting.specs.Depth.{declared_fits}
use Rattle.c_nesting.proofs.depth.all_declared.Given as goal

abbrev pub invariant-loop-x : goal.invariant-loop-x
invariant-loop-x l = list_all (λ y. declared_fits y l.limit) (take l.x-index l.list) ≡ true
