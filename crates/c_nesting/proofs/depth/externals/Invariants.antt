use Rattle.std.proofs.Common.{◌≡◌, true, take}
use Rattle.std.specs.List.{list_all}
use Rattle.c_nesting.specs.Depth.{external_fits}
use Rattle.c_nesting.proofs.depth.externals.Given as goal

abbrev pub invariant-loop-x : goal.invariant-loop-x
invariant-loop-x l = list_all (λ y. external_fits y l.limit) (take l.x-index l.list) ≡ true
