use Rattle.std.proofs.Common.{◌≡◌, ◌+◌, ◌*◌, true, take}
use Rattle.std.specs.List.{list_all}
use Rattle.c_nesting.specs.Depth.{initialiser_fits}
use Rattle.c_nesting.proofs.depth.+initialisers.Given as goal

abbrev pub decreases-initialiser : goal.decreases-initialiser
decreases-initialiser l = 4 * l.limit

abbrev pub decreases-initialisers : goal.decreases-initialisers
decreases-initialisers l = 4 * l.limit + 1

abbrev pub decreases-initialiser_parts : goal.decreases-initialiser_parts
decreases-initialiser_parts l = 4 * l.limit + 2

abbrev pub invariant-initialisers-loop-x : goal.invariant-initialisers-loop-x
invariant-initialisers-loop-x l = list_all (λ y. initialiser_fits y l.limit) (take l.x-index l.list) ≡ true
