use Rattle.std.proofs.Common.{◌≡◌, ◌+◌, ◌*◌, true, take}
use Rattle.std.specs.List.{list_all}
use Rattle.c_nesting.specs.Depth.{branch_fits, item_fits}
use Rattle.c_nesting.proofs.depth.+statements.Given as goal

abbrev pub decreases-statement : goal.decreases-statement
decreases-statement l = 8 * l.limit

abbrev pub decreases-item : goal.decreases-item
decreases-item l = 8 * l.limit + 2

abbrev pub decreases-item_parts : goal.decreases-item_parts
decreases-item_parts l = 8 * l.limit + 1

abbrev pub decreases-items : goal.decreases-items
decreases-items l = 8 * l.limit + 3

abbrev pub decreases-branch : goal.decreases-branch
decreases-branch l = 8 * l.limit + 1

abbrev pub decreases-branches : goal.decreases-branches
decreases-branches l = 8 * l.limit + 2

abbrev pub decreases-statement_parts : goal.decreases-statement_parts
decreases-statement_parts l = 8 * l.limit + 4

abbrev pub invariant-items-loop-x : goal.invariant-items-loop-x
invariant-items-loop-x l = list_all (λ y. item_fits y l.limit) (take l.x-index l.list) ≡ true

abbrev pub invariant-branches-loop-x : goal.invariant-branches-loop-x
invariant-branches-loop-x l = list_all (λ y. branch_fits y l.limit) (take l.x-index l.list) ≡ true
