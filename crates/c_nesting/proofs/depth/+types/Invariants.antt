use Rattle.std.proofs.Common.{◌≡◌, ◌+◌, ◌*◌, true, take}
use Rattle.std.specs.List.{list_all}
use Rattle.c_nesting.specs.Depth.{constant_fits, expression_fits, line_fits, member_fits, parameter_fits, specifier_fits}
use Rattle.c_nesting.proofs.depth.+types.Given as goal

abbrev pub decreases-expression : goal.decreases-expression
decreases-expression l = 8 * l.limit

abbrev pub decreases-specifier : goal.decreases-specifier
decreases-specifier l = 8 * l.limit

abbrev pub decreases-declarator : goal.decreases-declarator
decreases-declarator l = 8 * l.limit

abbrev pub decreases-expressions : goal.decreases-expressions
decreases-expressions l = 8 * l.limit + 1

abbrev pub decreases-specifiers : goal.decreases-specifiers
decreases-specifiers l = 8 * l.limit + 1

abbrev pub decreases-constant : goal.decreases-constant
decreases-constant l = 8 * l.limit + 2

abbrev pub decreases-constant_parts : goal.decreases-constant_parts
decreases-constant_parts l = 8 * l.limit + 1

abbrev pub decreases-constants : goal.decreases-constants
decreases-constants l = 8 * l.limit + 3

abbrev pub decreases-parameter : goal.decreases-parameter
decreases-parameter l = 8 * l.limit + 2

abbrev pub decreases-parameters : goal.decreases-parameters
decreases-parameters l = 8 * l.limit + 3

abbrev pub decreases-type_name : goal.decreases-type_name
decreases-type_name l = 8 * l.limit + 2

abbrev pub decreases-member : goal.decreases-member
decreases-member l = 8 * l.limit + 2

abbrev pub decreases-member_parts : goal.decreases-member_parts
decreases-member_parts l = 8 * l.limit + 1

abbrev pub decreases-members : goal.decreases-members
decreases-members l = 8 * l.limit + 3

abbrev pub decreases-line : goal.decreases-line
decreases-line l = 8 * l.limit + 4

abbrev pub decreases-lines : goal.decreases-lines
decreases-lines l = 8 * l.limit + 5

abbrev pub decreases-expression_parts : goal.decreases-expression_parts
decreases-expression_parts l = 8 * l.limit + 6

abbrev pub decreases-specifier_parts : goal.decreases-specifier_parts
decreases-specifier_parts l = 8 * l.limit + 6

abbrev pub decreases-declarator_parts : goal.decreases-declarator_parts
decreases-declarator_parts l = 8 * l.limit + 6

abbrev pub invariant-expressions-loop-x : goal.invariant-expressions-loop-x
invariant-expressions-loop-x l = list_all (λ y. expression_fits y l.limit) (take l.x-index l.list) ≡ true

abbrev pub invariant-specifiers-loop-x : goal.invariant-specifiers-loop-x
invariant-specifiers-loop-x l = list_all (λ y. specifier_fits y l.limit) (take l.x-index l.list) ≡ true

abbrev pub invariant-lines-loop-x : goal.invariant-lines-loop-x
invariant-lines-loop-x l = list_all (λ y. line_fits y l.limit) (take l.x-index l.list) ≡ true

abbrev pub invariant-members-loop-x : goal.invariant-members-loop-x
invariant-members-loop-x l = list_all (λ y. member_fits y l.limit) (take l.x-index l.list) ≡ true

abbrev pub invariant-constants-loop-x : goal.invariant-constants-loop-x
invariant-constants-loop-x l = list_all (λ y. constant_fits y l.limit) (take l.x-index l.list) ≡ true

abbrev pub invariant-parameters-loop-x : goal.invariant-parameters-loop-x
invariant-parameters-loop-x l = list_all (λ y. parameter_fits y l.limit) (take l.x-index l.list) ≡ true
