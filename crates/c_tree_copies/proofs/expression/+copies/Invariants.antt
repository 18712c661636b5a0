use Rattle.std.proofs.Common.{◌≡◌, take}
use Rattle.c_tree_copies.proofs.expression.+copies.Given as goal

abbrev pub invariant-copy_expressions-loop-item : goal.invariant-copy_expressions-loop-item
invariant-copy_expressions-loop-item l = l.made ≡ take l.item-index l.item-items

abbrev pub invariant-copy_specifiers-loop-item : goal.invariant-copy_specifiers-loop-item
invariant-copy_specifiers-loop-item l = l.made ≡ take l.item-index l.item-items

abbrev pub invariant-copy_member_lines-loop-item : goal.invariant-copy_member_lines-loop-item
invariant-copy_member_lines-loop-item l = l.made ≡ take l.item-index l.item-items

abbrev pub invariant-copy_members-loop-item : goal.invariant-copy_members-loop-item
invariant-copy_members-loop-item l = l.made ≡ take l.item-index l.item-items

abbrev pub invariant-copy_enum_constants-loop-item : goal.invariant-copy_enum_constants-loop-item
invariant-copy_enum_constants-loop-item l = l.made ≡ take l.item-index l.item-items

abbrev pub invariant-copy_parameters-loop-item : goal.invariant-copy_parameters-loop-item
invariant-copy_parameters-loop-item l = l.made ≡ take l.item-index l.item-items
