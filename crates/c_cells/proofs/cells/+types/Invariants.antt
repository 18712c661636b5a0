use Rattle.std.proofs.Common.{◌≡◌, ◌+◌, ◌*◌, ◌++◌, drop}
use Rattle.c_kinds.specs.Layouts.{struct_cell_types, members_cells}
use Rattle.c_cells.proofs.cells.+types.Given as goal

abbrev pub decreases-types_by : goal.decreases-types_by
decreases-types_by l = 8 * l.depth + 3

abbrev pub decreases-one_element : goal.decreases-one_element
decreases-one_element l = 8 * l.depth + 2

abbrev pub decreases-base_types : goal.decreases-base_types
decreases-base_types l = 8 * l.depth + 1

abbrev pub decreases-struct_types : goal.decreases-struct_types
decreases-struct_types l = 8 * l.depth

abbrev pub decreases-all_members : goal.decreases-all_members
decreases-all_members l = 8 * l.depth + 5

abbrev pub decreases-member_types : goal.decreases-member_types
decreases-member_types l = 8 * l.depth + 4

abbrev pub invariant-all_members-loop-member : goal.invariant-all_members-loop-member
invariant-all_members-loop-member l = l.made ++ members_cells (struct_cell_types l.structs l.depth) (drop l.member-index l.members) ≡ members_cells (struct_cell_types l.structs l.depth) l.members
