use Rattle.std.proofs.Common.{◌+◌, ◌*◌}
use Rattle.c_declarators.proofs.type_names.TypeNames.+unnamed.Given as goal

abbrev pub decreases-unnamed : goal.decreases-unnamed
decreases-unnamed g l = 2 * l.limit

abbrev pub decreases-pointed : goal.decreases-pointed
decreases-pointed g l = 2 * l.limit + 1
