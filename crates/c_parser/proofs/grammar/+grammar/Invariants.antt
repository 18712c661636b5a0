use Rattle.std.proofs.Common.{◌+◌, ◌*◌}
use Rattle.c_parser.proofs.grammar.+grammar.Given as goal

abbrev pub decreases-read : goal.decreases-read
decreases-read l = 4 * l.depth + 1

abbrev pub decreases-expression : goal.decreases-expression
decreases-expression l = 4 * l.depth

abbrev pub decreases-types : goal.decreases-types
decreases-types l = 4 * l.depth + 2

abbrev pub decreases-specifiers : goal.decreases-specifiers
decreases-specifiers l = 4 * l.depth + 1

abbrev pub decreases-all_specifiers : goal.decreases-all_specifiers
decreases-all_specifiers l = 4 * l.depth

abbrev pub decreases-lines : goal.decreases-lines
decreases-lines l = 4 * l.depth + 3

abbrev pub decreases-constants : goal.decreases-constants
decreases-constants l = 4 * l.depth + 2

abbrev pub decreases-declarator : goal.decreases-declarator
decreases-declarator l = 4 * l.depth + 2

abbrev pub decreases-perhaps : goal.decreases-perhaps
decreases-perhaps l = 4 * l.depth + 1

abbrev pub decreases-any_declarator : goal.decreases-any_declarator
decreases-any_declarator l = 4 * l.depth
