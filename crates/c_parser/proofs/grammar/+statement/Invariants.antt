use Rattle.std.proofs.Common.{◌+◌, ◌*◌}
use Rattle.c_parser.proofs.grammar.+statement.Given as goal

abbrev pub decreases-statement : goal.decreases-statement
decreases-statement l = 3 * l.depth + 1

abbrev pub decreases-controlled : goal.decreases-controlled
decreases-controlled l = 3 * l.depth + 2

abbrev pub decreases-any_statement : goal.decreases-any_statement
decreases-any_statement l = 3 * l.depth
