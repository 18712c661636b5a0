use Rattle.std.proofs.Common.{arith}
use Rattle.c_tree.specs.SpellsText.{kinds_of}
use Rattle.c_cursor.proofs.Faults.{refuses}
use Rattle.c_parser.proofs.Knots.{statement_none, statement_deeper}
use Rattle.c_parser.proofs.grammar.+statement.Goals as goal

pub any_statement-returns-then-depth-eq0 : goal.any_statement-returns-then-depth-eq0
any_statement-returns-then-depth-eq0 t c = refuses _ _ _ _ c.refuse.ensures (statement_none (kinds_of c.args.tokens.now) c.args.depth c.args.place.now (omega arith))

pub any_statement-returns : goal.any_statement-returns
any_statement-returns t c = rw (statement_deeper (kinds_of c.args.tokens.now) c.args.depth c.args.place.now (omega arith)) c.statement_over.ensures
