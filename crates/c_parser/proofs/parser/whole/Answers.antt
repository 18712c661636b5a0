use Rattle.std.proofs.Common.{rules}
use Rattle.c_parser.proofs.WholeTexts.{spelled, unspelled}
use Rattle.c_parser.proofs.parser.whole.Goals as goal

pub returns-in_ok-lines_of-in-Ok : goal.returns-in_ok-lines_of-in-Ok
returns-in_ok-lines_of-in-Ok c = spelled c.one_tree.ensures.read c.args.tokens.now _ _ c.in-Ok.ensures (search rules)

pub returns-in-Err-Syntax : goal.returns-in-Err-Syntax
returns-in-Err-Syntax c = unspelled c.one_tree.ensures.refused c.args.tokens.now (rw c.in-Err-Syntax.field-0-is at c.in-Err-Syntax.ensures)
