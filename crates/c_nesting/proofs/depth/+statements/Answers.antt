use Rattle.std.proofs.Common.{sym, ◌∙◌, arith}
use Rattle.c_nesting.proofs.Steps.{statement_none, statement_down}
use Rattle.c_nesting.proofs.depth.+statements.Goals as goal

pub statement-returns-then-limit-eq0 : goal.statement-returns-then-limit-eq0
statement-returns-then-limit-eq0 t c = sym (statement_none c.args.x.now c.args.limit c.if-limit-eq0.true)

pub statement-returns : goal.statement-returns
statement-returns t c = c.statement_parts.ensures ∙ sym (statement_down c.args.x.now c.args.limit (omega arith))
