use Rattle.std.proofs.Common.{sym, ◌∙◌, arith}
use Rattle.c_nesting.proofs.Steps.{initialiser_none, initialiser_down}
use Rattle.c_nesting.proofs.depth.+initialisers.Goals as goal

pub initialiser-returns-then-limit-eq0 : goal.initialiser-returns-then-limit-eq0
initialiser-returns-then-limit-eq0 t c = sym (initialiser_none c.args.x.now c.args.limit c.if-limit-eq0.true)

pub initialiser-returns : goal.initialiser-returns
initialiser-returns t c = c.initialiser_parts.ensures ∙ sym (initialiser_down c.args.x.now c.args.limit (omega arith))
