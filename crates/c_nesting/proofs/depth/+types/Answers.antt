use Rattle.std.proofs.Common.{sym, ◌∙◌, arith}
use Rattle.c_nesting.proofs.Steps.{expression_none, expression_down, specifier_none, specifier_down, declarator_none, declarator_down}
use Rattle.c_nesting.proofs.depth.+types.Goals as goal

pub expression-returns-then-limit-eq0 : goal.expression-returns-then-limit-eq0
expression-returns-then-limit-eq0 t c = sym (expression_none c.args.x.now c.args.limit c.if-limit-eq0.true)

pub expression-returns : goal.expression-returns
expression-returns t c = c.expression_parts.ensures ∙ sym (expression_down c.args.x.now c.args.limit (omega arith))

pub specifier-returns-then-limit-eq0 : goal.specifier-returns-then-limit-eq0
specifier-returns-then-limit-eq0 t c = sym (specifier_none c.args.x.now c.args.limit c.if-limit-eq0.true)

pub specifier-returns : goal.specifier-returns
specifier-returns t c = c.specifier_parts.ensures ∙ sym (specifier_down c.args.x.now c.args.limit (omega arith))

pub declarator-returns-then-limit-eq0 : goal.declarator-returns-then-limit-eq0
declarator-returns-then-limit-eq0 t c = sym (declarator_none c.args.x.now c.args.limit c.if-limit-eq0.true)

pub declarator-returns : goal.declarator-returns
declarator-returns t c = c.declarator_parts.ensures ∙ sym (declarator_down c.args.x.now c.args.limit (omega arith))
