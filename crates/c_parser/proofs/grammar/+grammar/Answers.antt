use Rattle.std.proofs.Common.{arith}
use Rattle.c_tree.specs.SpellsText.{kinds_of}
use Rattle.c_parser.proofs.Knots.{read_none, read_deeper, specifiers_none, specifiers_deeper, perhaps_none, perhaps_deeper}
use Rattle.c_parser.proofs.grammar.+grammar.Goals as goal

pub expression-returns-then-depth-eq0 : goal.expression-returns-then-depth-eq0
expression-returns-then-depth-eq0 t c = rw c.refuse.ensures (read_none _ _ _ _ c.if-depth-eq0.true)

pub expression-returns : goal.expression-returns
expression-returns t c = rw (read_deeper (kinds_of c.args.tokens.now) c.args.depth c.args.least c.args.place.now (omega arith)) c.operand.ensures

pub all_specifiers-returns-then-depth-eq0 : goal.all_specifiers-returns-then-depth-eq0
all_specifiers-returns-then-depth-eq0 t c = rw c.refuse.ensures (specifiers_none _ _ _ c.if-depth-eq0.true)

pub all_specifiers-returns : goal.all_specifiers-returns
all_specifiers-returns t c = rw (specifiers_deeper (kinds_of c.args.tokens.now) c.args.depth c.args.place.now (omega arith)) c.all_specifiers.ensures

pub any_declarator-returns-then-depth-eq0 : goal.any_declarator-returns-then-depth-eq0
any_declarator-returns-then-depth-eq0 t c = rw c.refuse.ensures (perhaps_none _ _ _ c.if-depth-eq0.true)

pub any_declarator-returns : goal.any_declarator-returns
any_declarator-returns t c = rw (perhaps_deeper (kinds_of c.args.tokens.now) c.args.depth c.args.place.now (omega arith)) c.declarator.ensures
