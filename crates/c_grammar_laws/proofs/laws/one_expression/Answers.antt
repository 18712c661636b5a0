use Rattle.c_grammar_laws.proofs.OneTree.{one_expression, one_type_name}
use Rattle.c_grammar_laws.proofs.laws.one_expression.Goals as goal

pub returns-clause-expression : goal.returns-clause-expression
returns-clause-expression c = one_expression

pub returns-clause-type_name : goal.returns-clause-type_name
returns-clause-type_name c = one_type_name
