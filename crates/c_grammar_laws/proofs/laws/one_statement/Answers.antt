use Rattle.c_grammar_laws.proofs.OneTree.{one_statement, one_external}
use Rattle.c_grammar_laws.proofs.laws.one_statement.Goals as goal

pub returns-clause-statement : goal.returns-clause-statement
returns-clause-statement c = one_statement

pub returns-clause-external : goal.returns-clause-external
returns-clause-external c = one_external
