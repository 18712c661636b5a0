use Rattle.c_grammar_laws.proofs.OneTree.{one_tree, reads_what_is_spelled, refuses_the_rest}
use Rattle.c_grammar_laws.proofs.laws.one_tree.Goals as goal

pub returns-clause-one : goal.returns-clause-one
returns-clause-one c = one_tree

pub returns-clause-read : goal.returns-clause-read
returns-clause-read c = reads_what_is_spelled

pub returns-clause-refused : goal.returns-clause-refused
returns-clause-refused c = refuses_the_rest
