use Rattle.c_grammar_laws.proofs.OneTree.{one_list_of_specifiers, one_declarator, one_initialiser, one_declaration}
use Rattle.c_grammar_laws.proofs.laws.one_declaration.Goals as goal

pub returns-clause-declarator : goal.returns-clause-declarator
returns-clause-declarator c = one_declarator

pub returns-clause-declaration : goal.returns-clause-declaration
returns-clause-declaration c = one_declaration

pub returns-clause-specifiers : goal.returns-clause-specifiers
returns-clause-specifiers c = one_list_of_specifiers

pub returns-clause-initialiser : goal.returns-clause-initialiser
returns-clause-initialiser c = one_initialiser
