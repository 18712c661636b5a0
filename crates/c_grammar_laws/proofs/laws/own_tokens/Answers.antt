use Rattle.c_grammar_laws.proofs.OwnLaws.{expression_tokens_rise, declaration_tokens_rise, statement_tokens_rise, external_tokens_rise, own_tokens_rise}
use Rattle.c_grammar_laws.proofs.laws.own_tokens.Goals as goal

pub returns-clause-expression : goal.returns-clause-expression
returns-clause-expression c = expression_tokens_rise

pub returns-clause-declaration : goal.returns-clause-declaration
returns-clause-declaration c = declaration_tokens_rise

pub returns-clause-statement : goal.returns-clause-statement
returns-clause-statement c = statement_tokens_rise

pub returns-clause-external : goal.returns-clause-external
returns-clause-external c = external_tokens_rise

pub returns-clause-text : goal.returns-clause-text
returns-clause-text c = own_tokens_rise
