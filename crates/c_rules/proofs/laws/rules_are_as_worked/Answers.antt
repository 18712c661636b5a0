use Rattle.c_rules.proofs.DeclarationRows.{worked_declarations}
use Rattle.c_rules.proofs.Rows.{worked_answers}
use Rattle.c_rules.proofs.NameRows.{worked_names}
use Rattle.c_rules.proofs.InitialiserRows.{worked_initialisers}
use Rattle.c_rules.proofs.StatementRows.{worked_statements}
use Rattle.c_rules.proofs.EffectRows.{worked_effects}
use Rattle.c_rules.proofs.laws.rules_are_as_worked.Goals as goal

pub returns-clause-answers : goal.returns-clause-answers
returns-clause-answers c = worked_answers

pub returns-clause-declarations : goal.returns-clause-declarations
returns-clause-declarations c = worked_declarations

pub returns-clause-names : goal.returns-clause-names
returns-clause-names c = worked_names

pub returns-clause-initialisers : goal.returns-clause-initialisers
returns-clause-initialisers c = worked_initialisers

pub returns-clause-statements : goal.returns-clause-statements
returns-clause-statements c = worked_statements

pub returns-clause-effects : goal.returns-clause-effects
returns-clause-effects c = worked_effects
