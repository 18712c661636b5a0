use Rattle.c_rules.proofs.Texts.{each_typed, table_typed}
use Rattle.c_rules.proofs.laws.expressions_have_types.Goals as goal

pub returns-clause-each : goal.returns-clause-each
returns-clause-each c = each_typed

pub returns-clause-in_table : goal.returns-clause-in_table
returns-clause-in_table c = table_typed
