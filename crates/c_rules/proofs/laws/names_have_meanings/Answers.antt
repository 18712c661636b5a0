use Rattle.c_rules.proofs.Meanings.{names_have_meanings, calls_have_functions, casts_have_types, sizes_have_types}
use Rattle.c_rules.proofs.laws.names_have_meanings.Goals as goal

pub returns-clause-names : goal.returns-clause-names
returns-clause-names c = names_have_meanings

pub returns-clause-calls : goal.returns-clause-calls
returns-clause-calls c = calls_have_functions

pub returns-clause-casts : goal.returns-clause-casts
returns-clause-casts c = casts_have_types

pub returns-clause-sizes : goal.returns-clause-sizes
returns-clause-sizes c = sizes_have_types
