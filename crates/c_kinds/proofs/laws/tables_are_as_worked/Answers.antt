use Rattle.c_kinds.proofs.Rows.{worked_conversions, worked_constants, worked_sizes, worked_types, worked_operators, worked_assignments, worked_addresses}
use Rattle.c_kinds.proofs.laws.tables_are_as_worked.Goals as goal

pub returns-clause-conversions : goal.returns-clause-conversions
returns-clause-conversions c = worked_conversions

pub returns-clause-constants : goal.returns-clause-constants
returns-clause-constants c = worked_constants

pub returns-clause-sizes : goal.returns-clause-sizes
returns-clause-sizes c = worked_sizes

pub returns-clause-types : goal.returns-clause-types
returns-clause-types c = worked_types

pub returns-clause-operators : goal.returns-clause-operators
returns-clause-operators c = worked_operators

pub returns-clause-assignments : goal.returns-clause-assignments
returns-clause-assignments c = worked_assignments

pub returns-clause-addresses : goal.returns-clause-addresses
returns-clause-addresses c = worked_addresses
