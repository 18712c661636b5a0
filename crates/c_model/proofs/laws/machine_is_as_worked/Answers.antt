use Rattle.c_model.proofs.Rows.{worked_arithmetic, worked_shifts, worked_operands, worked_conversions, worked_pointers, worked_comparisons, worked_objects, worked_assertions}
use Rattle.c_model.proofs.laws.machine_is_as_worked.Goals as goal

pub returns-clause-arithmetic : goal.returns-clause-arithmetic
returns-clause-arithmetic c = worked_arithmetic

pub returns-clause-shifts : goal.returns-clause-shifts
returns-clause-shifts c = worked_shifts

pub returns-clause-operands : goal.returns-clause-operands
returns-clause-operands c = worked_operands

pub returns-clause-conversions : goal.returns-clause-conversions
returns-clause-conversions c = worked_conversions

pub returns-clause-pointers : goal.returns-clause-pointers
returns-clause-pointers c = worked_pointers

pub returns-clause-comparisons : goal.returns-clause-comparisons
returns-clause-comparisons c = worked_comparisons

pub returns-clause-objects : goal.returns-clause-objects
returns-clause-objects c = worked_objects

pub returns-clause-assertions : goal.returns-clause-assertions
returns-clause-assertions c = worked_assertions
