use Rattle.std.proofs.Common.{arith}
use Rattle.c_model.specs.Store.{outlived}
use Rattle.c_values.proofs.Cells.{turned_on}
use Rattle.c_values.proofs.living.outlive_cells.Goals as goal

pub loop-at-preserved : goal.loop-at-preserved
loop-at-preserved c = turned_on (outlived c.args.living) c.args.cells.now c.loop-at.cells c.outlive_cell.new.cells c.loop-at.at (omega (arith, c.loop-at-test.true, c.len-at-end.ensures)) c.loop-at.invariant c.outlive_cell.ensures
