use Rattle.std.proofs.Common.{arith}
use Rattle.c_model.specs.Store.{outlives}
use Rattle.c_values.proofs.Cells.{turned_there}
use Rattle.c_values.proofs.store.outlive_all.Goals as goal

pub loop-object-preserved : goal.loop-object-preserved
loop-object-preserved c =
    turned_there (outlives c.args.living) c.deref_mut-object-items.result.now c.loop-object.object-items c.loop-object.object-index c.object-item.result c.outlive.new.self (omega (arith, c.loop-object-test.true)) c.loop-object.invariant c.outlive.ensures
