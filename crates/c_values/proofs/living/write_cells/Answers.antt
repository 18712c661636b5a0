use Rattle.std.proofs.Common.{arith, sym, ◌∙◌, drop}
use Rattle.c_values.proofs.Cells.{written_past}
use Rattle.c_values.proofs.living.write_cells.Goals as goal

pub returns-then-place-end : goal.returns-then-place-end
returns-then-place-end c =
    sym (written_past (drop c.loop-scalar.scalar-index c.args.value.now) c.loop-scalar.place c.loop-scalar.cells (omega (arith, c.loop-scalar.invariant.0, c.if-place-end.true))) ∙ c.loop-scalar.invariant.1
