use Rattle.std.proofs.Common.{subst, sym}
use Rattle.c_values.specs.Pointing.{AreNoPointers}
use Rattle.c_values.proofs.Cells.{write_keeps}
use Rattle.c_values.proofs.living.Living.write.Goals as goal

pub invariant_of-self : goal.invariant_of-self
invariant_of-self c = λ none.
    subst AreNoPointers (sym c.write_cells.ensures)
    (write_keeps c.self.inside.may_point c.points_somewhere.result c.args.value.now c.args.offset c.self.inside.cells c.self.invariant c.points_somewhere.ensures none)
