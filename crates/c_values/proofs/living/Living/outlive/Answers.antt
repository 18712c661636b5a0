use Rattle.std.proofs.Common.{◌≡◌, subst}
use Rattle.c_model.specs.declared.values.Object.{Object}
use Rattle.c_model.specs.Store.{outlives}
use Rattle.c_values.proofs.Cells.{none_outlives}
use Rattle.c_values.proofs.living.Living.outlive.Goals as goal

pub returns-else-self : goal.returns-else-self
returns-else-self c =
    let P : Object → Type 0 = λ o. o ≡ outlives c.args.living o in
    subst P c.self.view_is (none_outlives c.args.living c.self.inside.number c.self.inside.cells (c.self.invariant c.if-self.false))
