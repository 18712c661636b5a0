use Rattle.std.proofs.Common.{rules, length, refl}
use Rattle.term_core.specs.Shape.{one_bit}
use Rattle.term_core.specs.Table.{IsOperand}
use Rattle.term_tests.proofs.Fitting.{test_fits}
use Rattle.term_tests.proofs.folds.fitting.Goals as goal

pub add-requires : goal.add-requires
add-requires c =
    let hl : IsOperand c.args.terms.now (length c.args.terms.now) c.shape_of-shape.result c.args.left = search rules in
    let hr : IsOperand c.args.terms.now (length c.args.terms.now) c.shape_of-shape.result c.args.right = search rules in
    test_fits c.args.terms.now c.args.left c.args.right c.args.op c.shape_of-shape.result one_bit hl hr refl
