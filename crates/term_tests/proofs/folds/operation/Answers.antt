use Rattle.std.proofs.Common.{rules, length}
use Rattle.term_core.specs.Table.{IsOperand}
use Rattle.term_tests.proofs.Fitting.{operation_fits}
use Rattle.term_tests.proofs.folds.operation.Goals as goal

pub add-requires : goal.add-requires
add-requires c =
    let hl : IsOperand c.args.terms.now (length c.args.terms.now) c.shape_of-shape.result c.args.left = search rules in
    let hr : IsOperand c.args.terms.now (length c.args.terms.now) c.shape_of-shape.result c.args.right = search rules in
    operation_fits c.args.terms.now c.args.left c.args.right c.args.op c.shape_of-shape.result c.result_of.result c.shape_of-shape.ensures hl hr c.result_of.ensures
