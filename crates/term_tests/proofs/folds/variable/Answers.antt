use Rattle.term_tests.proofs.Fitting.{of_type}
use Rattle.term_tests.proofs.folds.variable.Goals as goal

pub add-requires : goal.add-requires
add-requires c = (of_type c.args.t c.of.result c.of.ensures, tt)
