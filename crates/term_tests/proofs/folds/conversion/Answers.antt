use Rattle.std.proofs.Common.{arith}
use Rattle.term_tests.proofs.Fitting.{of_type}
use Rattle.term_tests.proofs.folds.conversion.Goals as goal

pub add-requires : goal.add-requires
add-requires c = (of_type c.args.t c.of.result c.of.ensures, omega arith)
