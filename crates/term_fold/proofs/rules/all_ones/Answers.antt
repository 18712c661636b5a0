use Rattle.term_fold.proofs.Simplifications.{signed_ones}
use Rattle.term_fold.proofs.rules.all_ones.Goals as goal

pub returns-then-shape-clause-shape : goal.returns-then-shape-clause-shape
returns-then-shape-clause-shape c = signed_ones c.args.shape c.requires c.if-shape.true
