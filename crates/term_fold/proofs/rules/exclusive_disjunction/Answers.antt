use Rattle.term_fold.proofs.Simplifications.{xor_itself}
use Rattle.term_fold.proofs.rules.exclusive_disjunction.Goals as goal

pub returns-then-o : goal.returns-then-o
returns-then-o c = xor_itself c.args.o c.requires c.if-o.true
