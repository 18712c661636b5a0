use Rattle.term_fold.proofs.Simplifications.{sub_itself}
use Rattle.term_fold.proofs.rules.difference.Goals as goal

pub returns-then-o : goal.returns-then-o
returns-then-o c = sub_itself c.args.o c.requires c.if-o.true
