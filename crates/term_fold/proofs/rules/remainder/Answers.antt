use Rattle.term_fold.proofs.Simplifications.{rem_one}
use Rattle.term_fold.proofs.rules.remainder.Goals as goal

pub returns-then-is_number : goal.returns-then-is_number
returns-then-is_number c = rem_one c.args.o c.requires (c.is_number.ensures.0 c.if-is_number.true)
