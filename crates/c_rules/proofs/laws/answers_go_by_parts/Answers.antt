use Rattle.c_rules.proofs.Typings.{answer_is}
use Rattle.c_rules.proofs.laws.answers_go_by_parts.Goals as goal

pub returns : goal.returns
returns c = answer_is
