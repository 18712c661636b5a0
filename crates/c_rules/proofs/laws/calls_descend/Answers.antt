use Rattle.c_rules.proofs.Calls.{calls_descend}
use Rattle.c_rules.proofs.laws.calls_descend.Goals as goal

pub returns : goal.returns
returns c = calls_descend
