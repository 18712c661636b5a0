use Rattle.c_model.proofs.Accepted.{calls_end}
use Rattle.c_model.proofs.Endless.{no_block_is_endless}
use Rattle.c_model.proofs.laws.no_block_is_endless.Goals as goal

pub returns-clause-accepted : goal.returns-clause-accepted
returns-clause-accepted c p a = no_block_is_endless p (calls_end p a)

pub returns-clause-by_calls : goal.returns-clause-by_calls
returns-clause-by_calls c = no_block_is_endless
