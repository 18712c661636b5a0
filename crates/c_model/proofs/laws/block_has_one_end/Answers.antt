use Rattle.c_model.proofs.BlockEnds.{one_block_end}
use Rattle.c_model.proofs.laws.block_has_one_end.Goals as goal

pub returns : goal.returns
returns c = one_block_end
