use Rattle.c_source.proofs.Excluded.{one_program_lem}
use Rattle.c_source.proofs.reading.one_program.Goals as goal

pub returns : goal.returns
returns c = one_program_lem c.one_tree.ensures.one
