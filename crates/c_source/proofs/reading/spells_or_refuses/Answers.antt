use Rattle.c_source.proofs.Excluded.{spells_or_refuses_lem}
use Rattle.c_source.proofs.reading.spells_or_refuses.Goals as goal

pub returns : goal.returns
returns c = spells_or_refuses_lem c.one_tree.ensures.one
