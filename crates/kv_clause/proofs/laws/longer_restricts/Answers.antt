use Rattle.kv_clause.proofs.Queries.{blocks_cut}
use Rattle.kv_clause.proofs.laws.longer_restricts.Goals as goal

pub returns : goal.returns
returns c = λ k n h m. blocks_cut c.args.t.now c.args.a.now k n h m
