use Rattle.kv_clause.proofs.Ranges.{query_below}
use Rattle.kv_clause.proofs.laws.query_is_over_its_blocks.Goals as goal

pub returns : goal.returns
returns c = λ h. query_below c.args.t.now c.args.q.now h
