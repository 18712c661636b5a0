use Rattle.kv_clause.proofs.Queries.{query_parts, query-from_parts}
use Rattle.kv_clause.proofs.laws.query_is_fixed_and_asked.Goals as goal

pub returns : goal.returns
returns c = λ A. ((λ m. query_parts A c.args.t.now c.args.q.now m), (λ m. query-from_parts A c.args.t.now c.args.q.now m.0 m.1))
