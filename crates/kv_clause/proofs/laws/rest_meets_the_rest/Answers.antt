use Rattle.kv_clause.proofs.Queries.{blocks_behind}
use Rattle.kv_clause.proofs.laws.rest_meets_the_rest.Goals as goal

pub returns : goal.returns
returns c = λ A k m. blocks_behind c.args.t.now A k m
