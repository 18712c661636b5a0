use Rattle.kv_clause.proofs.Queries.{end_is_beginning}
use Rattle.kv_clause.proofs.laws.end_is_next_beginning.Goals as goal

pub returns : goal.returns
returns c = λ i j _. end_is_beginning c.args.t.now i j
