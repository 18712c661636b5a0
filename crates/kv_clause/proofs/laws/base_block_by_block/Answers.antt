use Rattle.kv_clause.proofs.Chains.{base_so, base-from_so}
use Rattle.kv_clause.proofs.laws.base_block_by_block.Goals as goal

pub returns : goal.returns
returns c = λ A. ((λ m. base_so c.args.t.now c.args.k A m), (λ m. base-from_so c.args.t.now c.args.k A m.0 m.1))
