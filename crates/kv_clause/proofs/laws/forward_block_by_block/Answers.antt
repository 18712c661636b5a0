use Rattle.kv_clause.proofs.Chains.{forward_so, forward-from_so}
use Rattle.kv_clause.proofs.laws.forward_block_by_block.Goals as goal

pub returns : goal.returns
returns c = λ A. ((λ m. forward_so c.args.t.now c.args.k A m), (λ m. forward-from_so c.args.t.now c.args.k A m.0 m.1))
