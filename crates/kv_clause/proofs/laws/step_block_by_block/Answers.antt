use Rattle.kv_clause.proofs.Chains.{step_so, step-from_so}
use Rattle.kv_clause.proofs.laws.step_block_by_block.Goals as goal

pub returns : goal.returns
returns c = record {
  step = λ A. ((λ m. step_so c.args.t.now c.args.k c.args.under.now A m), (λ m. step-from_so c.args.t.now c.args.k c.args.under.now A m.0 m.1));
  closing = λ A. ((λ m. step_so c.args.t.now c.args.k c.args.under.now A m), (λ m. step-from_so c.args.t.now c.args.k c.args.under.now A m.0 m.1));
}
