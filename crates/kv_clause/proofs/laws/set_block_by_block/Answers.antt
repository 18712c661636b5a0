use Rattle.kv_clause.proofs.Chains.{first_so, first-from_so, induct_so, induct-from_so}
use Rattle.kv_clause.proofs.laws.set_block_by_block.Goals as goal

pub returns : goal.returns
returns c = record {
  first = λ A. ((λ m. first_so c.args.t.now c.args.round c.args.set.now A m), (λ m. first-from_so c.args.t.now c.args.round c.args.set.now A m.0 m.1));
  induct = λ A. ((λ m. induct_so c.args.t.now c.args.round c.args.set.now A m), (λ m. induct-from_so c.args.t.now c.args.round c.args.set.now A m.0 m.1 m.2));
}
