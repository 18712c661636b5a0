use Rattle.std.proofs.Common.{ℕ, List, subst, arith, below_more}
use Rattle.sat_clause.specs.Propagation.{clause_at}
use Rattle.proof_checker.specs.Scan.{IsSettled}
use Rattle.proof_checker.proofs.scan.scan_all.Goals as goal

pub loop-i-preserved : goal.loop-i-preserved
loop-i-preserved c = (omega arith, below_more (λ (k : ℕ). IsSettled (clause_at c.args.store.now k) c.args.truth.now) c.loop-i.i c.loop-i.invariant.1 (subst (λ (x : List ℕ). IsSettled x c.args.truth.now) c.get.ensures c.in-Settled.ensures))

pub returns : goal.returns
returns c = λ i lt. c.loop-i.invariant.1 i (omega arith)
