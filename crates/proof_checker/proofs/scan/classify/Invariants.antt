use Rattle.proof_checker.specs.Scan.{SoFar}
use Rattle.proof_checker.proofs.scan.classify.Given as goal

abbrev pub invariant-loop-m : goal.invariant-loop-m
invariant-loop-m l = SoFar l.clause l.truth l.m-index l.held
