use Rattle.proof_checker.proofs.Checkings.{refuted_has_none}
use Rattle.proof_checker.proofs.laws.refuted_clauses_are_met_by_none.Goals as goal

pub returns : goal.returns
returns c = λ F L r A m. refuted_has_none F L r A m
