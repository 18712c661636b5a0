use Rattle.proof_checker.proofs.Checkings.{refutes_not_bad, refutes_not_learns, learns_not_bad}
use Rattle.proof_checker.proofs.laws.answers_exclude_one_another.Goals as goal

pub returns : goal.returns
returns c = record {
  bad = λ F L n r b. refutes_not_bad F L n r b;
  learns = λ F L n r w. refutes_not_learns F L n r w;
  neither = λ F L m n w b. learns_not_bad F L m n w b;
}
