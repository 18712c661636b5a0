use Rattle.std.proofs.Common.{ℕ, ◌≡◌, List, refl}
use Rattle.std.proofs.lemmas.Bool.{false≢true}
use Rattle.proof_checker.specs.declared.verdict.Checked.{Checked}
use Rattle.proof_checker.specs.declared.verdict.Checked.TheVariants.{Refutes, Learns, Bad}
use Rattle.proof_checker.specs.Checking.{CheckSays, IsRefutation}
use Rattle.proof_checker.proofs.Checkings.{refutes_not_bad, refutes_not_learns}
use Rattle.sat_query.proofs.asking.refutes.Goals as goal

not_refuted : (F L : List (List ℕ)) (checked : Checked) → CheckSays F L checked → (checked ≡ Refutes → ⊥) → IsRefutation F L → ⊥
not_refuted F L Refutes s n r = n refl
not_refuted F L (Learns m) s n r = refutes_not_learns F L m r s
not_refuted F L (Bad m) s n r = refutes_not_bad F L m r s

pub returns-in_default : goal.returns-in_default
returns-in_default c = (
  λ e. absurd (false≢true e),
  λ r. absurd (not_refuted c.args.cnf.now.clauses c.args.log.now c.in_ok-checked.checked c.in_ok-checked.ensures c.in_default.not-Refutes r),
)
