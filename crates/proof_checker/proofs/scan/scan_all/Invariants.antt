use Rattle.std.proofs.Common.{ℕ, ◌-◌, ◌<◌, ◌≤◌, length}
use Rattle.sat_clause.specs.Propagation.{clause_at}
use Rattle.proof_checker.specs.Scan.{IsSettled}
use Rattle.proof_checker.proofs.scan.scan_all.Given as goal

abbrev pub invariant-loop-i : goal.invariant-loop-i
invariant-loop-i l = (l.i ≤ length l.store) × ((k : ℕ) → k < l.i → IsSettled (clause_at l.store k) l.truth)

abbrev pub decreases-loop-i : goal.decreases-loop-i
decreases-loop-i l = length l.store - l.i
