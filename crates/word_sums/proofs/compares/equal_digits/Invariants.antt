use Rattle.std.proofs.Common.{◌≡◌, ◌==◌, ℕ, Bool, take}
use Rattle.sat_clause.specs.Literals.{is_true}
use Rattle.gate_core.specs.Table.{Agrees, IsLitOf, Grows}
use Rattle.word_sums.specs.Words.{number}
use Rattle.word_sums.proofs.compares.equal_digits.Given as goal

abbrev pub invariant-loop-i : goal.invariant-loop-i
invariant-loop-i l = record {
  grows : Grows l.fn.gates l.gates;
  same : IsLitOf l.gates l.same;
  value : (A : ℕ → Bool) → Agrees A l.gates → is_true A l.same ≡ (number A (take l.i l.left) == number A (take l.i l.right));
}
