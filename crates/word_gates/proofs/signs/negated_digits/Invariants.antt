use Rattle.std.proofs.Common.{◌≡◌, ◌==◌, ◌+◌, ◌*◌, ◌^◌, not, ℕ, Bool, length, take, if◌then◌else◌}
use Rattle.sat_clause.specs.Literals.{is_true}
use Rattle.gate_core.specs.Table.{Agrees, IsLitOf, Grows}
use Rattle.word_sums.specs.Words.{bit, number, IsWordOf}
use Rattle.word_gates.proofs.signs.negated_digits.Given as goal

abbrev pub invariant-loop-x : goal.invariant-loop-x
invariant-loop-x l = record {
  grows : Grows l.fn.gates l.gates;
  len : length l.negated ≡ l.x-index;
  within : IsWordOf l.gates l.negated;
  set : IsLitOf l.gates l.set;
  some : (A : ℕ → Bool) → Agrees A l.gates → is_true A l.set ≡ not (number A (take l.x-index l.word) == 0);
  value : (A : ℕ → Bool) → Agrees A l.gates → (if is_true A l.test then number A l.negated + number A (take l.x-index l.word) else number A l.negated) ≡ (if is_true A l.test then 2 ^ l.x-index * bit (not (number A (take l.x-index l.word) == 0)) else number A (take l.x-index l.word));
}
