use Rattle.std.proofs.Common.{◌≡◌, ℕ, Bool, ◌+◌, ◌*◌, ◌^◌, length, take}
use Rattle.sat_clause.specs.Literals.{is_true}
use Rattle.gate_core.specs.Table.{Agrees, IsLitOf, Grows}
use Rattle.word_sums.specs.Words.{bit, number, IsWordOf}
use Rattle.word_sums.proofs.sums.add_carried.Given as goal

abbrev pub invariant-loop-i : goal.invariant-loop-i
invariant-loop-i l = record {
  grows : Grows l.fn.gates l.gates;
  len : length l.word ≡ l.i;
  word : IsWordOf l.gates l.word;
  out : IsLitOf l.gates l.out;
  value : (A : ℕ → Bool) → Agrees A l.gates → number A l.word + 2 ^ l.i * bit (is_true A l.out) ≡ number A (take l.i l.a) + number A (take l.i l.b) + bit (is_true A l.fn.carry);
}
