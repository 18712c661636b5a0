use Rattle.std.proofs.Common.{◌≡◌, ◌*◌, ◌%◌, ◌^◌, nat_lt, not, ℕ, Bool, length, take}
use Rattle.sat_clause.specs.Literals.{is_true}
use Rattle.gate_core.specs.Table.{Agrees, IsLitOf, Grows}
use Rattle.word_sums.specs.Words.{number, IsWordOf}
use Rattle.word_gates.proofs.shifts.raise.Given as goal

abbrev pub invariant-loop-i : goal.invariant-loop-i
invariant-loop-i l = record {
  grows : Grows l.fn.gates l.gates;
  len : length l.word ≡ length l.bits;
  word : IsWordOf l.gates l.word;
  lost : IsLitOf l.gates l.lost;
  value : (A : ℕ → Bool) → Agrees A l.gates → number A l.word ≡ number A l.bits * 2 ^ number A (take l.i l.distance) % 2 ^ length l.bits;
  over : (A : ℕ → Bool) → Agrees A l.gates → is_true A l.lost ≡ not (nat_lt (number A l.bits * 2 ^ number A (take l.i l.distance)) (2 ^ length l.bits));
}
