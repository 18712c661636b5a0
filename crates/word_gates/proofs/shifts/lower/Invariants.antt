use Rattle.std.proofs.Common.{◌≡◌, ℕ, Bool, length, take}
use Rattle.kv_num.specs.Shift.{right_of}
use Rattle.gate_core.specs.Table.{Agrees, Grows}
use Rattle.word_sums.specs.Words.{number, continued_value, IsWordOf}
use Rattle.word_gates.proofs.shifts.lower.Given as goal

abbrev pub invariant-loop-i : goal.invariant-loop-i
invariant-loop-i l = record {
  grows : Grows l.fn.gates l.gates;
  len : length l.word ≡ length l.bits;
  word : IsWordOf l.gates l.word;
  value : (A : ℕ → Bool) → Agrees A l.gates → continued_value A l.fn.fill l.word ≡ right_of (continued_value A l.fn.fill l.bits) (number A (take l.i l.distance));
}
