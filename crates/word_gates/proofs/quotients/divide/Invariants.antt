use Rattle.std.proofs.Common.{◌≡◌, ◌<◌, ◌+◌, ◌-◌, ◌*◌, ℕ, Bool, length, drop}
use Rattle.gate_core.specs.Table.{Agrees, Grows}
use Rattle.word_sums.specs.Words.{number, IsWordOf}
use Rattle.word_gates.proofs.quotients.divide.Given as goal

abbrev pub invariant-loop-i : goal.invariant-loop-i
invariant-loop-i l = record {
  grows : Grows l.fn.gates l.gates;
  quotient_len : length l.quotient ≡ l.i;
  remainder_len : length l.remainder ≡ l.i;
  quotient : IsWordOf l.gates l.quotient;
  remainder : IsWordOf l.gates l.remainder;
  value : (A : ℕ → Bool) → Agrees A l.gates → number A l.quotient * number A l.b + number A l.remainder ≡ number A (drop (length l.a - l.i) l.a);
  small : (A : ℕ → Bool) → Agrees A l.gates → 0 < number A l.b → number A l.remainder < number A l.b;
}
