use Rattle.std.proofs.Common.{◌≡◌, ℕ, Bool, length, take}
use Rattle.gate_core.specs.Table.{Agrees, Grows}
use Rattle.word_sums.specs.Words.{number, IsWordOf}
use Rattle.word_bits.specs.Bits.{on_numbers}
use Rattle.word_bits.proofs.bitwise.bitwise.Given as goal

abbrev pub invariant-loop-i : goal.invariant-loop-i
invariant-loop-i l = record {
  grows : Grows l.fn.gates l.gates;
  len : length l.word ≡ l.i;
  word : IsWordOf l.gates l.word;
  value : (A : ℕ → Bool) → Agrees A l.gates → number A l.word ≡ on_numbers l.op (number A (take l.i l.left)) (number A (take l.i l.right));
}
