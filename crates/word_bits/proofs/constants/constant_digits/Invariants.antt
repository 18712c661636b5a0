use Rattle.std.proofs.Common.{◌≡◌, ℕ, Bool, length}
use Rattle.kv_num.specs.Bits.{low_bits}
use Rattle.gate_core.specs.Table.{Agrees, Grows}
use Rattle.word_sums.specs.Words.{number, IsWordOf}
use Rattle.word_bits.proofs.constants.constant_digits.Given as goal

abbrev pub invariant-loop-i : goal.invariant-loop-i
invariant-loop-i l = record {
  grows : Grows l.fn.gates l.gates;
  len : length l.word ≡ l.i;
  word : IsWordOf l.gates l.word;
  value : (A : ℕ → Bool) → Agrees A l.gates → number A l.word ≡ low_bits l.i l.n;
}
