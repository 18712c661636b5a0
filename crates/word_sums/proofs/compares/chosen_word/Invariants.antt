use Rattle.std.proofs.Common.{◌≡◌, ℕ, Bool, length, take, if◌then◌else◌}
use Rattle.sat_clause.specs.Literals.{is_true}
use Rattle.gate_core.specs.Table.{Agrees, Grows}
use Rattle.word_sums.specs.Words.{number, IsWordOf}
use Rattle.word_sums.proofs.compares.chosen_word.Given as goal

abbrev pub invariant-loop-i : goal.invariant-loop-i
invariant-loop-i l = record {
  grows : Grows l.fn.gates l.gates;
  len : length l.word ≡ l.i;
  word : IsWordOf l.gates l.word;
  value : (A : ℕ → Bool) → Agrees A l.gates → number A l.word ≡ (if is_true A l.test then number A (take l.i l.left) else number A (take l.i l.right));
}
