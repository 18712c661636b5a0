use Rattle.std.proofs.Common.{◌≡◌, ◌*◌, ℕ, Bool, length, take}
use Rattle.sat_clause.specs.Literals.{is_true}
use Rattle.gate_core.specs.Table.{Agrees, Grows}
use Rattle.word_sums.specs.Words.{bit, number, IsWordOf}
use Rattle.word_products.proofs.products.masked.Given as goal

abbrev pub invariant-loop-x : goal.invariant-loop-x
invariant-loop-x l = record {
  grows : Grows l.fn.gates l.gates;
  len : length l.row ≡ l.x-index;
  within : IsWordOf l.gates l.row;
  value : (A : ℕ → Bool) → Agrees A l.gates → number A l.row ≡ number A (take l.x-index l.word) * bit (is_true A l.test);
}
