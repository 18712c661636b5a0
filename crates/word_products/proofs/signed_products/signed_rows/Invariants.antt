use Rattle.std.proofs.Common.{◌≡◌, ◌^◌, ℕ, Bool, true, false, length, take, pos, ◌+ℤ◌, ◌*ℤ◌}
use Rattle.sat_clause.specs.Literals.{is_true}
use Rattle.gate_core.specs.Table.{Agrees, IsLitOf, Grows}
use Rattle.word_sums.specs.Words.{number, word_value, IsWordOf}
use Rattle.word_products.proofs.signed_products.signed_rows.Given as goal

abbrev pub invariant-loop-y : goal.invariant-loop-y
invariant-loop-y l = record {
  grows : Grows l.fn.gates l.gates;
  never : IsLitOf l.gates l.never;
  plain : (A : ℕ → Bool) → Agrees A l.gates → is_true A l.never ≡ false;
  low_len : length l.low ≡ l.y-index;
  high_len : length l.high ≡ length l.a;
  low : IsWordOf l.gates l.low;
  high : IsWordOf l.gates l.high;
  value : (A : ℕ → Bool) → Agrees A l.gates → pos (number A l.low) +ℤ (word_value A true l.high *ℤ pos (2 ^ l.y-index)) ≡ word_value A true l.a *ℤ pos (number A (take l.y-index l.b));
}
