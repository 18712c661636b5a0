use Rattle.std.proofs.Common.{◌≡◌, ◌+◌, ◌*◌, ◌^◌, ℕ, Bool, length, take}
use Rattle.gate_core.specs.Table.{Agrees, Grows}
use Rattle.word_sums.specs.Words.{number, IsWordOf}
use Rattle.word_products.proofs.products.wide_product.Given as goal

abbrev pub invariant-loop-y : goal.invariant-loop-y
invariant-loop-y l = record {
  grows : Grows l.fn.gates l.gates;
  low_len : length l.low ≡ l.y-index;
  high_len : length l.high ≡ length l.a;
  low : IsWordOf l.gates l.low;
  high : IsWordOf l.gates l.high;
  value : (A : ℕ → Bool) → Agrees A l.gates → number A l.low + 2 ^ l.y-index * number A l.high ≡ number A l.a * number A (take l.y-index l.b);
}
