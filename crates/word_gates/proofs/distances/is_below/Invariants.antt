use Rattle.std.proofs.Common.{◌≡◌, ◌+◌, ◌*◌, ◌^◌, ◌<◌, ◌≤◌, nat_lt, ℕ, Bool, take}
use Rattle.sat_clause.specs.Literals.{is_true}
use Rattle.gate_core.specs.Table.{Agrees, IsLitOf, Grows}
use Rattle.word_sums.specs.Words.{number}
use Rattle.word_gates.proofs.distances.is_below.Given as goal

abbrev pub invariant-loop-x : goal.invariant-loop-x
invariant-loop-x l = record {
  grows : Grows l.fn.gates l.gates;
  below : IsLitOf l.gates l.below;
  least : 2 ^ l.x-index * l.rest ≤ l.bound;
  most : l.bound < 2 ^ l.x-index * l.rest + 2 ^ l.x-index;
  value : (A : ℕ → Bool) → Agrees A l.gates → is_true A l.below ≡ nat_lt (number A (take l.x-index l.word) + 2 ^ l.x-index * l.rest) l.bound;
}
