use Rattle.std.proofs.Common.{◌≡◌, ℕ, Bool, take, nat_lt}
use Rattle.sat_clause.specs.Literals.{is_true}
use Rattle.gate_core.specs.Table.{Agrees, IsLitOf, Grows}
use Rattle.word_sums.specs.Words.{number}
use Rattle.word_sums.proofs.compares.lower.Given as goal

abbrev pub invariant-loop-i : goal.invariant-loop-i
invariant-loop-i l = record {
  grows : Grows l.fn.gates l.gates;
  lower : IsLitOf l.gates l.lower;
  value : (A : ℕ → Bool) → Agrees A l.gates → is_true A l.lower ≡ nat_lt (number A (take l.i l.a)) (number A (take l.i l.b));
}
