use Rattle.std.proofs.Common.{◌≡◌, ◌==◌, ◌-◌, not, ℕ, Bool, length, drop}
use Rattle.sat_clause.specs.Literals.{is_true}
use Rattle.gate_core.specs.Table.{Agrees, IsLitOf, Grows}
use Rattle.word_sums.specs.Words.{number}
use Rattle.word_sums.proofs.parts.any.Given as goal

abbrev pub invariant-loop-i : goal.invariant-loop-i
invariant-loop-i l = record {
  grows : Grows l.fn.gates l.gates;
  set : IsLitOf l.gates l.set;
  value : (A : ℕ → Bool) → Agrees A l.gates → is_true A l.set ≡ not (number A (drop (length l.word - l.i) l.word) == 0);
}
