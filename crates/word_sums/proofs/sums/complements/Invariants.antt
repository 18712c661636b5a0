use Rattle.std.proofs.Common.{◌≡◌, ℕ, Bool, ◌+◌, ◌^◌, length, take}
use Rattle.sat_clause.specs.Literals.{AreBelow}
use Rattle.word_sums.specs.Words.{number}
use Rattle.word_sums.proofs.sums.complements.Given as goal

abbrev pub invariant-loop-x : goal.invariant-loop-x
invariant-loop-x l = record {
  len : length l.turned ≡ l.x-index;
  word : (n : ℕ) → AreBelow n l.a → AreBelow n l.turned;
  value : (A : ℕ → Bool) → number A l.turned + number A (take l.x-index l.a) + 1 ≡ 2 ^ l.x-index;
}
