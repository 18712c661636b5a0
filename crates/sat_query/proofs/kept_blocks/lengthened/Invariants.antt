use Rattle.std.proofs.Common.{ℕ, ◌≡◌, ◌-◌, ◌≤◌, length}
use Rattle.sat_clause.specs.Literals.{truths}
use Rattle.sat_query.proofs.kept_blocks.lengthened.Given as goal

abbrev pub invariant-loop-made : goal.invariant-loop-made
invariant-loop-made l = record {
  within : length l.initial.made ≤ l.vars → length l.made ≤ l.vars;
  same : (v : ℕ) → truths l.made v ≡ truths l.initial.made v;
}

abbrev pub decreases-loop-made : goal.decreases-loop-made
decreases-loop-made l = l.vars - length l.made
