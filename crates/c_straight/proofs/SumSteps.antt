-- One step of the definitions that go by a number.
use Rattle.std.proofs.Common.{◌≡◌, ℕ, suc, ◌-◌, ◌<◌, None, ap, arith}
use Rattle.c_tree.specs.declared.expression.Expression.{Expression}
use Rattle.c_straight.specs.Straight.{sum_of, sum_by}

one_more : (n : ℕ) → 0 < n → n ≡ suc (n - 1)
one_more n h = omega arith

pub sum_none : (n : ℕ) (x : Expression) → n ≡ 0 → sum_of n x ≡ None
unfolding sum_of
sum_none n x e = ap (λ m. sum_of m x) e

pub sum_deeper : (n : ℕ) (x : Expression) → 0 < n → sum_of n x ≡ sum_by (sum_of (n - 1)) x
unfolding sum_of
sum_deeper n x h = ap (λ m. sum_of m x) (one_more n h)
