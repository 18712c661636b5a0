-- Counts that stop at a greatest one.
use Rattle.std.proofs.Common.{◌≡◌, ℕ, zero, suc, ◌+◌, ◌*◌, ◌<◌, ◌≤◌, min, refl, ap, sym, ◌∙◌, ⊎_elim, arith}
use Rattle.std.proofs.lemmas.Bool.{cases_lt}
use Rattle.std.proofs.lemmas.Grind.{common_steps}
use Rattle.std.proofs.Math.Nat.{mul_assoc, zero-mul, mul-zero, mul-le-mul_right, le-mul_of_pos_right, min-eq_left, min-eq_right}

-- a count past the greatest stays there, but for a factor 0
past : (a b m : ℕ) → m ≤ a → min (m * b) m ≡ min (a * b) m
past a zero m h = ap (λ x. min x m) (mul-zero m ∙ sym (mul-zero a))
past a (suc b) m h =
    let more : m ≤ m * suc b = le-mul_of_pos_right m (omega arith) in
    let still : m ≤ a * suc b = omega (arith, mul-le-mul_right {m = m} {n = a} (suc b) h) in
    min-eq_right more ∙ sym (min-eq_right still)

pub min-mul : (a b m : ℕ) → min (min a m * b) m ≡ min (a * b) m
min-mul a b m =
    ⊎_elim (λ (less : a < m). ap (λ x. min (x * b) m) (min-eq_left (omega arith)))
    (λ (more : m ≤ a). ap (λ x. min (x * b) m) (min-eq_right more) ∙ past a b m more)
    (cases_lt a m)

-- a step into an array of n elements
pub count_step : (count n rest m : ℕ) → min (min (count * n) m * rest) m ≡ min (count * (n * rest)) m
count_step count n rest m = min-mul (count * n) rest m ∙ ap (λ x. min x m) (mul_assoc count n rest)

-- a pointer is one cell, which is all that is left to count
pub count_last : (count m : ℕ) → count ≤ m → min (count * 1) m ≡ count
count_last count m h = min-eq_left (omega (arith, h)) ∙ omega arith

pub at_most : (a m : ℕ) → min a m ≤ m
at_most a m = grind (arith, common_steps)
