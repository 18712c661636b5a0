-- Shifts of whole numbers (6.5.7).
use Rattle.std.specs.Prelude.{ℕ, ◌^◌, ℤ, pos, ◌*ℤ◌}
use Rattle.std.specs.Int.{int_div_euclid}

-- a times 2 ^ d
abbrev pub left_of : ℤ → ℕ → ℤ
left_of a d = a *ℤ pos (2 ^ d)

-- a divided by 2 ^ d, rounded down
abbrev pub right_of : ℤ → ℕ → ℤ
right_of a d = int_div_euclid a (pos (2 ^ d))
