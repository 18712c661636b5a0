-- A measure of a trail, which falls at each step that learns nothing.
use Rattle.std.specs.Prelude.{ℕ, ◌+◌, ◌-◌, ◌^◌, List, [], ◌∷◌, Bool, true, false}

-- how many words of n letters come after this one, where a choice (true) comes before what follows (false)
abbrev pub rank : ℕ → List Bool → ℕ
rank n [] = 3 ^ n
rank n (true ∷ w) = 3 ^ (n - 1) + rank (n - 1) w
rank n (false ∷ w) = rank (n - 1) w
