-- A set of variables, and the two lists that hold it.
use Rattle.std.specs.Prelude.{ℕ, ◌≡◌, ◌+◌, ◌<◌, ◌≤◌, List, length, map, take, slice_index, slice_index_or, Bool, true, false, ltb}

-- the variable is in the set
abbrev pub IsIn : List Bool → ℕ → Type 0
IsIn set v = slice_index_or set v false ≡ true

abbrev pub IsEmpty : List Bool → Type 0
IsEmpty set = (v : ℕ) → IsIn set v → ⊥

-- the first `count` of the variables are in the set
abbrev pub members : List ℕ → List ℕ → ℕ → List Bool
members vars places count = map (λ p. ltb p count) (take (length vars) places)

-- each variable stands at its place, and so does nothing else; further places are of the variables of their numbers
pub record IsArranged (vars places : List ℕ) : Type 0 where
  pub room : length vars ≤ length places
  pub there : (v : ℕ) → v < length vars → (slice_index places v < length vars) × (slice_index vars (slice_index places v) ≡ v)
  pub beyond : (v : ℕ) → length vars ≤ v → v < length places → slice_index places v ≡ v
  pub back : (i : ℕ) → i < length vars → (slice_index vars i < length vars) × (slice_index places (slice_index vars i) ≡ i)

-- the numbers from one on, below another
pub record AreNumbers (from to : ℕ) (made : List ℕ) : Type 0 where
  pub size : from + length made ≡ to
  pub each : (i : ℕ) → i < length made → slice_index made i ≡ from + i
