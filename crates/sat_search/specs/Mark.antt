use Rattle.std.specs.Prelude.{ℕ, ◌≡◌, ◌≢◌, ◌/◌, ◌<◌, ◌≤◌, ◌⊎◌, List, length, slice_index, Bool, Option, None, Some}
use Rattle.std.specs.List.{Contains}
use Rattle.sat_engine.specs.declared.trail.SetLiteral.{SetLiteral}
use Rattle.sat_engine.specs.Trail.{IsSet, lit_at}

-- the variable of m is marked, and m is listed if it was set before `floor`
pub record MarkedOne (m : ℕ) (place : List ℕ) (start floor : ℕ) (old new : List Bool) (low_old low_new : List ℕ) : Type 0 where
  pub kept : (v : ℕ) → IsSet old v → IsSet new v
  pub here : IsSet new (m / 2) ⊎ (slice_index place (m / 2) < start)
  pub only : (v : ℕ) → IsSet new v → IsSet old v ⊎ (m / 2 ≡ v)
  pub low_kept : (l : ℕ) → Contains low_old l → Contains low_new l
  pub low_only : (l : ℕ) → Contains low_new l → Contains low_old l ⊎ ((l ≡ m) × (slice_index place (l / 2) < floor))
  pub low_has : (v : ℕ) → IsSet new v → slice_index place v < floor → IsSet old v ⊎ ((m / 2 ≡ v) × Contains low_new m)
  pub size : length new ≡ length old

-- the same of the first k literals of a clause, but for `skip`
pub record MarkedAll (c : List ℕ) (k : ℕ) (place : List ℕ) (start floor skip : ℕ) (old new : List Bool) (low_old low_new : List ℕ) : Type 0 where
  pub kept : (v : ℕ) → IsSet old v → IsSet new v
  pub all : (i : ℕ) → i < k → slice_index c i ≢ skip → IsSet new (slice_index c i / 2) ⊎ (slice_index place (slice_index c i / 2) < start)
  pub only : (v : ℕ) → IsSet new v → IsSet old v ⊎ ((i : ℕ) × (i < k) × (slice_index c i ≢ skip) × (slice_index c i / 2 ≡ v))
  pub low_kept : (l : ℕ) → Contains low_old l → Contains low_new l
  pub low_only : (l : ℕ) → Contains low_new l → Contains low_old l ⊎ ((i : ℕ) × (i < k) × (slice_index c i ≢ skip) × (slice_index c i ≡ l) × (slice_index place (l / 2) < floor))
  pub low_has : (v : ℕ) → IsSet new v → slice_index place v < floor → IsSet old v ⊎ ((i : ℕ) × (i < k) × (slice_index c i ≢ skip) × (slice_index c i / 2 ≡ v) × Contains low_new (slice_index c i))
  pub size : length new ≡ length old

abbrev pub IsMarkedAt : List SetLiteral → List Bool → ℕ → Type 0
IsMarkedAt steps marks i = IsSet marks (lit_at steps i / 2)

abbrev pub IsNext : List SetLiteral → List Bool → ℕ → ℕ → Option ℕ → Type 0
IsNext steps marks floor top None = (i : ℕ) → floor ≤ i → i < top → IsMarkedAt steps marks i → ⊥
IsNext steps marks floor top (Some s) = (floor ≤ s) × (s < top) × IsMarkedAt steps marks s × ((i : ℕ) → s < i → i < top → IsMarkedAt steps marks i → ⊥)
