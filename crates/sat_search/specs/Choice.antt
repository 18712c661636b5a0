use Rattle.std.specs.Prelude.{ℕ, ◌≡◌, ◌/◌, ◌<◌, ◌≤◌, List, slice_index, true, false, Option, None, Some}
use Rattle.sat_engine.specs.declared.trail.SetLiteral.{SetLiteral}
use Rattle.sat_engine.specs.Trail.{reason_at}
use Rattle.sat_search.specs.State.{is_choice}

-- the greatest place of the first n literals
abbrev pub IsLastPlace : List ℕ → ℕ → List ℕ → Option ℕ → Type 0
IsLastPlace c n place None = n ≡ 0
IsLastPlace c n place (Some t) = ((k : ℕ) → k < n → slice_index place (slice_index c k / 2) ≤ t) × ((k : ℕ) × (k < n) × (slice_index place (slice_index c k / 2) ≡ t))

abbrev pub IsChoiceAt : List SetLiteral → ℕ → Type 0
IsChoiceAt steps i = is_choice (reason_at steps i) ≡ true

abbrev pub NoChoice : List SetLiteral → ℕ → ℕ → Type 0
NoChoice steps low high = (i : ℕ) → low ≤ i → i < high → is_choice (reason_at steps i) ≡ false
