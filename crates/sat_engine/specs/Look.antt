use Rattle.std.specs.Prelude.{ℕ, ◌≢◌, ◌<◌, List, length, slice_index, Bool}
use Rattle.std.specs.List.{Contains}
use Rattle.sat_clause.specs.Propagation.{clause_at}
use Rattle.sat_clause.specs.Literals.{complement_of}
use Rattle.sat_engine.specs.Trail.{IsSet}
use Rattle.sat_engine.specs.declared.look.Seen.{Seen}
use Rattle.sat_engine.specs.declared.look.Seen.TheVariants.{Open, Unit, False}

abbrev pub InRange : List ℕ → ℕ → Type 0
InRange c n = (k : ℕ) → k < length c → slice_index c k < n

abbrev pub AreInRange : List (List ℕ) → ℕ → Type 0
AreInRange F n = (i : ℕ) → i < length F → InRange (clause_at F i) n

abbrev pub AreFalse : List ℕ → List Bool → Type 0
AreFalse c truth = (m : ℕ) → Contains c m → IsSet truth (complement_of m)

abbrev pub AreFalseBut : List ℕ → List Bool → ℕ → Type 0
AreFalseBut c truth o = (m : ℕ) → Contains c m → m ≢ o → IsSet truth (complement_of m)

abbrev pub LookSays : List ℕ → List Bool → ℕ → Seen → Type 0
LookSays c truth o (Open m) = Contains c m × (m ≢ o) × (IsSet truth (complement_of m) → ⊥)
LookSays c truth o Unit = Contains c o × AreFalseBut c truth o
LookSays c truth o False = AreFalse c truth
