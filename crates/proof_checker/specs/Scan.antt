use Rattle.std.specs.Prelude.{ℕ, ◌≢◌, ◌<◌, ◌⊎◌, List, length, slice_index, Option, None, Some, Bool, true, false}
use Rattle.std.specs.List.{Contains}
use Rattle.sat_clause.specs.Literals.{complement_of}
use Rattle.sat_clause.specs.Propagation.{clause_at}
use Rattle.sat_engine.specs.Trail.{IsSet}
use Rattle.sat_engine.specs.Look.{AreFalse, AreFalseBut}
use Rattle.proof_checker.specs.declared.scan.Class.{Class}
use Rattle.proof_checker.specs.declared.scan.Class.TheVariants.{Settled, Unit as One, False}
use Rattle.proof_checker.specs.declared.scan.Scan.{Scan}
use Rattle.proof_checker.specs.declared.scan.Scan.TheVariants.{Closed, Unit as OneOf, False as FalseAt}

-- a true literal, or two that are not false
abbrev pub IsSettled : List ℕ → List Bool → Type 0
IsSettled c truth = ((t : ℕ) × Contains c t × IsSet truth t) ⊎ ((a : ℕ) × (b : ℕ) × Contains c a × Contains c b × (a ≢ b) × (IsSet truth (complement_of a) → ⊥) × (IsSet truth (complement_of b) → ⊥))

abbrev pub ClassSays : List ℕ → List Bool → Class → Type 0
ClassSays c truth Settled = IsSettled c truth
ClassSays c truth (One m) = Contains c m × AreFalseBut c truth m × (IsSet truth m → ⊥) × (IsSet truth (complement_of m) → ⊥)
ClassSays c truth False = AreFalse c truth

abbrev pub ScanSays : List (List ℕ) → List Bool → Scan → Type 0
ScanSays F truth Closed = (i : ℕ) → i < length F → IsSettled (clause_at F i) truth
ScanSays F truth (OneOf i m) = (i < length F) × Contains (clause_at F i) m × AreFalseBut (clause_at F i) truth m × (IsSet truth m → ⊥) × (IsSet truth (complement_of m) → ⊥)
ScanSays F truth (FalseAt i) = (i < length F) × AreFalse (clause_at F i) truth

-- what propagation to the end found
abbrev pub Closes : List (List ℕ) → List Bool → Bool → Type 0
Closes F truth true = (i : ℕ) × (i < length F) × AreFalse (clause_at F i) truth
Closes F truth false = (i : ℕ) → i < length F → IsSettled (clause_at F i) truth

pub record IsHeld (c : List ℕ) (truth : List Bool) (k o : ℕ) : Type 0 where
  pub has : Contains c o
  pub unset : IsSet truth o → ⊥
  pub unfalse : IsSet truth (complement_of o) → ⊥
  pub others : (j : ℕ) → j < k → slice_index c j ≢ o → IsSet truth (complement_of (slice_index c j))

abbrev pub SoFar : List ℕ → List Bool → ℕ → Option ℕ → Type 0
SoFar c truth k None = (j : ℕ) → j < k → IsSet truth (complement_of (slice_index c j))
SoFar c truth k (Some o) = IsHeld c truth k o
