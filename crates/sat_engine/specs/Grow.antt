use Rattle.std.specs.Prelude.{ℕ, ◌≡◌, ◌≢◌, ◌<◌, ◌≤◌, List, length, take}
use Rattle.std.specs.List.{Contains}
use Rattle.sat_clause.specs.Propagation.{clause_at}
use Rattle.sat_clause.specs.Literals.{complement_of}
use Rattle.sat_engine.specs.declared.trail.Reason.{Reason}
use Rattle.sat_engine.specs.declared.trail.Reason.TheVariants.{Free, Assumed, Clause}
use Rattle.sat_engine.specs.declared.trail.SetLiteral.{SetLiteral}
use Rattle.sat_engine.specs.Trail.{lit_at, reason_at, Before}

-- the literal at i is true by a clause whose other literals are false before it
abbrev pub IsImplied : List (List ℕ) → List SetLiteral → ℕ → Reason → Type 0
IsImplied F steps i Free = ⊥
IsImplied F steps i Assumed = ⊥
IsImplied F steps i (Clause n) = (n < length F) × Contains (clause_at F n) (lit_at steps i) × ((m : ℕ) → Contains (clause_at F n) m → m ≢ lit_at steps i → Before steps i (complement_of m))

-- the trail has grown by implied literals alone
pub record Grows (F : List (List ℕ)) (old new : List SetLiteral) : Type 0 where
  pub longer : length old ≤ length new
  pub front : take (length old) new ≡ old
  pub implied : (i : ℕ) → length old ≤ i → i < length new → IsImplied F new i (reason_at new i)
