-- A trail that stands on clauses and given literals.
use Rattle.std.specs.Prelude.{ℕ, ◌≡◌, ◌≢◌, ◌<◌, ◌≤◌, List, length, take, Bool, true, false}
use Rattle.std.specs.List.{Contains}
use Rattle.sat_clause.specs.Propagation.{Refuted}
use Rattle.sat_engine.specs.declared.trail.Reason.TheVariants.{Free}
use Rattle.sat_engine.specs.declared.trail.SetLiteral.{SetLiteral}
use Rattle.sat_engine.specs.Trail.{AreReasons, reason_at, IsSet}

-- each literal of the trail is one of A or follows
pub record IsBase (F : List (List ℕ)) (A : List ℕ) (steps : List SetLiteral) : Type 0 where
  pub reasons : AreReasons F A steps
  pub chosen : (i : ℕ) → i < length steps → reason_at steps i ≢ Free

-- the old trail is the front of the new one
pub record IsFront (old new : List SetLiteral) : Type 0 where
  pub longer : length old ≤ length new
  pub front : take (length old) new ≡ old

abbrev pub AreSet : List ℕ → List Bool → Type 0
AreSet A truth = (l : ℕ) → Contains A l → IsSet truth l

abbrev pub AssumeSays : List (List ℕ) → List ℕ → List SetLiteral → List SetLiteral → List Bool → Bool → Type 0
AssumeSays F A old new truth true = Refuted F A × IsFront old new
AssumeSays F A old new truth false = IsBase F A new × AreSet A truth × IsFront old new
