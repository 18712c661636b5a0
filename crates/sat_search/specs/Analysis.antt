use Rattle.std.specs.Prelude.{ℕ, ◌≡◌, ◌≢◌, ◌*◌, ◌/◌, ◌<◌, ◌≤◌, ◌⊎◌, List, [], ◌∷◌, ◌++◌, length, slice_index, Bool, Option, None, Some}
use Rattle.std.specs.List.{Contains}
use Rattle.sat_clause.specs.Literals.{complement_of}
use Rattle.sat_clause.specs.Propagation.{clause_at, Derived, Conflict, Follows}
use Rattle.sat_engine.specs.declared.trail.Reason.TheVariants.{Clause}
use Rattle.sat_engine.specs.declared.trail.SetLiteral.{SetLiteral}
use Rattle.sat_engine.specs.Trail.{IsSet, IsTrail, lit_at, reason_at}
use Rattle.sat_engine.specs.Look.{AreInRange}
use Rattle.sat_engine.specs.Grow.{IsImplied}
use Rattle.sat_search.specs.Mark.{IsMarkedAt, IsNext}

-- what holds where a conflict is analyzed: the choice at `floor` is the last, and what stands before `start` follows from nothing
pub record IsSite (F : List (List ℕ)) (steps : List SetLiteral) (truth : List Bool) (place : List ℕ) (start floor : ℕ) : Type 0 where
  pub trail : IsTrail steps truth place
  pub range : AreInRange F (length truth)
  pub facts : (q : ℕ) → IsSet truth q → slice_index place (q / 2) < start → Derived F [] q
  pub implied : (i : ℕ) → floor < i → i < length steps → IsImplied F steps i (reason_at steps i)
  pub reasons : (i n : ℕ) → i < length steps → reason_at steps i ≡ Clause n → IsImplied F steps i (Clause n)

-- the marked literals are refuted together, and those before `floor` are listed
pub record IsMarked (F : List (List ℕ)) (truth : List Bool) (place : List ℕ) (floor top : ℕ) (marks : List Bool) (low : List ℕ) : Type 0 where
  pub refutes : (A : List ℕ) → ((q : ℕ) → IsSet truth q → IsSet marks (q / 2) → Derived F A q) → Conflict F A
  pub below : (q : ℕ) → IsSet truth q → IsSet marks (q / 2) → slice_index place (q / 2) < top
  pub low_has : (q : ℕ) → IsSet truth q → IsSet marks (q / 2) → slice_index place (q / 2) < floor → Contains low (complement_of q)
  pub low_false : (l : ℕ) → Contains low l → IsSet truth (complement_of l)
  pub low_below : (l : ℕ) → Contains low l → slice_index place (l / 2) < floor
  pub room : length truth ≤ 2 * length marks
  pub only : (v : ℕ) → IsSet marks v → (q : ℕ) × (q / 2 ≡ v) × IsSet truth q

-- each of the first k literals of a clause but `skip` is marked, or was set before `start`
abbrev pub AreCovered : List ℕ → ℕ → List ℕ → ℕ → List Bool → ℕ → Type 0
AreCovered c k place start marks skip = (i : ℕ) → i < k → slice_index c i ≢ skip → IsSet marks (slice_index c i / 2) ⊎ (slice_index place (slice_index c i / 2) < start)

-- the literal at place i was set true by a clause whose other literals are covered
abbrev pub IsRedundant : List (List ℕ) → List SetLiteral → List ℕ → ℕ → List Bool → ℕ → Type 0
IsRedundant F steps place start marks i = (n : ℕ) × IsImplied F steps i (Clause n) × AreCovered (clause_at F n) (length (clause_at F n)) place start marks (lit_at steps i)

-- a further marked place from `floor` on
abbrev pub IsWitness : List SetLiteral → List Bool → ℕ → ℕ → Option ℕ → Type 0
IsWitness steps marks floor at None = IsNext steps marks floor at None
IsWitness steps marks floor at (Some w) = (floor ≤ w) × (w < at) × IsMarkedAt steps marks w

-- the clause follows, is false, and has one literal that was set from `floor` on, its last
pub record IsLearnt (F : List (List ℕ)) (truth : List Bool) (place : List ℕ) (floor : ℕ) (c : List ℕ) : Type 0 where
  pub follows : Follows F c
  pub low : List ℕ
  pub uip : ℕ
  pub is : c ≡ low ++ complement_of uip ∷ []
  pub uip_set : IsSet truth uip
  pub uip_above : floor ≤ slice_index place (uip / 2)
  pub low_false : (l : ℕ) → Contains low l → IsSet truth (complement_of l)
  pub low_below : (l : ℕ) → Contains low l → slice_index place (l / 2) < floor
