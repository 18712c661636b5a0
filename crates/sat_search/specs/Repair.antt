use Rattle.std.specs.Prelude.{ℕ, ◌≡◌, ◌+◌, ◌-◌, ◌/◌, ◌<◌, ◌≤◌, List, length, take, slice_index, Bool, Option, None, Some}
use Rattle.std.specs.List.{Contains}
use Rattle.sat_clause.specs.Literals.{complement_of}
use Rattle.sat_clause.specs.Propagation.{clause_at, Conflict, Follows, HasComplements}
use Rattle.sat_engine.specs.declared.trail.SetLiteral.{SetLiteral}
use Rattle.sat_engine.specs.Trail.{lit_at, IsSet}
use Rattle.sat_engine.specs.Look.{InRange, AreFalseBut}
use Rattle.sat_search.specs.declared.repair.Spot.{Spot}
use Rattle.sat_search.specs.Choice.{IsChoiceAt, NoChoice}

-- the first choice from `start` on that stands after all of the clause's literals but the last, or the end
pub record IsBack (steps : List SetLiteral) (place : List ℕ) (start : ℕ) (c : List ℕ) (to : ℕ) : Type 0 where
  pub start_le : start ≤ to
  pub within : to ≤ length steps
  pub choice : to < length steps → IsChoiceAt steps to
  pub low : (k : ℕ) → k + 1 < length c → slice_index place (slice_index c k / 2) < to
  pub first : (f : ℕ) → start ≤ f → f < length steps → IsChoiceAt steps f → ((k : ℕ) → k + 1 < length c → slice_index place (slice_index c k / 2) < f) → to ≤ f

pub record IsSpot (F : List (List ℕ)) (steps : List SetLiteral) (place : List ℕ) (start n : ℕ) (s : Spot) : Type 0 where
  pub start_le : start ≤ s.floor
  pub floor : s.floor ≤ s.top
  pub top : s.top < length steps
  pub choice : IsChoiceAt steps s.floor
  pub none : NoChoice steps (s.floor + 1) (s.top + 1)
  pub last : Contains (clause_at F n) (complement_of (lit_at steps s.top))
  pub until : (m : ℕ) → Contains (clause_at F n) m → slice_index place (m / 2) ≤ s.top

abbrev pub IsFound : List (List ℕ) → List ℕ → List SetLiteral → List ℕ → ℕ → ℕ → Option Spot → Type 0
IsFound F A steps place start n None = Conflict F A
IsFound F A steps place start n (Some s) = IsSpot F steps place start n s

-- the clause follows from F; the trail was cut at a choice, where all of the clause but its last literal is false, and that one is open
pub record IsJump (F : List (List ℕ)) (old new : List SetLiteral) (truth : List Bool) (start : ℕ) (c : List ℕ) : Type 0 where
  pub follows : Follows F c
  pub some : 0 < length c
  pub range : InRange c (length truth)
  pub apart : HasComplements c → ⊥
  pub cut : ℕ
  pub start_le : start ≤ cut
  pub within : cut < length old
  pub choice : IsChoiceAt old cut
  pub is : new ≡ take cut old
  pub unset : IsSet truth (slice_index c (length c - 1)) → ⊥
  pub not_false : IsSet truth (complement_of (slice_index c (length c - 1))) → ⊥
  pub others : AreFalseBut c truth (slice_index c (length c - 1))
