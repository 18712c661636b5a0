-- What a search over the working parts finds.
use Rattle.std.specs.Prelude.{ℕ, ◌≡◌, ◌+◌, ◌*◌, ◌/◌, ◌<◌, ◌≤◌, List, [], length, take, slice_index_or, Bool, true, false}
use Rattle.std.specs.List.{Contains}
use Rattle.sat_clause.specs.Propagation.{clause_at, Conflict, Refuted}
use Rattle.sat_engine.specs.Trail.{IsSet}
use Rattle.sat_engine.specs.Look.{InRange}
use Rattle.sat_search.specs.declared.parts.Parts.{Parts}
use Rattle.sat_search.specs.State.{IsReady, IsNew}
use Rattle.sat_search.specs.Turn.{HasTrue}
use Rattle.sat_core.specs.declared.find.Found.{Found}
use Rattle.sat_core.specs.declared.find.Found.TheVariants.{Sat, Unsat, Spent, Stopped}

-- G has the clauses of F and then others, each of which follows from those before it and includes none of them
pub record IsGrown (F G : List (List ℕ)) (n : ℕ) : Type 0 where
  pub longer : length F ≤ length G
  pub front : take (length F) G ≡ F
  pub new : (j : ℕ) → length F ≤ j → j < length G → IsNew (take j G) n (clause_at G j)

abbrev pub Finds : List ℕ → Parts → Parts → ℕ → Found → Type 0
Finds A p q budget Sat = ((i : ℕ) → i < length q.store → HasTrue (clause_at q.store i) q.trail.truth.items) × ((a : ℕ) → Contains A a → IsSet q.trail.truth.items a)
Finds A p q budget Unsat = Refuted q.store A
Finds A p q budget Spent = (0 < budget) × (length q.store ≡ length p.store + budget)
Finds A p q budget Stopped = Unit {0}

pub record FoundSays (A : List ℕ) (p q : Parts) (budget : ℕ) (found : Found) : Type 0 where
  pub ready : IsReady A q
  pub grown : IsGrown p.store q.store (length p.trail.truth.items)
  pub size : length q.trail.truth.items ≡ length p.trail.truth.items
  pub within : 0 < budget → length q.store ≤ length p.store + budget
  pub answer : Finds A p q budget found

-- the parts between two calls: nothing is set but what follows from the clauses alone
pub record IsIdle (p : Parts) : Type 0 where
  pub ready : IsReady [] p
  pub idle : length p.trail.steps.items ≡ p.start

-- the parts, and whether the clauses are refuted already
abbrev pub IsKept : Parts → Bool → Type 0
IsKept p refuted = (refuted ≡ true → Conflict p.store []) × (refuted ≡ false → IsIdle p)

abbrev pub is_stopped : Found → Bool
is_stopped Stopped = true
is_stopped Sat = false
is_stopped Unsat = false
is_stopped Spent = false

-- there is room for literals, and for no more variables than they need
pub record AreWider (lits : List ℕ) (old new : ℕ) : Type 0 where
  pub longer : old ≤ new
  pub room : InRange lits new
  pub least : (m : ℕ) → old ≤ 2 * m → InRange lits (2 * m) → new ≤ 2 * m

-- the truth of each variable
pub record TellsTruth (truth a : List Bool) : Type 0 where
  pub size : length a ≡ length truth / 2
  pub each : (v : ℕ) → v < length a → slice_index_or a v false ≡ slice_index_or truth (2 * v) false
