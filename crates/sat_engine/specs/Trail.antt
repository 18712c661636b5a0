use Rattle.std.specs.Prelude.{ℕ, ◌≡◌, ◌≢◌, ◌*◌, ◌/◌, ◌%◌, ◌<◌, ◌≤◌, List, length, slice_index_or, Bool, true, false}
use Rattle.std.specs.List.{Contains}
use Rattle.sat_clause.specs.Propagation.{clause_at}
use Rattle.sat_clause.specs.Literals.{complement_of}
use Rattle.sat_engine.specs.declared.trail.Reason.{Reason}
use Rattle.sat_engine.specs.declared.trail.Reason.TheVariants.{Free, Assumed, Clause}
use Rattle.sat_engine.specs.declared.trail.SetLiteral.{SetLiteral}

abbrev pub none_step : SetLiteral
none_step = record { lit = 0; reason = Free }

-- the literal and the reason at a place of the trail
abbrev pub lit_at : List SetLiteral → ℕ → ℕ
lit_at steps i = (slice_index_or steps i none_step).lit

abbrev pub reason_at : List SetLiteral → ℕ → Reason
reason_at steps i = (slice_index_or steps i none_step).reason

abbrev pub IsSet : List Bool → ℕ → Type 0
IsSet truth l = slice_index_or truth l false ≡ true

-- `truth` says which literals stand in the trail, and `place` where
pub record IsTrail (steps : List SetLiteral) (truth : List Bool) (place : List ℕ) : Type 0 where
  pub even : length truth % 2 ≡ 0
  pub wide : length truth ≤ 2 * length place
  pub on : (i : ℕ) → i < length steps → (lit_at steps i < length truth) × IsSet truth (lit_at steps i) × (slice_index_or place (lit_at steps i / 2) 0 ≡ i)
  pub found : (l : ℕ) → IsSet truth l → (slice_index_or place (l / 2) 0 < length steps) × (lit_at steps (slice_index_or place (l / 2) 0) ≡ l)

-- the literal stands before place i
abbrev pub Before : List SetLiteral → ℕ → ℕ → Type 0
Before steps i l = (j : ℕ) × (j < i) × (lit_at steps j ≡ l)

-- why the literal at i is true: by choice, by assumption, or by a clause whose other literals are false before it
abbrev pub IsReason : List (List ℕ) → List ℕ → List SetLiteral → ℕ → Reason → Type 0
IsReason F A steps i Free = Unit {0}
IsReason F A steps i Assumed = Contains A (lit_at steps i)
IsReason F A steps i (Clause n) = (n < length F) × Contains (clause_at F n) (lit_at steps i) × ((m : ℕ) → Contains (clause_at F n) m → m ≢ lit_at steps i → Before steps i (complement_of m))

abbrev pub AreReasons : List (List ℕ) → List ℕ → List SetLiteral → Type 0
AreReasons F A steps = (i : ℕ) → i < length steps → IsReason F A steps i (reason_at steps i)
