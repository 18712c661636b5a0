use Rattle.std.specs.Prelude.{ℕ, ◌≡◌, ◌<◌, ◌++◌, ◌∷◌, List, [], length, Bool}
use Rattle.std.specs.List.{Contains}
use Rattle.sat_clause.specs.Propagation.{clause_at, Refuted}
use Rattle.sat_search.specs.Rank.{rank}
use Rattle.sat_engine.specs.Trail.{IsSet}
use Rattle.sat_search.specs.declared.parts.Parts.{Parts}
use Rattle.sat_search.specs.declared.turn.Turn.{Turn}
use Rattle.sat_search.specs.declared.turn.Turn.TheVariants.{Met, Refuted as Failed, Learnt, Moved}
use Rattle.sat_search.specs.State.{word, IsReady, IsNew}

abbrev pub HasTrue : List ℕ → List Bool → Type 0
HasTrue c truth = (m : ℕ) × Contains c m × IsSet truth m

abbrev pub TurnSays : List ℕ → Parts → Parts → Turn → Type 0
TurnSays A p q Met = (q.store ≡ p.store) × IsReady A q × (length q.trail.truth.items ≡ length p.trail.truth.items) × ((i : ℕ) → i < length q.store → HasTrue (clause_at q.store i) q.trail.truth.items) × ((a : ℕ) → Contains A a → IsSet q.trail.truth.items a)
TurnSays A p q Failed = (q.store ≡ p.store) × IsReady A q × (length q.trail.truth.items ≡ length p.trail.truth.items) × Refuted q.store A
TurnSays A p q Learnt = IsReady A q × (length q.trail.truth.items ≡ length p.trail.truth.items) × ((c : List ℕ) × (q.store ≡ p.store ++ c ∷ []) × IsNew p.store (length p.trail.truth.items) c)
TurnSays A p q Moved = IsReady A q × (length q.trail.truth.items ≡ length p.trail.truth.items) × (q.store ≡ p.store) × (rank (length p.trail.truth.items) (word q.trail.steps.items) < rank (length p.trail.truth.items) (word p.trail.steps.items))
