use Rattle.std.specs.Prelude.{ℕ, ◌≡◌, ◌<◌, ◌++◌, ◌∷◌, List, [], length, take, false}
use Rattle.sat_clause.specs.Propagation.{clause_at, Conflict}
use Rattle.sat_engine.specs.Look.{AreFalse}
use Rattle.sat_engine.specs.declared.trail.SetLiteral.{SetLiteral}
use Rattle.sat_search.specs.Choice.{IsChoiceAt}
use Rattle.sat_search.specs.declared.parts.Parts.{Parts}
use Rattle.sat_search.specs.declared.once.Once.{Once}
use Rattle.sat_search.specs.declared.once.Once.TheVariants.{Refuted, Learnt, Flipped, Again}
use Rattle.sat_search.specs.State.{is_choice, IsReady, IsNew}

-- the clauses, and what is left as it was
pub record IsSame (p q : Parts) : Type 0 where
  pub size : length q.trail.truth.items ≡ length p.trail.truth.items

-- a choice gave way to an implied literal
pub record IsFlip (old new : List SetLiteral) : Type 0 where
  pub cut : ℕ
  pub within : cut < length old
  pub choice : IsChoiceAt old cut
  pub step : SetLiteral
  pub implied : is_choice step.reason ≡ false
  pub is : new ≡ take cut old ++ step ∷ []

abbrev pub OnceSays : List ℕ → Parts → Parts → Once → Type 0
OnceSays A p q Refuted = Conflict p.store A × IsReady A q × IsSame p q × (q.store ≡ p.store)
OnceSays A p q Learnt = IsReady A q × (length q.trail.truth.items ≡ length p.trail.truth.items) × ((c : List ℕ) × (q.store ≡ p.store ++ c ∷ []) × IsNew p.store (length p.trail.truth.items) c)
OnceSays A p q Flipped = IsReady A q × (length q.trail.truth.items ≡ length p.trail.truth.items) × (q.store ≡ p.store) × IsFlip p.trail.steps.items q.trail.steps.items
OnceSays A p q (Again n) = IsReady A q × IsSame p q × (q.store ≡ p.store) × (n < length q.store) × AreFalse (clause_at q.store n) q.trail.truth.items × (length q.trail.steps.items < length p.trail.steps.items) × (q.trail.steps.items ≡ take (length q.trail.steps.items) p.trail.steps.items)

abbrev pub IsDone : Once → Type 0
IsDone Refuted = Unit {0}
IsDone Learnt = Unit {0}
IsDone Flipped = Unit {0}
IsDone (Again n) = ⊥
