-- What a log of clauses L shows over the clauses F.
use Rattle.std.specs.Prelude.{ℕ, ◌≡◌, ◌≢◌, ◌<◌, ◌++◌, List, [], length, take}
use Rattle.sat_clause.specs.Propagation.{clause_at, Follows}
use Rattle.proof_checker.specs.declared.verdict.Checked.{Checked}
use Rattle.proof_checker.specs.declared.verdict.Checked.TheVariants.{Refutes, Learns, Bad}

-- step i of the log follows from F and the steps before it
abbrev pub StepFollows : List (List ℕ) → List (List ℕ) → ℕ → Type 0
StepFollows F L i = Follows (F ++ take i L) (clause_at L i)

abbrev pub FollowsTo : List (List ℕ) → List (List ℕ) → ℕ → Type 0
FollowsTo F L n = (i : ℕ) → i < n → StepFollows F L i

-- no step before n is empty
abbrev pub NoneEmptyTo : List (List ℕ) → ℕ → Type 0
NoneEmptyTo L n = (i : ℕ) → i < n → clause_at L i ≢ []

-- the empty clause stands in the log, first at `at`, and every step up to it follows
pub record IsRefutation (F L : List (List ℕ)) : Type 0 where
  pub at : ℕ
  pub within : at < length L
  pub empty : clause_at L at ≡ []
  pub first : NoneEmptyTo L at
  pub before : FollowsTo F L at
  pub follows : StepFollows F L at

-- the log has n steps, all of them follow, and none is empty
pub record IsLearnt (F L : List (List ℕ)) (n : ℕ) : Type 0 where
  pub whole : n ≡ length L
  pub follow : FollowsTo F L n
  pub nonempty : NoneEmptyTo L n

-- step n of the log is the first that doesn't follow
pub record IsFirstBad (F L : List (List ℕ)) (n : ℕ) : Type 0 where
  pub within : n < length L
  pub before : FollowsTo F L n
  pub fails : StepFollows F L n → ⊥

abbrev pub CheckSays : List (List ℕ) → List (List ℕ) → Checked → Type 0
CheckSays F L Refutes = IsRefutation F L
CheckSays F L (Learns n) = IsLearnt F L n
CheckSays F L (Bad n) = IsFirstBad F L n
