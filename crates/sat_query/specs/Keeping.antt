-- What the answers of a kept solver say.
use Rattle.std.specs.Prelude.{ℕ, ◌≡◌, ◌+◌, ◌<◌, List, length, Bool, true, false}
use Rattle.sat_clause.specs.Literals.{MeetsAll, AreTrue}
use Rattle.sat_clause.specs.Propagation.{Refuted}
use Rattle.sat_core.specs.Solving.{IsMet}
use Rattle.sat_query.specs.declared.kept.KeptAnswer.{KeptAnswer}
use Rattle.sat_query.specs.declared.kept.KeptAnswer.TheVariants.{Sat, Unsat, Spent, Stopped}

-- no assignment meets the clauses F and makes the asked literals true, and propagating these over the clauses G, which
-- are F and what was learnt, shows it
pub record IsRefuted (F G : List (List ℕ)) (asked : List ℕ) : Type 0 where
  pub none_meets : (A : ℕ → Bool) → MeetsAll A F → AreTrue A asked → ⊥
  pub refuted : Refuted G asked

-- the answer about the clauses F over n variables, which are G with what was learnt, where the log was `before` and is
-- `log`
abbrev pub KeptSays : ℕ → List (List ℕ) → List (List ℕ) → List (List ℕ) → List (List ℕ) → List ℕ → ℕ → KeptAnswer → Type 0
KeptSays n F G before log asked budget (Sat a) = IsMet n G asked a
KeptSays n F G before log asked budget Unsat = IsRefuted F G asked
KeptSays n F G before log asked budget (Spent shown) = (0 < budget) × (shown ≡ log) × (length log ≡ length before + budget)
KeptSays n F G before log asked budget Stopped = Unit {0}

abbrev pub is_stopped : KeptAnswer → Bool
is_stopped Stopped = true
is_stopped (Sat a) = false
is_stopped Unsat = false
is_stopped (Spent log) = false
