-- What an answer about clauses says.
use Rattle.std.specs.Prelude.{ℕ, ◌≡◌, ◌+◌, ◌-◌, ◌<◌, ◌≤◌, ◌++◌, ◌∷◌, List, [], length, Bool, true, false, IsTrue}
use Rattle.sat_clause.specs.Literals.{AreBelow, ClausesAreBelow, MeetsAll, clause_holds, truths}
use Rattle.sat_clause.specs.Propagation.{Spent}
use Rattle.proof_checker.specs.Checking.{IsLearnt, IsRefutation}
use Rattle.sat_query.specs.declared.asking.Asked.{Asked}
use Rattle.sat_query.specs.declared.asking.Asked.TheVariants.{Sat, Unsat, Spent as SpentWith, Stopped}

-- the assignment has a value for each variable of the clause, and meets it
pub record IsClauseMet (c : List ℕ) (a : List Bool) : Type 0 where
  pub over : AreBelow (length a) c
  pub holds : IsTrue (clause_holds (truths a) c)

-- the assignment has a value for each variable of the clauses, and meets them
pub record IsMet (F : List (List ℕ)) (a : List Bool) : Type 0 where
  pub over : ClausesAreBelow (length a) F
  pub clauses : MeetsAll (truths a) F

-- no assignment meets the clauses
abbrev pub NoneMeets : List (List ℕ) → Type 0
NoneMeets F = (A : ℕ → Bool) → MeetsAll A F → ⊥

-- the log refutes the clauses, and with a budget has at most that many clauses before the empty one, which stands at its
-- end and nowhere else: each clause before it follows from those before that one, and is not empty, and where the
-- clauses are over n variables, they are all new
pub record IsShort (n : ℕ) (F : List (List ℕ)) (budget : ℕ) (log : List (List ℕ)) : Type 0 where
  pub refutes : IsRefutation F log
  pub within : 0 < budget → length log ≤ budget + 1
  pub before : List (List ℕ)
  pub ends : log ≡ before ++ [] ∷ []
  pub learnt : IsLearnt F before (length before)
  pub new : ClausesAreBelow n F → Spent n F (length before) before

-- the log has as many clauses as the budget, each follows from those before it, and none is empty; where the clauses
-- are over n variables, those of the log are all new
pub record IsSpent (n : ℕ) (F : List (List ℕ)) (budget : ℕ) (log : List (List ℕ)) : Type 0 where
  pub limited : 0 < budget
  pub learnt : IsLearnt F log budget
  pub spent : ClausesAreBelow n F → Spent n F budget log

abbrev pub AskedSays : ℕ → List (List ℕ) → ℕ → Asked → Type 0
AskedSays n F budget (Sat a) = IsMet F a
AskedSays n F budget (Unsat log) = NoneMeets F × IsShort n F budget log
AskedSays n F budget (SpentWith log) = IsSpent n F budget log
AskedSays n F budget Stopped = Unit {0}

-- the answer is what evaluating its assignment, or checking its log, confirms
abbrev pub IsConfirmed : List (List ℕ) → ℕ → Asked → Type 0
IsConfirmed F budget (Sat a) = IsMet F a
IsConfirmed F budget (Unsat log) = IsRefutation F log
IsConfirmed F budget (SpentWith log) = IsLearnt F log budget
IsConfirmed F budget Stopped = Unit {0}

abbrev pub is_stopped : Asked → Bool
is_stopped Stopped = true
is_stopped (Sat a) = false
is_stopped (Unsat log) = false
is_stopped (SpentWith log) = false

-- how many clauses of the answer's log were learnt
abbrev pub shown_learnt : Asked → ℕ
shown_learnt (Sat a) = 0
shown_learnt (Unsat log) = length log - 1
shown_learnt (SpentWith log) = length log
shown_learnt Stopped = 0
