-- What a call of a solver learns, and what its answer says.
use Rattle.std.specs.Prelude.{ℕ, ◌≡◌, ◌+◌, ◌<◌, ◌≤◌, ◌++◌, List, length, drop, take, Bool, true, false}
use Rattle.sat_clause.specs.Literals.{AreBelow, ClausesAreBelow, MeetsAll, AreTrue, truths}
use Rattle.sat_clause.specs.Propagation.{clause_at, Follows, Refuted, IncludesNone, IsProper}
use Rattle.sat_core.specs.Finding.{TellsTruth}
use Rattle.sat_core.specs.Held.{Held}
use Rattle.sat_core.specs.declared.find.Found.{Found}
use Rattle.sat_core.specs.declared.find.Found.TheVariants.{Sat as Met, Unsat as Refutes, Spent as Ended, Stopped as Halted}
use Rattle.sat_core.specs.declared.solver.Answer.{Answer}
use Rattle.sat_core.specs.declared.solver.Answer.TheVariants.{Sat, Unsat, Spent, Stopped}

-- the clause is over n variables, follows from F by unit propagation, and includes no clause of F
pub record IsNew (n : ℕ) (F : List (List ℕ)) (c : List ℕ) : Type 0 where
  pub proper : IsProper n c
  pub follows : Follows F c
  pub fresh : IncludesNone F c

-- G is F and then clauses that are new one after another
pub record IsLearnt (n : ℕ) (F G : List (List ℕ)) : Type 0 where
  pub longer : length F ≤ length G
  pub front : take (length F) G ≡ F
  pub new : (i : ℕ) → length F ≤ i → i < length G → IsNew n (take i G) (clause_at G i)

-- a call with a budget, none where it is 0, learnt clauses: they are put after the clauses, and at the end of the log
pub record Learns (old new : Held) (budget : ℕ) : Type 0 where
  pub learnt : IsLearnt new.vars old.clauses new.clauses
  pub log : new.log ≡ old.log ++ drop (length old.clauses) new.clauses
  pub within : 0 < budget → length new.clauses ≤ length old.clauses + budget

-- there is room for further variables, and for no more than the literals have
pub record IsRoom (lits : List ℕ) (old new : ℕ) : Type 0 where
  pub longer : old ≤ new
  pub least : (n : ℕ) → old ≤ n → AreBelow n lits → new ≤ n

-- the assignment of n variables meets the clauses, and the assumed literals are true
pub record IsMet (n : ℕ) (F : List (List ℕ)) (assumed : List ℕ) (a : List Bool) : Type 0 where
  pub size : length a ≡ n
  pub over : ClausesAreBelow n F
  pub clauses : MeetsAll (truths a) F
  pub literals : AreTrue (truths a) assumed

-- the answer about the clauses F, which are G with what was learnt
abbrev pub AnswerSays : ℕ → List (List ℕ) → List (List ℕ) → List ℕ → ℕ → Answer → Type 0
AnswerSays n F G assumed budget (Sat a) = IsMet n G assumed a
AnswerSays n F G assumed budget Unsat = Refuted G assumed × ((A : ℕ → Bool) → MeetsAll A F → AreTrue A assumed → ⊥)
AnswerSays n F G assumed budget Spent = (0 < budget) × (length G ≡ length F + budget)
AnswerSays n F G assumed budget Stopped = Unit {0}

abbrev pub is_stopped : Answer → Bool
is_stopped Stopped = true
is_stopped (Sat a) = false
is_stopped Unsat = false
is_stopped Spent = false

-- the answer for what a search found
abbrev pub IsAnswer : List Bool → Found → Answer → Type 0
IsAnswer truth Met answer = (a : List Bool) × (answer ≡ Sat a) × TellsTruth truth a
IsAnswer truth Refutes answer = answer ≡ Unsat
IsAnswer truth Ended answer = answer ≡ Spent
IsAnswer truth Halted answer = answer ≡ Stopped
