-- What a kept solver over the blocks of a template holds, and what its answers say of a query.
use Rattle.std.specs.Prelude.{ℕ, zero, suc, ◌≡◌, ◌+◌, ◌<◌, ◌≤◌, ◌++◌, List, [], length, Bool, true, false, if◌then◌else◌}
use Rattle.sat_clause.specs.Literals.{MeetsAll, truths}
use Rattle.sat_clause.specs.Propagation.{Refuted, Spent}
use Rattle.sat_clause.specs.Sets.{SameClauses}
use Rattle.kv_clause.specs.declared.template.Template.{Template}
use Rattle.kv_clause.specs.declared.query.Query.{Query}
use Rattle.kv_clause.specs.declared.query.Query.TheVariants.{Base, Forward, Step, First, Induct, Closing}
use Rattle.kv_clause.specs.Queries.{blocks_of, blocks_in, vars_of, fixed, asked, query, SpentAt}
use Rattle.sat_core.specs.Held.{Held}
use Rattle.sat_core.specs.Solving.{IsLearnt}
use Rattle.sat_query.specs.declared.kept.KeptAnswer.{KeptAnswer}
use Rattle.sat_query.specs.declared.kept.KeptAnswer.TheVariants.{Sat, Unsat, Spent as SpentWith, Stopped}
use Rattle.sat_query.specs.HeldBlocks.{HeldBlocks}

-- the query begins at the start, or at a head, and says nothing of a set of bounds
abbrev pub BeginsAt : Bool → Query → Type 0
BeginsAt from_start (Base k) = from_start ≡ true
BeginsAt from_start (Forward k) = from_start ≡ true
BeginsAt from_start (Step k under) = from_start ≡ false
BeginsAt from_start (First round bs) = ⊥
BeginsAt from_start (Induct round bs) = ⊥
BeginsAt from_start (Closing k under) = from_start ≡ false

abbrev pub first_of : Template → Bool → List (List ℕ)
first_of T from_start = if from_start then T.start else T.head

-- the start or head clauses, and those of the first k blocks
abbrev pub held_of : Template → Bool → ℕ → List (List ℕ)
held_of T from_start k = first_of T from_start ++ blocks_of T k

-- the solver has these clauses and its log, in some order; the log's clauses follow one after another; and it has room
-- for no more variables than the blocks have
pub record HoldsBlocks (T : Template) (from_start : Bool) (k : ℕ) (solver : Held) : Type 0 where
  pub clauses : SameClauses solver.clauses (held_of T from_start k ++ solver.log)
  pub log : (n : ℕ) → 1 ≤ n → k ≤ n → Spent (vars_of T n) (held_of T from_start k) 0 solver.log
  pub vars : (n : ℕ) → 1 ≤ n → k ≤ n → solver.vars ≤ vars_of T n

pub record IsEmpty (solver : Held) : Type 0 where
  pub clauses : solver.clauses ≡ []
  pub log : solver.log ≡ []
  pub vars : solver.vars ≡ 0

-- before the first question it holds no block
abbrev pub Holds : Template → Bool → ℕ → Held → Type 0
Holds T from_start zero solver = IsEmpty solver
Holds T from_start (suc k) solver = HoldsBlocks T from_start (suc k) solver

-- it was only asked about blocks of this template, unless it was refused memory
abbrev pub IsOver : Template → HeldBlocks → Type 0
IsOver T held = held.refused ≡ false → Holds T held.from_start held.blocks held.solver

-- a call with a budget, none where it is 0, learnt clauses, which are put at the end of the log: each is new among the
-- fixed clauses of the query and those of the log before it
pub record LearnsOver (T : Template) (q : Query) (old new : List (List ℕ)) (budget : ℕ) : Type 0 where
  pub learnt : IsLearnt (vars_of T (blocks_in q)) (fixed T q ++ old) (fixed T q ++ new)
  pub within : 0 < budget → length new ≤ length old + budget

-- the assignment has a value for each variable of the query's blocks, and meets the query
pub record MeetsQuery (T : Template) (q : Query) (a : List Bool) : Type 0 where
  pub size : length a ≡ vars_of T (blocks_in q)
  pub query : MeetsAll (truths a) (query T q)

-- no assignment meets the query, and propagating its asked literals over its fixed clauses and the log shows it
pub record RefutesQuery (T : Template) (q : Query) (log : List (List ℕ)) : Type 0 where
  pub none_meets : (A : ℕ → Bool) → MeetsAll A (query T q) → ⊥
  pub refuted : Refuted (fixed T q ++ log) (asked T q)

-- the log grew by the budget, which is spent on the fixed clauses of the query
pub record SpendsQuery (T : Template) (q : Query) (old new : List (List ℕ)) (budget : ℕ) : Type 0 where
  pub limited : 0 < budget
  pub grown : length new ≡ length old + budget
  pub spent : SpentAt T q budget new

-- the answer about the query, where the log was `old` and is `new`
abbrev pub BlocksSay : Template → Query → List (List ℕ) → List (List ℕ) → ℕ → KeptAnswer → Type 0
BlocksSay T q old new budget (Sat a) = MeetsQuery T q a
BlocksSay T q old new budget Unsat = RefutesQuery T q new
BlocksSay T q old new budget (SpentWith log) = (log ≡ new) × SpendsQuery T q old new budget
BlocksSay T q old new budget Stopped = Unit {0}

-- the same answer, with an assignment of n variables where it had no more
abbrev pub IsFilled : ℕ → KeptAnswer → KeptAnswer → Type 0
IsFilled n (Sat a) made = (b : List Bool) × (made ≡ Sat b) × (length a ≤ n → length b ≡ n) × ((v : ℕ) → truths b v ≡ truths a v)
IsFilled n Unsat made = made ≡ Unsat
IsFilled n (SpentWith log) made = made ≡ SpentWith log
IsFilled n Stopped made = made ≡ Stopped
