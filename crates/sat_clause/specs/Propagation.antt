-- Unit propagation, and what it shows: that a clause follows from others, and that a budget of learnt clauses is spent.
use Rattle.std.specs.Prelude.{ℕ, ◌≢◌, ◌+◌, ◌<◌, ◌≤◌, ◌⊎◌, List, [], ◌++◌, map, length, take, slice_index_or}
use Rattle.std.specs.List.{Contains}
use Rattle.sat_clause.specs.Literals.{complement_of, AreBelow}

abbrev pub clause_at : List (List ℕ) → ℕ → List ℕ
clause_at F i = slice_index_or F i []

-- l is set true by propagating the literals A over the clauses F: it is given, or each other literal of a clause
-- that has it is set false
pub data Derived (F : List (List ℕ)) (A : List ℕ) : ℕ → Type 0 where
  given : (l : ℕ) → Contains A l → Derived F A l
  unit : (l : ℕ) (i : ℕ) → i < length F → Contains (clause_at F i) l → ((m : ℕ) → Contains (clause_at F i) m → m ≢ l → Derived F A (complement_of m)) → Derived F A l

-- propagating A over F reaches a clause with every literal false
pub record Conflict (F : List (List ℕ)) (A : List ℕ) : Type 0 where
  pub at : ℕ
  pub within : at < length F
  pub all_false : (m : ℕ) → Contains (clause_at F at) m → Derived F A (complement_of m)

abbrev pub HasComplements : List ℕ → Type 0
HasComplements A = (l : ℕ) × Contains A l × Contains A (complement_of l)

-- propagating A over F reaches a clause with every literal false, or two literals of A are complementary
abbrev pub Refuted : List (List ℕ) → List ℕ → Type 0
Refuted F A = Conflict F A ⊎ HasComplements A

-- with every literal of c set false, propagation over F reaches a clause with every literal false, or c has
-- complementary literals
abbrev pub Follows : List (List ℕ) → List ℕ → Type 0
Follows F c = Conflict F (map complement_of c) ⊎ HasComplements c

-- each literal of d stands in c
abbrev pub Includes : List ℕ → List ℕ → Type 0
Includes c d = (l : ℕ) → Contains d l → Contains c l

-- c includes no clause of F
abbrev pub IncludesNone : List (List ℕ) → List ℕ → Type 0
IncludesNone F c = (i : ℕ) → i < length F → Includes c (clause_at F i) → ⊥

-- c is over the variables below n, isn't empty and has no complementary literals
pub record IsProper (n : ℕ) (c : List ℕ) : Type 0 where
  pub below : AreBelow n c
  pub nonempty : c ≢ []
  pub apart : HasComplements c → ⊥

-- The log L shows that a budget of B clauses is spent on the clauses F over n variables: its clauses follow one after
-- another, and each of the last B includes no clause of F and none before it. So the last B are pairwise different,
-- and none is a weakened copy.
pub record Spent (n : ℕ) (F : List (List ℕ)) (B : ℕ) (L : List (List ℕ)) : Type 0 where
  pub enough : B ≤ length L
  pub proper : (i : ℕ) → i < length L → IsProper n (clause_at L i)
  pub follows : (i : ℕ) → i < length L → Follows (F ++ take i L) (clause_at L i)
  pub fresh : (i : ℕ) → i < length L → length L ≤ i + B → IncludesNone (F ++ take i L) (clause_at L i)
