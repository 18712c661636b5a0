-- Lists of clauses as sets: what propagates, follows or is new doesn't ask for their order, or how often one stands there.
use Rattle.std.specs.Prelude.{ℕ, ◌≡◌, ◌<◌, List, length}
use Rattle.sat_clause.specs.Propagation.{clause_at}

-- each clause of F is one of G
abbrev pub HasAll : List (List ℕ) → List (List ℕ) → Type 0
HasAll G F = (i : ℕ) → i < length F → (j : ℕ) × (j < length G) × (clause_at G j ≡ clause_at F i)

-- F and G have the same clauses
pub record SameClauses (F G : List (List ℕ)) : Type 0 where
  pub first : HasAll F G
  pub second : HasAll G F
