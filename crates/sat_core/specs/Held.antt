-- What a solver holds.
use Rattle.std.specs.Prelude.{ℕ, List, Bool}

-- the clauses added and learnt, in this order; those learnt; the number of variables that it has room for; and whether
-- it was refused memory
pub record Held : Type 0 where
  pub clauses : List (List ℕ)
  pub log : List (List ℕ)
  pub vars : ℕ
  pub refused : Bool
