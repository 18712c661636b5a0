-- What a checker holds.
use Rattle.std.specs.Prelude.{ℕ, List, Bool}

-- the clauses added and learnt, in this order, and whether the checker was refused memory
pub record Known : Type 0 where
  pub clauses : List (List ℕ)
  pub refused : Bool
