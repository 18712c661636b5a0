-- What clauses say of the truths that meet them.
use Rattle.std.specs.Prelude.{ℕ, ◌≡◌, ◌+◌, ◌<◌, Bool, List, length, slice_index_or}
use Rattle.sat_clause.specs.Literals.{is_true}
use Rattle.gate_core.specs.declared.gate.Gate.{Gate}
use Rattle.gate_core.specs.Table.{gate_at, gate_value}

-- A gives the first n variables of the table the truths that their gates give them
pub record AgreesBelow (A : ℕ → Bool) (gs : List Gate) (n : ℕ) : Type 0 where
  pub at : (i : ℕ) → i < n → A i ≡ gate_value A i (gate_at gs i)

abbrev pub lit_at : List ℕ → ℕ → ℕ
lit_at ls i = slice_index_or ls i 0

-- A gives the first n variables from `first` on the truths of the literals
pub record Copies (A : ℕ → Bool) (first : ℕ) (ls : List ℕ) (n : ℕ) : Type 0 where
  pub at : (i : ℕ) → i < n → A (first + i) ≡ is_true A (lit_at ls i)
