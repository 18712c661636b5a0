-- The blocks of an unwinding. Block i has the template's clauses with each variable moved by i strides,
-- so that the last `state` variables of a block are the first of the next.
use Rattle.std.specs.Prelude.{ℕ, ◌+◌, ◌-◌, ◌*◌, List, map}
use Rattle.sat_clause.specs.Literals.{moved}
use Rattle.kv_clause.specs.declared.template.Template.{Template}
use Rattle.kv_clause.specs.declared.block.Block.{Block}

abbrev pub stride : Template → ℕ
stride T = T.vars - T.state

-- what a variable and a literal of the template are in block i
abbrev pub variable_in : Template → ℕ → ℕ → ℕ
variable_in T i v = v + i * stride T

abbrev pub literal_in : Template → ℕ → ℕ → ℕ
literal_in T i l = moved (i * stride T) l

abbrev pub clauses_in : Template → ℕ → List (List ℕ) → List (List ℕ)
clauses_in T i cs = map (λ c. map (literal_in T i) c) cs

abbrev pub block_of : Template → ℕ → List (List ℕ)
block_of T i = clauses_in T i T.clauses

abbrev pub block_at : Template → ℕ → Block
block_at T i = record { index = i; clauses = block_of T i }
