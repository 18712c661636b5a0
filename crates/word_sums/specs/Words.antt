-- Words of literals, lowest bit first, and their numbers. Sections are those of ISO/IEC 9899:2011.
use Rattle.std.specs.Prelude.{ℕ, ◌+◌, ◌*◌, ◌^◌, Bool, true, false, List, [], ◌∷◌, length, ℤ, pos, ◌-ℤ◌}
use Rattle.std.specs.List.{All}
use Rattle.kv_num.specs.Shape.{wrap_at}
use Rattle.sat_clause.specs.Literals.{is_true}
use Rattle.gate_core.specs.declared.gate.Gate.{Gate}
use Rattle.gate_core.specs.Table.{IsLitOf}

abbrev pub bit : Bool → ℕ
bit true = 1
bit false = 0

-- the number that the bits of a word make without a sign, where A gives each variable's truth
abbrev pub number : (ℕ → Bool) → List ℕ → ℕ
number A [] = 0
number A (l ∷ ls) = bit (is_true A l) + 2 * number A ls

-- the number of a word with or without a sign: the one of that width and signedness that has these bits (6.2.6.2)
unfoldable pub word_value : (ℕ → Bool) → Bool → List ℕ → ℤ
word_value A signed w = wrap_at (length w) signed (pos (number A w))

-- the number of a word that one literal continues above its top, without end (6.2.6.2)
abbrev pub continued_value : (ℕ → Bool) → ℕ → List ℕ → ℤ
continued_value A l w = pos (number A w) -ℤ pos (2 ^ length w * bit (is_true A l))

-- a number from its sign and its absolute value
abbrev pub signed_number : Bool → ℕ → ℤ
signed_number true n = pos 0 -ℤ pos n
signed_number false n = pos n

-- each literal is one of the table's
abbrev pub IsWordOf : List Gate → List ℕ → Type 0
IsWordOf gs ls = All (IsLitOf gs) ls
