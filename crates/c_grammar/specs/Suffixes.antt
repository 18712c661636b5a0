-- The level of an operand with a suffix.
use Rattle.std.specs.Prelude.{ℕ}
use Rattle.c_tree.specs.Signs.{level}
use Rattle.c_grammar.specs.Kinds.{Suffix, Infix, Assigns, Asks, Commas}

abbrev pub reached : Suffix → ℕ
reached (Infix operator) = level operator
reached (Assigns operator) = 1
reached Asks = 2
reached Commas = 0
reached _ = 15
