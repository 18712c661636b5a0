-- Which numbers an operation may be given. Sections are those of ISO/IEC 9899:2011.
use Rattle.std.specs.Prelude.{ℤ}
use Rattle.kv_num.specs.declared.types.IntType.{IntType}
use Rattle.kv_num.specs.IntType.{InRange}
use Rattle.c_tree.specs.declared.expression.BinaryOperator.{BinaryOperator}
use Rattle.c_tree.specs.declared.expression.BinaryOperator.TheVariants as binary

-- both are of the type in which it works (6.3.1.8), but for a shift's distance (6.5.7p3)
abbrev pub AreOperands : BinaryOperator → IntType → ℤ → ℤ → Type 0
AreOperands binary.ShiftLeft k a b = InRange k a
AreOperands binary.ShiftRight k a b = InRange k a
AreOperands _ k a b = InRange k a × InRange k b
