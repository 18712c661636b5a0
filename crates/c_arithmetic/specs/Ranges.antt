-- Which numbers an operation may be given. Sections are those of ISO/IEC 9899:2011.
use Rattle.std.specs.Prelude.{ℤ}
use Rattle.kv_num.specs.declared.types.IntType.{IntType}
use Rattle.kv_num.specs.IntType.{InRange}
use Rattle.c_tree.specs.declared.expression.BinaryOperator.{BinaryOperator}
use Rattle.c_tree.specs.declared.expression.BinaryOperator.TheVariants as binary
use Rattle.c_tree.specs.declared.expression.UnaryOperator.{UnaryOperator}
use Rattle.c_tree.specs.declared.expression.UnaryOperator.TheVariants as unary

-- the operands are converted to the type in which the operation is done (6.3.1.8); those of && and || and a shift's distance
-- keep their own (6.5.7p3)
abbrev pub AreOperands : BinaryOperator → IntType → ℤ → ℤ → Type 0
AreOperands binary.LogicalOr k a b = Unit {0}
AreOperands binary.LogicalAnd k a b = Unit {0}
AreOperands binary.ShiftLeft k a b = InRange k a
AreOperands binary.ShiftRight k a b = InRange k a
AreOperands _ k a b = InRange k a × InRange k b

-- `+ - ~` promote their operand; that of `!` keeps its own type (6.5.3.3)
abbrev pub IsOperand : UnaryOperator → IntType → ℤ → Type 0
IsOperand unary.Minus k a = InRange k a
IsOperand unary.Complement k a = InRange k a
IsOperand _ k a = Unit {0}
