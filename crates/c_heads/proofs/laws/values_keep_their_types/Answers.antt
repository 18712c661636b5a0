use Rattle.c_model.specs.Programs.{checks}
use Rattle.c_model.specs.Operators.{integer_of}
use Rattle.c_kinds.specs.Types.{shape_of}
use Rattle.c_heads.proofs.Numbers.{number}
use Rattle.c_heads.proofs.Pointers.{moves, operation_is}
use Rattle.c_heads.proofs.Conversions.{converts_to, scalar_is}
use Rattle.c_heads.proofs.laws.values_keep_their_types.Goals as goal

pub returns : goal.returns
returns c = record {
  conversions = converts_to;
  binary = operation_is;
  unary = λ p store op t v h. number store (checks p) op (integer_of (shape_of t)) v h;
  moves = moves;
  scalars = scalar_is;
}
