use Rattle.gate_core.proofs.Bits.{value_turned}
use Rattle.gate_core.proofs.table.Gates.xor.Goals as goal

pub returns-clause-value : goal.returns-clause-value
returns-clause-value c = λ A h. value_turned A c.args.a c.args.b _ _ _ _ _ c.variable.ensures c.variable-2.ensures (c.in_ok-odd.ensures.value A h) _ _ c.is_complement.ensures c.is_complement-2.ensures c.flipped-half.ensures c.flipped.ensures
