use Rattle.word_sums.proofs.Digits.{or_value}
use Rattle.word_sums.proofs.bits.or.Goals as goal

pub returns-clause-value : goal.returns-clause-value
returns-clause-value c = λ A h. or_value A _ _ _ _ _ _ c.complement.ensures c.complement-2.ensures (c.in_ok-neither.ensures.value A h) c.complement-3.ensures
