use Rattle.word_sums.proofs.Growth.{Grows-trans}
use Rattle.sat_clause.specs.Literals.{is_true}
use Rattle.word_gates.proofs.Negations.{magnitude_value}
use Rattle.word_gates.proofs.signs.absolute_value.Goals as goal

pub returns-clause-value : goal.returns-clause-value
returns-clause-value c = λ A h. magnitude_value A c.args.signed c.args.word.now c.in_ok-absolute.absolute (is_true A c.in_ok-negative.negative) c.requires.some (c.in_ok-negative.ensures.value A (c.in_ok-absolute.ensures.grows.kept A h)) (c.in_ok-absolute.ensures.value A h)

pub returns-in_err-negative-clause-grows : goal.returns-in_err-negative-clause-grows
returns-in_err-negative-clause-grows c = c.in_err-negative.ensures.grows

pub returns-in_err-absolute-clause-grows : goal.returns-in_err-absolute-clause-grows
returns-in_err-absolute-clause-grows c = Grows-trans _ _ _ c.in_ok-negative.ensures.grows c.in_err-absolute.ensures.grows

pub returns-clause-grows : goal.returns-clause-grows
returns-clause-grows c = Grows-trans _ _ _ c.in_ok-negative.ensures.grows c.in_ok-absolute.ensures.grows
