use Rattle.std.proofs.Common.{ap, ◌∙◌}
use Rattle.kv_num.specs.Bits.{differ}
use Rattle.sat_clause.specs.Literals.{is_true}
use Rattle.word_sums.proofs.Growth.{Grows-trans}
use Rattle.word_gates.proofs.signs.negated_digit.Goals as goal

pub returns-in_err-turn-clause-grows : goal.returns-in_err-turn-clause-grows
returns-in_err-turn-clause-grows c = c.in_err-turn.ensures.grows

pub returns-in_err-turned-clause-grows : goal.returns-in_err-turned-clause-grows
returns-in_err-turned-clause-grows c = Grows-trans _ _ _ c.in_ok-turn.ensures.grows c.in_err-turned.ensures.grows

pub returns-clause-grows : goal.returns-clause-grows
returns-clause-grows c = Grows-trans _ _ _ c.in_ok-turn.ensures.grows c.in_ok-turned.ensures.grows

pub returns-clause-value : goal.returns-clause-value
returns-clause-value c = λ A h. c.in_ok-turned.ensures.value A h ∙ ap (λ z. differ z (is_true A c.args.digit)) (c.in_ok-turn.ensures.value A (c.in_ok-turned.ensures.grows.kept A h))
