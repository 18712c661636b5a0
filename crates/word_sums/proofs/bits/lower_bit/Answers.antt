use Rattle.std.proofs.Common.{ap, ◌∙◌}
use Rattle.sat_clause.specs.Literals.{is_true}
use Rattle.sat_clause.proofs.Truths.{is_true-complement}
use Rattle.word_sums.proofs.Digits.{lower_bits}
use Rattle.word_sums.proofs.Growth.{Grows-trans}
use Rattle.word_sums.proofs.bits.lower_bit.Goals as goal

pub returns-in_err-left-clause-grows : goal.returns-in_err-left-clause-grows
returns-in_err-left-clause-grows c = c.in_err-left.ensures.grows

pub returns-in_err-right-clause-grows : goal.returns-in_err-right-clause-grows
returns-in_err-right-clause-grows c = Grows-trans _ _ _ c.in_ok-left.ensures.grows c.in_err-right.ensures.grows

pub returns-in_err-turn-clause-grows : goal.returns-in_err-turn-clause-grows
returns-in_err-turn-clause-grows c = Grows-trans _ _ _ c.in_ok-left.ensures.grows (Grows-trans _ _ _ c.in_ok-right.ensures.grows c.in_err-turn.ensures.grows)

pub returns-in_err-lower-clause-grows : goal.returns-in_err-lower-clause-grows
returns-in_err-lower-clause-grows c = Grows-trans _ _ _ c.in_ok-left.ensures.grows (Grows-trans _ _ _ c.in_ok-right.ensures.grows (Grows-trans _ _ _ c.in_ok-turn.ensures.grows c.in_err-lower.ensures.grows))

pub returns-clause-grows : goal.returns-clause-grows
returns-clause-grows c = Grows-trans _ _ _ c.in_ok-left.ensures.grows (Grows-trans _ _ _ c.in_ok-right.ensures.grows (Grows-trans _ _ _ c.in_ok-turn.ensures.grows c.in_ok-lower.ensures.grows))

pub returns-clause-value : goal.returns-clause-value
returns-clause-value c = λ A h.
    let h3 = c.in_ok-lower.ensures.grows.kept A h in
    let h2 = c.in_ok-turn.ensures.grows.kept A h3 in
    let h1 = c.in_ok-right.ensures.grows.kept A h2 in
    lower_bits _ _ _ _ _ _ _ _ (ap (is_true A) c.complement.ensures ∙ is_true-complement A c.args.a) (c.in_ok-left.ensures.value A h1) (c.in_ok-right.ensures.value A h2) (c.in_ok-turn.ensures.value A h3) (c.in_ok-lower.ensures.value A h)
