use Rattle.word_sums.proofs.Digits.{chosen}
use Rattle.word_sums.proofs.Growth.{Grows-trans}
use Rattle.word_sums.proofs.bits.choose.Goals as goal

pub returns-in_err-odd-clause-grows : goal.returns-in_err-odd-clause-grows
returns-in_err-odd-clause-grows c = c.in_err-odd.ensures.grows

pub returns-in_err-turn-clause-grows : goal.returns-in_err-turn-clause-grows
returns-in_err-turn-clause-grows c = Grows-trans _ _ _ c.in_ok-odd.ensures.grows c.in_err-turn.ensures.grows

pub returns-in_err-chosen-clause-grows : goal.returns-in_err-chosen-clause-grows
returns-in_err-chosen-clause-grows c = Grows-trans _ _ _ c.in_ok-odd.ensures.grows (Grows-trans _ _ _ c.in_ok-turn.ensures.grows c.in_err-chosen.ensures.grows)

pub returns-clause-grows : goal.returns-clause-grows
returns-clause-grows c = Grows-trans _ _ _ c.in_ok-odd.ensures.grows (Grows-trans _ _ _ c.in_ok-turn.ensures.grows c.in_ok-chosen.ensures.grows)

pub returns-clause-value : goal.returns-clause-value
returns-clause-value c = λ A h.
    let h2 = c.in_ok-chosen.ensures.grows.kept A h in
    let h1 = c.in_ok-turn.ensures.grows.kept A h2 in
    chosen _ _ _ _ _ _ (c.in_ok-odd.ensures.value A h1) (c.in_ok-turn.ensures.value A h2) (c.in_ok-chosen.ensures.value A h)
