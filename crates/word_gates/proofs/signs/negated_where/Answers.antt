use Rattle.std.proofs.Common.{arith, ◌≡◌, ◌+◌, ◌-◌, length}
use Rattle.sat_clause.specs.Literals.{is_true}
use Rattle.word_sums.proofs.Growth.{Grows-trans, word_grown, word_pushed}
use Rattle.word_gates.proofs.Negations.{negated_last}
use Rattle.word_gates.proofs.signs.negated_where.Goals as goal

pub returns-in_err-low-clause-grows : goal.returns-in_err-low-clause-grows
returns-in_err-low-clause-grows c = c.in_err-low.ensures.grows

pub returns-in_err-last-clause-grows : goal.returns-in_err-last-clause-grows
returns-in_err-last-clause-grows c = Grows-trans _ _ _ c.in_ok-low.ensures.grows c.in_err-last.ensures.grows

pub returns-in_err-push-clause-grows : goal.returns-in_err-push-clause-grows
returns-in_err-push-clause-grows c = Grows-trans _ _ _ c.in_ok-low.ensures.grows c.in_ok-last.ensures.grows

pub returns-clause-grows : goal.returns-clause-grows
returns-clause-grows c = Grows-trans _ _ _ c.in_ok-low.ensures.grows c.in_ok-last.ensures.grows

pub returns-clause-within : goal.returns-clause-within
returns-clause-within c = word_pushed _ _ _ _ c.in_ok-push.ensures.ok (word_grown _ _ _ c.in_ok-last.ensures.grows c.in_ok-low.ensures.within) c.in_ok-last.ensures.within

pub returns-clause-value : goal.returns-clause-value
returns-clause-value c = λ A h.
    let h1 = c.in_ok-last.ensures.grows.kept A h in
    let word = c.args.word.now in
    let len : length c.args.word.now ≡ (length c.args.word.now - 1) + 1 = omega arith in
    negated_last A (is_true A c.args.test) word c.in_ok-low.low.word c.push.new.self (length word - 1) c.index-word-top.result c.in_ok-low.low.set c.in_ok-last.last len c.in_ok-low.ensures.len c.in_ok-push.ensures.ok c.index-word-top.is
    (c.in_ok-low.ensures.some A h1) (c.in_ok-last.ensures.value A h) (c.in_ok-low.ensures.value A h1)
