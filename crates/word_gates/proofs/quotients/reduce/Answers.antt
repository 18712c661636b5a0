use Rattle.word_sums.proofs.Growth.{Grows-trans}
use Rattle.word_gates.proofs.Divisions.{reduced_taken, reduced_value}
use Rattle.word_gates.proofs.quotients.reduce.Goals as goal

pub returns-clause-taken : goal.returns-clause-taken
returns-clause-taken c = λ A h.
    let h3 = c.in_ok-rest.ensures.grows.kept A h in
    let h2 = c.in_ok-digit.ensures.grows.kept A h3 in
    let h1 = c.in_ok-past.ensures.grows.kept A h2 in
    let h0 = c.in_ok-difference.ensures.grows.kept A h1 in
    reduced_taken A c.args.whole.now c.args.divisor.now c.in_ok-turned.turned c.as_slice.result.now c.as_slice-2.result.now c.in_ok-difference.difference.word c.in_ok-rest.rest c.len.result c.len-2.result c.in_ok-difference.difference.carry c.in_ok-always.always c.in_ok-past.past c.complement.result c.in_ok-digit.digit
    c.len.ensures c.len-2.ensures c.requires.short c.as_slice.ensures c.as_slice-2.ensures (c.in_ok-turned.ensures.value A) (c.in_ok-always.ensures.value A h0) c.in_ok-difference.ensures.len (c.in_ok-difference.ensures.value A h1) (c.in_ok-past.ensures.value A h2) c.complement.ensures (c.in_ok-digit.ensures.value A h3) (c.in_ok-rest.ensures.value A h)

pub returns-clause-value : goal.returns-clause-value
returns-clause-value c = λ A h.
    let h3 = c.in_ok-rest.ensures.grows.kept A h in
    let h2 = c.in_ok-digit.ensures.grows.kept A h3 in
    let h1 = c.in_ok-past.ensures.grows.kept A h2 in
    let h0 = c.in_ok-difference.ensures.grows.kept A h1 in
    reduced_value A c.args.whole.now c.args.divisor.now c.in_ok-turned.turned c.as_slice.result.now c.as_slice-2.result.now c.in_ok-difference.difference.word c.in_ok-rest.rest c.len.result c.len-2.result c.in_ok-difference.difference.carry c.in_ok-always.always c.in_ok-past.past c.complement.result c.in_ok-digit.digit
    c.len.ensures c.len-2.ensures c.requires.short c.as_slice.ensures c.as_slice-2.ensures (c.in_ok-turned.ensures.value A) (c.in_ok-always.ensures.value A h0) c.in_ok-difference.ensures.len (c.in_ok-difference.ensures.value A h1) (c.in_ok-past.ensures.value A h2) c.complement.ensures (c.in_ok-digit.ensures.value A h3) (c.in_ok-rest.ensures.value A h)

pub returns-clause-grows : goal.returns-clause-grows
returns-clause-grows c = Grows-trans _ _ _ c.in_ok-always.ensures.grows (Grows-trans _ _ _ c.in_ok-difference.ensures.grows (Grows-trans _ _ _ c.in_ok-past.ensures.grows (Grows-trans _ _ _ c.in_ok-digit.ensures.grows c.in_ok-rest.ensures.grows)))

pub returns-in_err-always-clause-grows : goal.returns-in_err-always-clause-grows
returns-in_err-always-clause-grows c = c.in_err-always.ensures.grows

pub returns-in_err-difference-clause-grows : goal.returns-in_err-difference-clause-grows
returns-in_err-difference-clause-grows c = Grows-trans _ _ _ c.in_ok-always.ensures.grows c.in_err-difference.ensures.grows

pub returns-in_err-past-clause-grows : goal.returns-in_err-past-clause-grows
returns-in_err-past-clause-grows c = Grows-trans _ _ _ c.in_ok-always.ensures.grows (Grows-trans _ _ _ c.in_ok-difference.ensures.grows c.in_err-past.ensures.grows)

pub returns-in_err-digit-clause-grows : goal.returns-in_err-digit-clause-grows
returns-in_err-digit-clause-grows c = Grows-trans _ _ _ c.in_ok-always.ensures.grows (Grows-trans _ _ _ c.in_ok-difference.ensures.grows (Grows-trans _ _ _ c.in_ok-past.ensures.grows c.in_err-digit.ensures.grows))

pub returns-in_err-rest-clause-grows : goal.returns-in_err-rest-clause-grows
returns-in_err-rest-clause-grows c = Grows-trans _ _ _ c.in_ok-always.ensures.grows (Grows-trans _ _ _ c.in_ok-difference.ensures.grows (Grows-trans _ _ _ c.in_ok-past.ensures.grows (Grows-trans _ _ _ c.in_ok-digit.ensures.grows c.in_err-rest.ensures.grows)))
