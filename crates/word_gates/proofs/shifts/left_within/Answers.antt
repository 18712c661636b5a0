use Rattle.word_sums.proofs.Growth.{Grows-trans}
use Rattle.std.proofs.Common.{arith, ◌≡◌, ◌+◌, ◌-◌, ◌*◌, ◌%◌, ◌^◌, not, length, ap, ◌∙◌}
use Rattle.sat_clause.specs.Literals.{is_true}
use Rattle.sat_clause.proofs.Truths.{is_true-complement}
use Rattle.word_sums.specs.Words.{number}
use Rattle.word_gates.proofs.Moves.{left_value, left_fits}
use Rattle.word_gates.proofs.shifts.left_within.Goals as goal

pub returns-clause-value : goal.returns-clause-value
returns-clause-value c = λ A h.
    let h1 = c.in_ok-over.ensures.grows.kept A h in
    left_value A c.args.bits.now c.in_ok-raised.raised.word (number A c.args.distance.now) c.in_ok-raised.ensures.len (c.in_ok-raised.ensures.value A h1) c.args.signed

pub returns-clause-fits : goal.returns-clause-fits
returns-clause-fits c = λ A h.
    let h1 = c.in_ok-over.ensures.grows.kept A h in
    let bits = c.args.bits.now in
    let r = c.as_slice-digits.result.now in
    let er = c.as_slice-digits.ensures in
    let moved : number A r ≡ number A bits * 2 ^ number A c.args.distance.now % 2 ^ length bits = ap (number A) er ∙ c.in_ok-raised.ensures.value A h1 in
    let n = length bits - 1 in
    let la : length bits ≡ (length bits - 1) + 1 = omega arith in
    let lr : length r ≡ (length bits - 1) + 1 = omega (arith, ap length er, c.in_ok-raised.ensures.len) in
    left_fits A bits r n c.index-digits-top.result (number A c.args.distance.now) (is_true A c.in_ok-raised.raised.lost) la lr c.index-digits-top.is moved (c.in_ok-raised.ensures.over A h1) c.args.signed (is_true A c.complement.result)
    (ap (is_true A) c.complement.ensures ∙ (is_true-complement A c.in_ok-over.over ∙ ap not (c.in_ok-over.ensures.value A h)))

pub returns-in_err-raised-clause-grows : goal.returns-in_err-raised-clause-grows
returns-in_err-raised-clause-grows c = c.in_err-raised.ensures.grows

pub returns-in_err-over-clause-grows : goal.returns-in_err-over-clause-grows
returns-in_err-over-clause-grows c = Grows-trans _ _ _ c.in_ok-raised.ensures.grows c.in_err-over.ensures.grows

pub returns-clause-grows : goal.returns-clause-grows
returns-clause-grows c = Grows-trans _ _ _ c.in_ok-raised.ensures.grows c.in_ok-over.ensures.grows
