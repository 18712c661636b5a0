use Rattle.std.proofs.Common.{ap, ◌∙◌}
use Rattle.std.specs.Prelude.{◌*◌}
use Rattle.sat_clause.specs.Literals.{is_true}
use Rattle.word_sums.specs.Words.{bit, number}
use Rattle.word_sums.proofs.Growth.{Grows-trans}
use Rattle.word_gates.proofs.Divisions.{masked_division}
use Rattle.word_gates.proofs.quotients.divide_or_zero.Goals as goal

pub returns-clause-value : goal.returns-clause-value
returns-clause-value c = λ A h.
    let h3 = c.in_ok-remainder.ensures.grows.kept A h in
    let h2 = c.in_ok-quotient.ensures.grows.kept A h3 in
    let h1 = c.in_ok-some.ensures.grows.kept A h2 in
    let t = is_true A c.in_ok-some.some in
    masked_division (number A c.args.a.now) (number A c.args.b.now) (number A c.in_ok-exact.exact.quotient) (number A c.in_ok-exact.exact.remainder) (number A c.in_ok-quotient.quotient) (number A c.in_ok-remainder.remainder) t
    (c.in_ok-exact.ensures.value A h1) (c.in_ok-exact.ensures.small A h1) (c.in_ok-some.ensures.value A h2)
    (c.in_ok-quotient.ensures.value A h3 ∙ ap (λ w. number A w * bit t) c.as_slice.ensures) (c.in_ok-remainder.ensures.value A h ∙ ap (λ w. number A w * bit t) c.as_slice-2.ensures)

pub returns-clause-grows : goal.returns-clause-grows
returns-clause-grows c = Grows-trans _ _ _ c.in_ok-exact.ensures.grows (Grows-trans _ _ _ c.in_ok-some.ensures.grows (Grows-trans _ _ _ c.in_ok-quotient.ensures.grows c.in_ok-remainder.ensures.grows))
