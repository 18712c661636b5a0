use Rattle.std.proofs.Common.{length, ◌+ℤ◌}
use Rattle.sat_clause.specs.Literals.{is_true}
use Rattle.word_sums.specs.Words.{word_value}
use Rattle.word_sums.proofs.Growth.{Grows-trans}
use Rattle.word_sums.proofs.Totals.{plus_never, fits_never}
use Rattle.word_sums.proofs.sums.add.Goals as goal

pub returns-clause-value : goal.returns-clause-value
returns-clause-value c = λ A h.
    let s = c.args.signed in
    plus_never (length c.args.a.now) s (is_true A c.in_ok-never.never) (word_value A s c.in_ok-num.num.value) (word_value A s c.args.a.now +ℤ word_value A s c.args.b.now) (c.in_ok-never.ensures.value A (c.in_ok-num.ensures.grows.kept A h)) (c.in_ok-num.ensures.value A h)

pub returns-clause-fits : goal.returns-clause-fits
returns-clause-fits c = λ A h.
    let s = c.args.signed in
    fits_never (length c.args.a.now) s (is_true A c.in_ok-never.never) (is_true A c.in_ok-num.num.fits) (word_value A s c.args.a.now +ℤ word_value A s c.args.b.now) (c.in_ok-never.ensures.value A (c.in_ok-num.ensures.grows.kept A h)) (c.in_ok-num.ensures.fits A h)

pub returns-in_err-never-clause-grows : goal.returns-in_err-never-clause-grows
returns-in_err-never-clause-grows c = c.in_err-never.ensures.grows

pub returns-in_err-num-clause-grows : goal.returns-in_err-num-clause-grows
returns-in_err-num-clause-grows c = Grows-trans _ _ _ c.in_ok-never.ensures.grows c.in_err-num.ensures.grows

pub returns-clause-grows : goal.returns-clause-grows
returns-clause-grows c = Grows-trans _ _ _ c.in_ok-never.ensures.grows c.in_ok-num.ensures.grows
