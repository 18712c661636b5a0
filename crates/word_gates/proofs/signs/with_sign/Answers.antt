use Rattle.word_sums.proofs.Growth.{Grows-trans}
use Rattle.std.proofs.Common.{arith, ◌≡◌, ◌+◌, ◌-◌, length, ap, sym}
use Rattle.sat_clause.specs.Literals.{is_true}
use Rattle.word_gates.proofs.Exact.{wrapped_absolute, absolute_fits}
use Rattle.word_gates.proofs.signs.with_sign.Goals as goal

pub returns-clause-value : goal.returns-clause-value
returns-clause-value c = λ A h.
    let h1 = c.in_ok-fits.ensures.grows.kept A h in
    wrapped_absolute A c.args.signed (is_true A c.args.negative) c.args.absolute.now c.in_ok-value.value c.in_ok-value.ensures.len (c.in_ok-value.ensures.value A h1)

pub returns-clause-fits : goal.returns-clause-fits
returns-clause-fits c = λ A h plain.
    let h1 = c.in_ok-fits.ensures.grows.kept A h in
    let low = c.args.absolute.now in
    let bits = c.as_slice-bits.result.now in
    let ll : length low ≡ (length low - 1) + 1 = omega arith in
    let lv : length bits ≡ (length low - 1) + 1 = omega (arith, ap length c.as_slice-bits.ensures, c.in_ok-value.ensures.len) in
    let r = c.in_ok-value.ensures.value A h1 in
    absolute_fits A low bits (length low - 1) c.index-absolute-top.result c.index-bits-top.result (is_true A c.args.negative) ll lv c.index-absolute-top.is c.index-bits-top.is
    (rw (sym c.as_slice-bits.ensures) at r) c.args.signed (is_true A c.in_ok-fits.fits) plain (c.in_ok-fits.ensures.value A h)

pub returns-in_err-value-clause-grows : goal.returns-in_err-value-clause-grows
returns-in_err-value-clause-grows c = c.in_err-value.ensures.grows

pub returns-in_err-fits-clause-grows : goal.returns-in_err-fits-clause-grows
returns-in_err-fits-clause-grows c = Grows-trans _ _ _ c.in_ok-value.ensures.grows c.in_err-fits.ensures.grows

pub returns-clause-grows : goal.returns-clause-grows
returns-clause-grows c = Grows-trans _ _ _ c.in_ok-value.ensures.grows c.in_ok-fits.ensures.grows
