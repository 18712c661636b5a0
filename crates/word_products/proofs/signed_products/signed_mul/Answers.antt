use Rattle.std.proofs.Common.{arith, true, ◌≡◌, ◌+◌, ◌-◌, ◌^◌, length, ap, ◌∙◌, pos, ◌+ℤ◌, ◌*ℤ◌}
use Rattle.sat_clause.specs.Literals.{is_true}
use Rattle.word_sums.specs.Words.{number, word_value}
use Rattle.word_sums.proofs.Growth.{Grows-trans}
use Rattle.word_products.proofs.Signed.{product_value, product_fits}
use Rattle.word_products.proofs.signed_products.signed_mul.Goals as goal

pub returns-in_err-exact-clause-grows : goal.returns-in_err-exact-clause-grows
returns-in_err-exact-clause-grows c = c.in_err-exact.ensures.grows

pub returns-in_err-copies-clause-grows : goal.returns-in_err-copies-clause-grows
returns-in_err-copies-clause-grows c = c.in_ok-exact.ensures.grows

pub returns-in_err-fits-clause-grows : goal.returns-in_err-fits-clause-grows
returns-in_err-fits-clause-grows c = Grows-trans _ _ _ c.in_ok-exact.ensures.grows c.in_err-fits.ensures.grows

pub returns-clause-grows : goal.returns-clause-grows
returns-clause-grows c = Grows-trans _ _ _ c.in_ok-exact.ensures.grows c.in_ok-fits.ensures.grows

pub returns-clause-value : goal.returns-clause-value
returns-clause-value c = λ A h.
    let e = c.as_slice-low.ensures in
    let bits = c.as_slice-low.result.now in
    let high = c.in_ok-exact.exact.high in
    let la : length c.args.a.now ≡ (length bits - 1) + 1 = omega (arith, ap length e, c.in_ok-exact.ensures.low_len) in
    let ll : length bits ≡ (length bits - 1) + 1 = omega (arith, ap length e, c.in_ok-exact.ensures.low_len) in
    let lr : length high ≡ (length bits - 1) + 1 = omega (arith, ap length e, c.in_ok-exact.ensures.low_len, c.in_ok-exact.ensures.high_len) in
    let whole = ap (λ z. pos (number A z) +ℤ (word_value A true high *ℤ pos (2 ^ length c.args.a.now))) e ∙ c.in_ok-exact.ensures.value A (c.in_ok-fits.ensures.grows.kept A h) in
    let r = product_value A c.args.a.now bits high (length bits - 1) c.index-low-top.result (word_value A true c.args.a.now *ℤ word_value A true c.args.b.now) la ll lr c.index-low-top.is whole in
    rw e at r

pub returns-clause-fits : goal.returns-clause-fits
returns-clause-fits c = λ A h.
    let e = c.as_slice-low.ensures in
    let bits = c.as_slice-low.result.now in
    let high = c.in_ok-exact.exact.high in
    let la : length c.args.a.now ≡ (length bits - 1) + 1 = omega (arith, ap length e, c.in_ok-exact.ensures.low_len) in
    let ll : length bits ≡ (length bits - 1) + 1 = omega (arith, ap length e, c.in_ok-exact.ensures.low_len) in
    let lr : length high ≡ (length bits - 1) + 1 = omega (arith, ap length e, c.in_ok-exact.ensures.low_len, c.in_ok-exact.ensures.high_len) in
    let whole = ap (λ z. pos (number A z) +ℤ (word_value A true high *ℤ pos (2 ^ length c.args.a.now))) e ∙ c.in_ok-exact.ensures.value A (c.in_ok-fits.ensures.grows.kept A h) in
    product_fits A c.args.a.now bits high (length bits - 1) c.index-low-top.result (word_value A true c.args.a.now *ℤ word_value A true c.args.b.now) la ll lr c.index-low-top.is whole (is_true A c.in_ok-fits.fits) c.in_ok-copies.copies c.in_ok-copies.ensures (c.in_ok-fits.ensures.value A h)
