use Rattle.std.proofs.Common.{arith, ◌≡◌, ◌+◌, ◌-◌, ◌^◌, not, length, ap, ◌∙◌, sym, refl, pos, ◌+ℤ◌}
use Rattle.kv_num.specs.Shape.{wrap_at}
use Rattle.sat_clause.specs.Literals.{is_true}
use Rattle.word_sums.specs.Words.{bit, number, word_value}
use Rattle.word_sums.proofs.Growth.{flipped_value, Grows-trans}
use Rattle.word_sums.proofs.Totals.{turned_value, difference_fits}
use Rattle.word_sums.proofs.sums.sub.Goals as goal

pub returns-clause-value : goal.returns-clause-value
returns-clause-value c = λ A h.
    let h1 = c.in_ok-num.ensures.grows.kept A h in
    let w = length c.args.a.now in
    let s = c.args.signed in
    let b = c.args.b.now in
    let t = c.in_ok-turned.turned in
    let va = word_value A s c.args.a.now in
    let e = c.as_slice.ensures in
    let lt : length t ≡ length c.args.a.now = c.in_ok-turned.ensures.len ∙ (ap length e ∙ c.requires.same) in
    let sum : number A t + number A c.args.b.now + 1 ≡ 2 ^ length c.args.a.now =
    ap (λ z. number A t + number A z + 1) (sym e) ∙ (c.in_ok-turned.ensures.value A ∙ ap (λ z. 2 ^ z) (ap length e ∙ c.requires.same)) in
    c.in_ok-num.ensures.value A h
    ∙ (ap (λ z. wrap_at w s ((va +ℤ word_value A s t) +ℤ pos (bit z))) (c.in_ok-always.ensures.value A h1)
    ∙ turned_value A w s va b t c.requires.same lt sum)

pub returns-clause-fits : goal.returns-clause-fits
returns-clause-fits c = λ A h.
    let h1 = c.in_ok-num.ensures.grows.kept A h in
    let t = c.in_ok-turned.turned in
    let e = c.as_slice.ensures in
    let lt : length t ≡ length c.args.a.now = c.in_ok-turned.ensures.len ∙ (ap length e ∙ c.requires.same) in
    let some : length c.args.a.now ≡ (length c.args.a.now - 1) + 1 = omega arith in
    let sum : number A t + number A c.args.b.now + 1 ≡ 2 ^ length c.args.a.now =
    ap (λ z. number A t + number A z + 1) (sym e) ∙ (c.in_ok-turned.ensures.value A ∙ ap (λ z. 2 ^ z) (ap length e ∙ c.requires.same)) in
    difference_fits A (length c.args.a.now) (length c.args.a.now - 1) some c.args.a.now c.args.b.now t refl c.requires.same lt sum c.args.signed
    (is_true A c.in_ok-always.always) (is_true A c.in_ok-num.num.fits) (is_true A c.flipped.result) (c.in_ok-always.ensures.value A h1) (flipped_value A (not c.args.signed) c.in_ok-num.num.fits c.flipped.result c.flipped.ensures) (c.in_ok-num.ensures.fits A h)

pub returns-in_err-always-clause-grows : goal.returns-in_err-always-clause-grows
returns-in_err-always-clause-grows c = c.in_err-always.ensures.grows

pub returns-in_err-num-clause-grows : goal.returns-in_err-num-clause-grows
returns-in_err-num-clause-grows c = Grows-trans _ _ _ c.in_ok-always.ensures.grows c.in_err-num.ensures.grows

pub returns-clause-grows : goal.returns-clause-grows
returns-clause-grows c = Grows-trans _ _ _ c.in_ok-always.ensures.grows c.in_ok-num.ensures.grows
