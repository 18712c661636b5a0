use Rattle.std.proofs.Common.{arith, ◌≡◌, ◌<◌, ◌+◌, ◌-◌, ◌*◌, ◌^◌, length, length-append, ap, ◌∙◌}
use Rattle.kv_num.specs.Bits.{differ}
use Rattle.sat_clause.specs.Literals.{is_true}
use Rattle.word_sums.specs.Words.{bit, number}
use Rattle.word_sums.proofs.Growth.{Grows-trans, literal_grown, word_grown, word_pushed, word_along, word_head, word_rest}
use Rattle.word_sums.proofs.Numbers.{bit-le}
use Rattle.word_sums.proofs.Totals.{whole_sum, sum_length}
use Rattle.word_products.proofs.Signed.{signed_sum, sign_digit}
use Rattle.word_products.proofs.signed_products.add_signed.Goals as goal

pub returns-in_err-low-clause-grows : goal.returns-in_err-low-clause-grows
returns-in_err-low-clause-grows c = c.in_err-low.ensures.grows

pub returns-in_err-last-clause-grows : goal.returns-in_err-last-clause-grows
returns-in_err-last-clause-grows c = Grows-trans _ _ _ c.in_ok-low.ensures.grows c.in_err-last.ensures.grows

pub returns-in_err-sign-clause-grows : goal.returns-in_err-sign-clause-grows
returns-in_err-sign-clause-grows c = Grows-trans _ _ _ c.in_ok-low.ensures.grows (Grows-trans _ _ _ c.in_ok-last.ensures.grows c.in_err-sign.ensures.grows)

pub returns-in_err-push-clause-grows : goal.returns-in_err-push-clause-grows
returns-in_err-push-clause-grows c = Grows-trans _ _ _ c.in_ok-low.ensures.grows (Grows-trans _ _ _ c.in_ok-last.ensures.grows c.in_ok-sign.ensures.grows)

pub returns-in_err-rest-clause-grows : goal.returns-in_err-rest-clause-grows
returns-in_err-rest-clause-grows c = Grows-trans _ _ _ c.in_ok-low.ensures.grows (Grows-trans _ _ _ c.in_ok-last.ensures.grows c.in_ok-sign.ensures.grows)

pub returns-clause-grows : goal.returns-clause-grows
returns-clause-grows c = Grows-trans _ _ _ c.in_ok-low.ensures.grows (Grows-trans _ _ _ c.in_ok-last.ensures.grows c.in_ok-sign.ensures.grows)

pub returns-clause-digit : goal.returns-clause-digit
returns-clause-digit c =
    let late = Grows-trans _ _ _ c.in_ok-last.ensures.grows c.in_ok-sign.ensures.grows in
    let pushed = word_pushed _ _ _ _ c.in_ok-push.ensures.ok (word_grown _ _ _ late c.in_ok-low.ensures.word) (literal_grown _ _ _ c.in_ok-sign.ensures.grows c.in_ok-last.ensures.digit) in
    let some : 0 < length c.as_slice-digits.result.now = omega (arith, ap length c.as_slice-digits.ensures, simp length-append at (ap length c.in_ok-push.ensures.ok)) in
    word_head _ _ _ (word_along _ _ _ c.as_slice-digits.ensures pushed) some c.index-digits-0.is

pub returns-clause-rest : goal.returns-clause-rest
returns-clause-rest c =
    let late = Grows-trans _ _ _ c.in_ok-last.ensures.grows c.in_ok-sign.ensures.grows in
    let pushed = word_pushed _ _ _ _ c.in_ok-push.ensures.ok (word_grown _ _ _ late c.in_ok-low.ensures.word) (literal_grown _ _ _ c.in_ok-sign.ensures.grows c.in_ok-last.ensures.digit) in
    word_pushed _ _ _ _ c.in_ok-rest.ensures (word_rest _ _ (word_along _ _ _ c.as_slice-digits.ensures pushed)) c.in_ok-sign.ensures.within

pub returns-clause-value : goal.returns-clause-value
returns-clause-value c = λ A h.
    let h2 = c.in_ok-sign.ensures.grows.kept A h in
    let h1 = c.in_ok-last.ensures.grows.kept A h2 in
    let a = c.args.a.now in
    let b = c.args.b.now in
    let n = length c.args.a.now - 1 in
    let x = c.index-a-top.result in
    let y = c.index-b-top.result in
    let e = c.as_slice-digits.ensures in
    let words = c.as_slice-digits.result.now in
    let d = is_true A c.in_ok-low.low.carry in
    let t = is_true A c.in_ok-last.last.turn in
    let ci = bit (is_true A c.args.carry) in
    let la : length c.args.a.now ≡ (length c.args.a.now - 1) + 1 = omega arith in
    let lb : length c.args.b.now ≡ (length c.args.a.now - 1) + 1 = omega arith in
    let top = c.in_ok-last.ensures.value A h2 in
    let whole = whole_sum A a b c.in_ok-low.low.word c.push.new.self n ci x y c.in_ok-last.last.digit d (differ t d) la lb c.index-a-top.is c.index-b-top.is c.in_ok-low.ensures.len c.in_ok-push.ensures.ok (c.in_ok-low.ensures.value A h1) top in
    let lw = ap length e ∙ sum_length A a b c.in_ok-low.low.word c.push.new.self n ci x y c.in_ok-last.last.digit d (differ t d) la lb c.index-a-top.is c.index-b-top.is c.in_ok-low.ensures.len c.in_ok-push.ensures.ok (c.in_ok-low.ensures.value A h1) top in
    signed_sum A a b words c.in_ok-rest.rest n ci x y c.index-digits-0.result c.in_ok-sign.sign (differ t d) la lb lw c.index-a-top.is c.index-b-top.is c.in_ok-rest.ensures c.index-digits-0.is
    (ap (λ z. number A z + 2 ^ (n + 1) * bit (differ t d)) e ∙ whole) (sign_digit (is_true A x) (is_true A y) d (is_true A c.in_ok-last.last.digit) t (is_true A c.in_ok-sign.sign) top (c.in_ok-sign.ensures.value A h)) (bit-le (is_true A c.args.carry))
