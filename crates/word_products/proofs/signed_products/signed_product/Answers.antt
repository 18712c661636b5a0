use Rattle.std.proofs.Common.{arith, true, ◌≡◌, ◌+◌, ◌-◌, ◌^◌, length, take, length-take, ap, sym, ◌∙◌, pos, neg_ℤ, ◌+ℤ◌, ◌*ℤ◌}
use Rattle.sat_clause.specs.Literals.{is_true}
use Rattle.word_sums.specs.Words.{bit, number, word_value}
use Rattle.word_sums.proofs.Growth.{word_grown, word_pushed, Grows-trans}
use Rattle.word_sums.proofs.Numbers.{number-more, pow_next, word_value-signed}
use Rattle.word_sums.proofs.Totals.{turned_signed}
use Rattle.word_products.proofs.Signed.{signed_more, row_signed, row_taken, taken_times, without_bit}
use Rattle.word_products.proofs.signed_products.signed_product.Goals as goal

pub returns-in_err-rows-clause-grows : goal.returns-in_err-rows-clause-grows
returns-in_err-rows-clause-grows c = c.in_err-rows.ensures.grows

pub returns-in_err-row-clause-grows : goal.returns-in_err-row-clause-grows
returns-in_err-row-clause-grows c = Grows-trans _ _ _ c.in_ok-rows.ensures.grows c.in_err-row.ensures.grows

pub returns-in_err-turned-clause-grows : goal.returns-in_err-turned-clause-grows
returns-in_err-turned-clause-grows c = Grows-trans _ _ _ c.in_ok-rows.ensures.grows c.in_ok-row.ensures.grows

pub returns-in_err-always-clause-grows : goal.returns-in_err-always-clause-grows
returns-in_err-always-clause-grows c = Grows-trans _ _ _ c.in_ok-rows.ensures.grows (Grows-trans _ _ _ c.in_ok-row.ensures.grows c.in_err-always.ensures.grows)

pub returns-in_err-last-clause-grows : goal.returns-in_err-last-clause-grows
returns-in_err-last-clause-grows c = Grows-trans _ _ _ c.in_ok-rows.ensures.grows (Grows-trans _ _ _ c.in_ok-row.ensures.grows (Grows-trans _ _ _ c.in_ok-always.ensures.grows c.in_err-last.ensures.grows))

pub returns-in_err-push-clause-grows : goal.returns-in_err-push-clause-grows
returns-in_err-push-clause-grows c = Grows-trans _ _ _ c.in_ok-rows.ensures.grows (Grows-trans _ _ _ c.in_ok-row.ensures.grows (Grows-trans _ _ _ c.in_ok-always.ensures.grows c.in_ok-last.ensures.grows))

pub returns-clause-grows : goal.returns-clause-grows
returns-clause-grows c = Grows-trans _ _ _ c.in_ok-rows.ensures.grows (Grows-trans _ _ _ c.in_ok-row.ensures.grows (Grows-trans _ _ _ c.in_ok-always.ensures.grows c.in_ok-last.ensures.grows))

pub returns-clause-high_len : goal.returns-clause-high_len
returns-clause-high_len c = c.in_ok-last.ensures.len ∙ (ap length c.as_slice-2.ensures ∙ c.in_ok-rows.ensures.high_len)

pub returns-clause-low : goal.returns-clause-low
returns-clause-low c =
    let late = Grows-trans _ _ _ c.in_ok-row.ensures.grows (Grows-trans _ _ _ c.in_ok-always.ensures.grows c.in_ok-last.ensures.grows) in
    word_pushed _ _ _ _ c.in_ok-push.ensures.ok (word_grown _ _ _ late c.in_ok-rows.ensures.low) c.in_ok-last.ensures.digit

pub returns-clause-high : goal.returns-clause-high
returns-clause-high c = c.in_ok-last.ensures.rest

pub returns-clause-value : goal.returns-clause-value
returns-clause-value c = λ A h.
    let h3 = c.in_ok-last.ensures.grows.kept A h in
    let h2 = c.in_ok-always.ensures.grows.kept A h3 in
    let h1 = c.in_ok-row.ensures.grows.kept A h2 in
    let a = c.args.a.now in
    let b = c.args.b.now in
    let n = length c.args.b.now - 1 in
    let y = c.index-b-top.result in
    let d = c.in_ok-last.last.digit in
    let va = word_value A true c.args.a.now in
    let vb = word_value A true c.args.b.now in
    let rv = word_value A true c.in_ok-row.row in
    let tv = word_value A true c.in_ok-turned.turned in
    let hv = word_value A true c.in_ok-rows.rows.high in
    let h2v = word_value A true c.in_ok-last.last.rest in
    let la : length c.args.a.now ≡ (length c.args.b.now - 1) + 1 = omega arith in
    let lb : length c.args.b.now ≡ (length c.args.b.now - 1) + 1 = omega arith in
    let lt : length (take (length c.args.b.now - 1) c.args.b.now) ≡ length c.args.b.now - 1 = omega (arith, length-take (length c.args.b.now - 1) c.args.b.now) in
    let ll : length c.in_ok-rows.rows.low ≡ length c.args.b.now - 1 = c.in_ok-rows.ensures.low_len ∙ lt in
    let lrow = c.in_ok-row.ensures.len in
    let lturned : length c.in_ok-turned.turned ≡ length c.args.a.now = c.in_ok-turned.ensures.len ∙ (ap length c.as_slice.ensures ∙ lrow) in
    let one = c.in_ok-always.ensures.value A h3 in
    let flip : number A c.in_ok-turned.turned + number A c.in_ok-row.row + 1 ≡ 2 ^ length c.args.a.now =
    ap (λ z. number A c.in_ok-turned.turned + number A z + 1) (sym c.as_slice.ensures) ∙ (c.in_ok-turned.ensures.value A ∙ ap (λ k. 2 ^ k) (ap length c.as_slice.ensures ∙ lrow)) in
    let turned = turned_signed A (length c.args.a.now) (length c.args.b.now - 1) la c.in_ok-row.row c.in_ok-row.row c.in_ok-turned.turned lrow lrow lturned flip in
    let sum : pos (bit (is_true A d)) +ℤ (h2v *ℤ pos 2) ≡ (hv +ℤ tv) +ℤ pos (bit (is_true A c.in_ok-always.always)) =
    c.in_ok-last.ensures.value A h ∙ (ap (λ z. (word_value A true z +ℤ word_value A true c.as_slice-3.result.now) +ℤ pos (bit (is_true A c.in_ok-always.always))) c.as_slice-2.ensures ∙ ap (λ z. (hv +ℤ word_value A true z) +ℤ pos (bit (is_true A c.in_ok-always.always))) c.as_slice-3.ensures) in
    let last = row_taken (bit (is_true A d)) (is_true A c.in_ok-always.always) h2v hv tv rv va rv one sum turned in
    let row = row_signed A c.args.a.now c.in_ok-row.row (is_true A y) c.requires.some lrow (c.in_ok-row.ensures.value A h2) in
    let before : pos (number A c.in_ok-rows.rows.low) +ℤ (hv *ℤ pos (2 ^ (length c.args.b.now - 1))) ≡ va *ℤ pos (number A (take (length c.args.b.now - 1) c.args.b.now)) =
    ap (λ k. pos (number A c.in_ok-rows.rows.low) +ℤ (hv *ℤ pos (2 ^ k))) (sym lt) ∙ c.in_ok-rows.ensures.value A h1 in
    let value = without_bit (number A (take n b)) (2 ^ n) (bit (is_true A y)) vb (word_value-signed A b n y lb c.index-b-top.is) in
    let made = signed_more (number A c.in_ok-rows.rows.low) (number A c.push.new.self) (2 ^ n) (2 ^ (n + 1)) (bit (is_true A d)) va hv h2v (neg_ℤ rv) (neg_ℤ (pos (bit (is_true A y)))) (pos (number A (take n b))) vb
    (number-more A n c.in_ok-rows.rows.low c.push.new.self d ll c.in_ok-push.ensures.ok) (pow_next n) before last (taken_times va (bit (is_true A y)) rv row) value in
    ap (λ k. pos (number A c.push.new.self) +ℤ (h2v *ℤ pos (2 ^ k))) la ∙ made
