use Rattle.std.proofs.Common.{arith, ◌≡◌, ◌+◌, ◌-◌, ◌*◌, length, ap, sym, subst}
use Rattle.sat_clause.specs.Literals.{is_true}
use Rattle.word_sums.specs.Words.{bit, number, IsWordOf}
use Rattle.word_sums.proofs.Growth.{Grows-trans, word_pushed, word_rest}
use Rattle.word_products.proofs.Rows.{row_value, row_total}
use Rattle.word_products.proofs.products.add_row.Goals as goal

pub returns-clause-rest : goal.returns-clause-rest
returns-clause-rest c =
    word_pushed _ _ _ _ c.in_ok-rest.ensures (word_rest _ c.as_slice-digits.result.now (subst (IsWordOf c.add_carried.new.gates) (sym c.as_slice-digits.ensures) c.in_ok-sum.ensures.word)) c.in_ok-sum.ensures.carry

pub returns-in_err-never-clause-grows : goal.returns-in_err-never-clause-grows
returns-in_err-never-clause-grows c = c.in_err-never.ensures.grows

pub returns-in_err-row-clause-grows : goal.returns-in_err-row-clause-grows
returns-in_err-row-clause-grows c = Grows-trans _ _ _ c.in_ok-never.ensures.grows c.in_err-row.ensures.grows

pub returns-in_err-sum-clause-grows : goal.returns-in_err-sum-clause-grows
returns-in_err-sum-clause-grows c = Grows-trans _ _ _ c.in_ok-never.ensures.grows (Grows-trans _ _ _ c.in_ok-row.ensures.grows c.in_err-sum.ensures.grows)

pub returns-in_err-rest-clause-grows : goal.returns-in_err-rest-clause-grows
returns-in_err-rest-clause-grows c = Grows-trans _ _ _ c.in_ok-never.ensures.grows (Grows-trans _ _ _ c.in_ok-row.ensures.grows c.in_ok-sum.ensures.grows)

pub returns-clause-grows : goal.returns-clause-grows
returns-clause-grows c = Grows-trans _ _ _ c.in_ok-never.ensures.grows (Grows-trans _ _ _ c.in_ok-row.ensures.grows c.in_ok-sum.ensures.grows)

pub returns-clause-value : goal.returns-clause-value
returns-clause-value c = λ A h.
    let h1 = c.in_ok-sum.ensures.grows.kept A h in
    let h0 = c.in_ok-row.ensures.grows.kept A h1 in
    let n = length c.args.a.now - 1 in
    let words = c.as_slice-digits.result.now in
    let r = number A c.args.a.now * bit (is_true A c.args.test) in
    let em : length c.args.high.now ≡ (length c.args.a.now - 1) + 1 = omega arith in
    let lw : length words ≡ (length c.args.a.now - 1) + 1 = omega (arith, ap length c.as_slice-digits.ensures, c.in_ok-sum.ensures.len) in
    row_value A (number A c.args.high.now) r words c.in_ok-rest.rest n c.index-digits-0.result c.in_ok-sum.sum.carry lw c.in_ok-rest.ensures c.index-digits-0.is
    (row_total A words c.in_ok-sum.sum.word c.as_slice.result.now c.in_ok-row.row (number A c.args.high.now) r (length c.args.high.now) (n + 1) (is_true A c.in_ok-never.never) (is_true A c.in_ok-sum.sum.carry)
    c.as_slice-digits.ensures c.as_slice.ensures em (c.in_ok-never.ensures.value A h0) (c.in_ok-row.ensures.value A h1) (c.in_ok-sum.ensures.value A h))
