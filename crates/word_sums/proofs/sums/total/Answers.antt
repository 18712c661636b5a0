use Rattle.std.proofs.Common.{arith, ◌≡◌, ◌+◌, ◌-◌, not, length, ap, ◌∙◌}
use Rattle.sat_clause.specs.Literals.{is_true}
use Rattle.sat_clause.proofs.Truths.{is_true-complement}
use Rattle.kv_num.specs.Bits.{differ}
use Rattle.word_sums.specs.Words.{bit}
use Rattle.word_sums.proofs.Digits.{over_turned}
use Rattle.word_sums.proofs.Growth.{Grows-trans, literal_grown, word_grown, word_pushed}
use Rattle.word_sums.proofs.Totals.{wrapped_total, total_fits}
use Rattle.word_sums.proofs.sums.total.Goals as goal

pub returns-clause-word : goal.returns-clause-word
returns-clause-word c =
    let g = Grows-trans _ _ _ c.in_ok-last.ensures.grows c.in_ok-over.ensures.grows in
    word_pushed _ _ _ _ c.in_ok-push.ensures.ok (word_grown _ _ _ g c.in_ok-low.ensures.word) (literal_grown _ _ _ c.in_ok-over.ensures.grows c.in_ok-last.ensures.digit)

pub returns-in_err-low-clause-grows : goal.returns-in_err-low-clause-grows
returns-in_err-low-clause-grows c = c.in_err-low.ensures.grows

pub returns-in_err-last-clause-grows : goal.returns-in_err-last-clause-grows
returns-in_err-last-clause-grows c = Grows-trans _ _ _ c.in_ok-low.ensures.grows c.in_err-last.ensures.grows

pub returns-in_err-over-clause-grows : goal.returns-in_err-over-clause-grows
returns-in_err-over-clause-grows c = Grows-trans _ _ _ c.in_ok-low.ensures.grows (Grows-trans _ _ _ c.in_ok-last.ensures.grows c.in_err-over.ensures.grows)

pub returns-in_err-push-clause-grows : goal.returns-in_err-push-clause-grows
returns-in_err-push-clause-grows c = Grows-trans _ _ _ c.in_ok-low.ensures.grows (Grows-trans _ _ _ c.in_ok-last.ensures.grows c.in_ok-over.ensures.grows)

pub returns-clause-grows : goal.returns-clause-grows
returns-clause-grows c = Grows-trans _ _ _ c.in_ok-low.ensures.grows (Grows-trans _ _ _ c.in_ok-last.ensures.grows c.in_ok-over.ensures.grows)

pub returns-clause-value : goal.returns-clause-value
returns-clause-value c = λ A h.
    let h2 = c.in_ok-over.ensures.grows.kept A h in
    let h1 = c.in_ok-last.ensures.grows.kept A h2 in
    let x = c.as_slice-x.result.now in
    let y = c.as_slice-y.result.now in
    let d = is_true A c.in_ok-low.low.carry in
    let la : length x ≡ (length x - 1) + 1 = omega (arith, ap length c.as_slice-x.ensures) in
    let lb : length y ≡ (length x - 1) + 1 = omega (arith, ap length c.as_slice-x.ensures, ap length c.as_slice-y.ensures) in
    let r = wrapped_total A x y c.in_ok-low.low.word c.push.new.self (length x - 1) (bit (is_true A c.args.carry)) c.index-x-top.result c.index-y-top.result c.in_ok-last.last.digit d (differ (is_true A c.in_ok-last.last.turn) d)
    la lb c.index-x-top.is c.index-y-top.is c.in_ok-low.ensures.len c.in_ok-push.ensures.ok (c.in_ok-low.ensures.value A h1) (c.in_ok-last.ensures.value A h2) c.args.signed in
    rw (c.as_slice-x.ensures, c.as_slice-y.ensures) at r

pub returns-clause-fits : goal.returns-clause-fits
returns-clause-fits c = λ A h.
    let h2 = c.in_ok-over.ensures.grows.kept A h in
    let h1 = c.in_ok-last.ensures.grows.kept A h2 in
    let x = c.as_slice-x.result.now in
    let y = c.as_slice-y.result.now in
    let d = is_true A c.in_ok-low.low.carry in
    let la : length x ≡ (length x - 1) + 1 = omega (arith, ap length c.as_slice-x.ensures) in
    let lb : length y ≡ (length x - 1) + 1 = omega (arith, ap length c.as_slice-x.ensures, ap length c.as_slice-y.ensures) in
    let turned : is_true A c.complement.result ≡ not (is_true A c.in_ok-over.over) = ap (is_true A) c.complement.ensures ∙ is_true-complement A c.in_ok-over.over in
    let r = total_fits A x y c.in_ok-low.low.word c.push.new.self (length x - 1) (bit (is_true A c.args.carry)) c.index-x-top.result c.index-y-top.result c.in_ok-last.last.digit d (differ (is_true A c.in_ok-last.last.turn) d)
    la lb c.index-x-top.is c.index-y-top.is c.in_ok-low.ensures.len c.in_ok-push.ensures.ok (c.in_ok-low.ensures.value A h1) (c.in_ok-last.ensures.value A h2) c.args.signed (is_true A c.in_ok-over.over) (is_true A c.complement.result) (c.in_ok-over.ensures.value A h ∙ over_turned c.args.signed (is_true A c.in_ok-last.last.turn) d) turned in
    rw (c.as_slice-x.ensures, c.as_slice-y.ensures) at r
