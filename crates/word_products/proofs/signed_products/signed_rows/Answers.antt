use Rattle.std.proofs.Common.{arith, true, ◌+◌, ◌^◌, length, take, ap, ◌∙◌, pos, ◌+ℤ◌}
use Rattle.std.proofs.lemmas.Grind.{common_steps}
use Rattle.sat_clause.specs.Literals.{is_true}
use Rattle.word_sums.specs.Words.{bit, number, word_value}
use Rattle.word_sums.proofs.Growth.{literal_grown, word_grown, word_pushed, Grows-trans}
use Rattle.word_sums.proofs.Numbers.{number-more, number-take, pow_next}
use Rattle.word_products.proofs.Signed.{signed_more, row_signed, row_plain, with_bit, rows_none}
use Rattle.word_products.proofs.signed_products.signed_rows.Goals as goal

pub returns-in_err-never-clause-grows : goal.returns-in_err-never-clause-grows
returns-in_err-never-clause-grows c = c.in_err-never.ensures.grows

pub returns-in_err-high-clause-grows : goal.returns-in_err-high-clause-grows
returns-in_err-high-clause-grows c = Grows-trans _ _ _ c.in_ok-never.ensures.grows c.in_err-high.ensures.grows

pub returns-in_err-masked-clause-grows : goal.returns-in_err-masked-clause-grows
returns-in_err-masked-clause-grows c = Grows-trans _ _ _ c.loop-y.invariant.grows c.in_err-masked.ensures.grows

pub returns-in_err-row-clause-grows : goal.returns-in_err-row-clause-grows
returns-in_err-row-clause-grows c = Grows-trans _ _ _ c.loop-y.invariant.grows (Grows-trans _ _ _ c.in_ok-masked.ensures.grows c.in_err-row.ensures.grows)

pub returns-in_err-push-clause-grows : goal.returns-in_err-push-clause-grows
returns-in_err-push-clause-grows c = Grows-trans _ _ _ c.loop-y.invariant.grows (Grows-trans _ _ _ c.in_ok-masked.ensures.grows c.in_ok-row.ensures.grows)

pub loop-y-init : goal.loop-y-init
loop-y-init c = record {
  grows = Grows-trans _ _ _ c.in_ok-never.ensures.grows c.in_ok-high.ensures.grows;
  never = literal_grown _ _ _ c.in_ok-high.ensures.grows c.in_ok-never.ensures.within;
  plain = λ A h. c.in_ok-never.ensures.value A (c.in_ok-high.ensures.grows.kept A h);
  low_len = grind (arith, common_steps);
  high_len = c.in_ok-high.ensures.len;
  low = grind (arith, common_steps);
  high = c.in_ok-high.ensures.within;
  value = λ A h. rows_none A c.args.a.now c.in_ok-high.high c.new-low.result c.args.b.now (is_true A c.in_ok-never.never) c.requires.some c.in_ok-high.ensures.len c.new-low.ensures (c.in_ok-never.ensures.value A (c.in_ok-high.ensures.grows.kept A h)) (c.in_ok-high.ensures.value A h);
}

pub loop-y-preserved : goal.loop-y-preserved
loop-y-preserved c =
    let both = Grows-trans _ _ _ c.in_ok-masked.ensures.grows c.in_ok-row.ensures.grows in
    record {
      grows = Grows-trans _ _ _ c.loop-y.invariant.grows both;
      never = literal_grown _ _ _ both c.loop-y.invariant.never;
      plain = λ A h. c.loop-y.invariant.plain A (both.kept A h);
      low_len = grind (arith, common_steps);
      high_len = c.in_ok-row.ensures.len ∙ (ap length c.as_slice.ensures ∙ c.loop-y.invariant.high_len);
      low = word_pushed _ _ _ _ c.in_ok-push.ensures.ok (word_grown _ _ _ both c.loop-y.invariant.low) c.in_ok-row.ensures.digit;
      high = c.in_ok-row.ensures.rest;
      value = λ A h.
          let h1 = c.in_ok-row.ensures.grows.kept A h in
          let h0 = c.in_ok-masked.ensures.grows.kept A h1 in
          let i = c.loop-y.y-index in
          let a = c.args.a.now in
          let b = c.args.b.now in
          let y = c.y-item.result in
          let va = word_value A true a in
          let hv = word_value A true c.loop-y.high in
          let rv = word_value A true c.in_ok-masked.masked in
          let h2 = word_value A true c.in_ok-row.row.rest in
          let d = bit (is_true A c.in_ok-row.row.digit) in
          let plain = c.loop-y.invariant.plain A h0 in
          let never = is_true A c.in_ok-never.never in
          let row = row_plain d never h2 hv rv plain (c.in_ok-row.ensures.value A h ∙ (ap (λ z. (word_value A true z +ℤ word_value A true c.as_slice-in-loop-y.result.now) +ℤ pos (bit never)) c.as_slice.ensures ∙ ap (λ z. (hv +ℤ word_value A true z) +ℤ pos (bit never)) c.as_slice-in-loop-y.ensures)) in
          signed_more (number A c.loop-y.low) (number A c.push.new.self) (2 ^ i) (2 ^ (i + 1)) d va hv h2 rv (pos (bit (is_true A y))) (pos (number A (take i b))) (pos (number A (take (i + 1) b)))
          (number-more A i c.loop-y.low c.push.new.self c.in_ok-row.row.digit c.loop-y.invariant.low_len c.in_ok-push.ensures.ok) (pow_next i) (c.loop-y.invariant.value A h0) row (row_signed A a c.in_ok-masked.masked (is_true A y) c.requires.some c.in_ok-masked.ensures.len (c.in_ok-masked.ensures.value A h1))
          (with_bit (number A (take (i + 1) b)) (number A (take i b)) (2 ^ i) (bit (is_true A y)) (number-take A i b y c.loop-y-test.true c.y-item.is));
    }
