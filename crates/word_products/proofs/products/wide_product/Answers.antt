use Rattle.std.proofs.Common.{arith, ◌+◌, ◌*◌, ap, ◌∙◌}
use Rattle.std.proofs.lemmas.Grind.{common_steps}
use Rattle.sat_clause.specs.Literals.{is_true}
use Rattle.word_sums.specs.Words.{bit, number}
use Rattle.word_sums.proofs.Growth.{word_grown, word_pushed, Grows-trans}
use Rattle.word_products.proofs.Rows.{product_more, product_none}
use Rattle.word_products.proofs.products.wide_product.Goals as goal

pub returns-in_err-never-clause-grows : goal.returns-in_err-never-clause-grows
returns-in_err-never-clause-grows c = c.in_err-never.ensures.grows

pub returns-in_err-high-clause-grows : goal.returns-in_err-high-clause-grows
returns-in_err-high-clause-grows c = Grows-trans _ _ _ c.in_ok-never.ensures.grows c.in_err-high.ensures.grows

pub returns-in_err-row-clause-grows : goal.returns-in_err-row-clause-grows
returns-in_err-row-clause-grows c = Grows-trans _ _ _ c.loop-y.invariant.grows c.in_err-row.ensures.grows

pub returns-in_err-push-clause-grows : goal.returns-in_err-push-clause-grows
returns-in_err-push-clause-grows c = Grows-trans _ _ _ c.loop-y.invariant.grows c.in_ok-row.ensures.grows

pub loop-y-preserved : goal.loop-y-preserved
loop-y-preserved c = record {
  grows = Grows-trans _ _ _ c.loop-y.invariant.grows c.in_ok-row.ensures.grows;
  low_len = grind (arith, common_steps);
  high_len = grind (arith, common_steps);
  low = word_pushed _ _ _ _ c.in_ok-push.ensures.ok (word_grown _ _ _ c.in_ok-row.ensures.grows c.loop-y.invariant.low) c.in_ok-row.ensures.digit;
  high = c.in_ok-row.ensures.rest;
  value = λ A h. product_more A c.loop-y.y-index (number A c.args.a.now) c.args.b.now c.loop-y.low c.push.new.self (number A c.loop-y.high) (number A c.in_ok-row.row.rest) c.y-item.result c.in_ok-row.row.digit c.loop-y.invariant.low_len c.loop-y-test.true c.in_ok-push.ensures.ok c.y-item.is (c.loop-y.invariant.value A (c.in_ok-row.ensures.grows.kept A h)) (c.in_ok-row.ensures.value A h ∙ ap (λ z. number A z + number A c.args.a.now * bit (is_true A c.y-item.result)) c.as_slice.ensures);
}

pub loop-y-init : goal.loop-y-init
loop-y-init c = record {
  grows = Grows-trans _ _ _ c.in_ok-never.ensures.grows c.in_ok-high.ensures.grows;
  low_len = grind (arith, common_steps);
  high_len = c.in_ok-high.ensures.len;
  low = grind (arith, common_steps);
  high = c.in_ok-high.ensures.within;
  value = λ A h. product_none A c.new-low.result c.args.b.now (number A c.in_ok-high.high) (number A c.args.a.now) (is_true A c.in_ok-never.never) c.new-low.ensures (c.in_ok-never.ensures.value A (c.in_ok-high.ensures.grows.kept A h)) (c.in_ok-high.ensures.value A h);
}
