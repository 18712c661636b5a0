use Rattle.std.proofs.Common.{arith}
use Rattle.std.proofs.lemmas.Grind.{common_steps}
use Rattle.sat_clause.specs.Literals.{is_true}
use Rattle.word_sums.proofs.Growth.{Grows-trans, word_grown, word_pushed}
use Rattle.word_products.proofs.Rows.{masked_more}
use Rattle.word_products.proofs.products.masked.Goals as goal

pub returns-in_err-both-clause-grows : goal.returns-in_err-both-clause-grows
returns-in_err-both-clause-grows c = Grows-trans _ _ _ c.loop-x.invariant.grows c.in_err-both.ensures.grows

pub returns-in_err-push-clause-grows : goal.returns-in_err-push-clause-grows
returns-in_err-push-clause-grows c = Grows-trans _ _ _ c.loop-x.invariant.grows c.in_ok-both.ensures.grows

pub loop-x-preserved : goal.loop-x-preserved
loop-x-preserved c = record {
  grows = Grows-trans _ _ _ c.loop-x.invariant.grows c.in_ok-both.ensures.grows;
  len = grind (arith, common_steps);
  within = word_pushed _ _ _ _ c.in_ok-push.ensures.ok (word_grown _ _ _ c.in_ok-both.ensures.grows c.loop-x.invariant.within) c.in_ok-both.ensures.within;
  value = λ A h. masked_more A c.loop-x.x-index (is_true A c.args.test) c.args.word.now c.loop-x.row c.push.new.self c.x-item.result c.in_ok-both.both c.loop-x.invariant.len c.loop-x-test.true c.in_ok-push.ensures.ok c.x-item.is (c.loop-x.invariant.value A (c.in_ok-both.ensures.grows.kept A h)) (c.in_ok-both.ensures.value A h);
}
