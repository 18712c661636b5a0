use Rattle.std.proofs.Common.{arith, ◌<◌, ◌-◌, length}
use Rattle.word_sums.proofs.Growth.{Grows-trans, word_literal}
use Rattle.word_sums.proofs.Pieces.{any_above, any_none, any_whole}
use Rattle.word_sums.proofs.parts.any.Goals as goal

pub loop-i-init : goal.loop-i-init
loop-i-init c = record {
  grows = c.in_ok-set.ensures.grows;
  set = c.in_ok-set.ensures.within;
  value = λ A h. any_none A c.args.word.now _ (c.in_ok-set.ensures.value A h);
}

pub or-requires-clause-right : goal.or-requires-clause-right
or-requires-clause-right c =
    let lt : length c.args.word.now - 1 - c.loop-i.i < length c.args.word.now = omega arith in
    word_literal _ _ _ _ _ c.loop-i.invariant.grows c.requires lt c.index-word-word.is

pub returns-clause-value : goal.returns-clause-value
returns-clause-value c = λ A h. any_whole A c.args.word.now c.loop-i.i _ c.loop-i-test.false (c.loop-i.invariant.value A h)

pub returns-in_err-more-clause-grows : goal.returns-in_err-more-clause-grows
returns-in_err-more-clause-grows c = Grows-trans _ _ _ c.loop-i.invariant.grows c.in_err-more.ensures.grows

pub loop-i-preserved : goal.loop-i-preserved
loop-i-preserved c = record {
  grows = Grows-trans _ _ _ c.loop-i.invariant.grows c.in_ok-more.ensures.grows;
  set = c.in_ok-more.ensures.within;
  value = λ A h. any_above A c.args.word.now c.loop-i.i c.index-word-word.result c.loop-i.set c.in_ok-more.more c.loop-i-test.true c.index-word-word.is (c.loop-i.invariant.value A (c.in_ok-more.ensures.grows.kept A h)) (c.in_ok-more.ensures.value A h);
}
