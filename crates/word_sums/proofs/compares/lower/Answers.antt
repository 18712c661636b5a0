use Rattle.std.proofs.Common.{arith, ◌<◌, length}
use Rattle.word_sums.proofs.Growth.{Grows-trans, word_literal}
use Rattle.word_sums.proofs.Orders.{less_more}
use Rattle.word_sums.proofs.compares.lower.Goals as goal

pub lower_bit-requires-clause-first : goal.lower_bit-requires-clause-first
lower_bit-requires-clause-first c = word_literal _ _ _ _ _ c.loop-i.invariant.grows c.requires.left c.loop-i-test.true c.index-a-i.is

pub lower_bit-requires-clause-second : goal.lower_bit-requires-clause-second
lower_bit-requires-clause-second c = let lb : c.loop-i.i < length c.args.b.now = omega arith in word_literal _ _ _ _ _ c.loop-i.invariant.grows c.requires.right lb c.index-b-i.is

pub returns-in_err-next-clause-grows : goal.returns-in_err-next-clause-grows
returns-in_err-next-clause-grows c = Grows-trans _ _ _ c.loop-i.invariant.grows c.in_err-next.ensures.grows

pub loop-i-preserved : goal.loop-i-preserved
loop-i-preserved c = record {
  grows = Grows-trans _ _ _ c.loop-i.invariant.grows c.in_ok-next.ensures.grows;
  lower = c.in_ok-next.ensures.within;
  value = λ A h.
      let lb : c.loop-i.i < length c.args.b.now = omega arith in
      less_more A c.loop-i.i c.args.a.now c.args.b.now _ _ c.in_ok-next.next c.loop-i.lower c.loop-i-test.true lb c.index-a-i.is c.index-b-i.is (c.loop-i.invariant.value A (c.in_ok-next.ensures.grows.kept A h)) (c.in_ok-next.ensures.value A h);
}
