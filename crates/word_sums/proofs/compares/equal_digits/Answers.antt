use Rattle.std.proofs.Common.{arith, ◌<◌, length, ap}
use Rattle.word_sums.proofs.Growth.{Grows-trans}
use Rattle.word_sums.proofs.Orders.{equal_more}
use Rattle.word_sums.proofs.compares.equal_digits.Goals as goal

pub returns-in_err-odd-clause-grows : goal.returns-in_err-odd-clause-grows
returns-in_err-odd-clause-grows c = Grows-trans _ _ _ c.loop-i.invariant.grows c.in_err-odd.ensures.grows

pub returns-in_err-still-clause-grows : goal.returns-in_err-still-clause-grows
returns-in_err-still-clause-grows c = Grows-trans _ _ _ c.loop-i.invariant.grows (Grows-trans _ _ _ c.in_ok-odd.ensures.grows c.in_err-still.ensures.grows)

pub loop-i-preserved : goal.loop-i-preserved
loop-i-preserved c = record {
  grows = Grows-trans _ _ _ c.loop-i.invariant.grows (Grows-trans _ _ _ c.in_ok-odd.ensures.grows c.in_ok-still.ensures.grows);
  same = c.in_ok-still.ensures.within;
  value = λ A h.
      let h1 = c.in_ok-still.ensures.grows.kept A h in
      let h0 = c.in_ok-odd.ensures.grows.kept A h1 in
      let la : c.loop-i.i < length c.as_slice-left.result.now = omega arith in
      let lb : c.loop-i.i < length c.as_slice-right.result.now = omega (arith, ap length c.as_slice-left.ensures, ap length c.as_slice-right.ensures) in
      equal_more A c.loop-i.i c.as_slice-left.result.now c.as_slice-right.result.now _ _ c.in_ok-still.still c.in_ok-odd.odd _ c.loop-i.same la lb c.index-left-i.is c.index-right-i.is (c.loop-i.invariant.value A h0) (c.in_ok-odd.ensures.value A h1) c.complement.ensures (c.in_ok-still.ensures.value A h);
}
