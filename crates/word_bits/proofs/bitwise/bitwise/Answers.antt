use Rattle.std.proofs.Common.{arith, ◌<◌, length, ap}
use Rattle.std.proofs.lemmas.Grind.{common_steps}
use Rattle.word_sums.proofs.Growth.{Grows-trans, word_grown, word_pushed}
use Rattle.word_bits.proofs.Steps.{bitwise_more}
use Rattle.word_bits.proofs.bitwise.bitwise.Goals as goal

pub returns-in_err-digit-clause-grows : goal.returns-in_err-digit-clause-grows
returns-in_err-digit-clause-grows c = Grows-trans _ _ _ c.loop-i.invariant.grows c.in_err-digit.ensures.grows

pub returns-in_err-push-clause-grows : goal.returns-in_err-push-clause-grows
returns-in_err-push-clause-grows c = Grows-trans _ _ _ c.loop-i.invariant.grows c.in_ok-digit.ensures.grows

pub loop-i-preserved : goal.loop-i-preserved
loop-i-preserved c = record {
  grows = Grows-trans _ _ _ c.loop-i.invariant.grows c.in_ok-digit.ensures.grows;
  len = grind (arith, common_steps);
  word = word_pushed _ _ _ _ c.in_ok-push.ensures.ok (word_grown _ _ _ c.in_ok-digit.ensures.grows c.loop-i.invariant.word) c.in_ok-digit.ensures.within;
  value = λ A h.
      let before = c.in_ok-digit.ensures.grows.kept A h in
      let la : c.loop-i.i < length c.as_slice-left.result.now = omega arith in
      let lb : c.loop-i.i < length c.as_slice-right.result.now = omega (arith, ap length c.as_slice-left.ensures, ap length c.as_slice-right.ensures) in
      bitwise_more A c.args.op c.loop-i.i c.as_slice-left.result.now c.as_slice-right.result.now c.loop-i.word _ _ _ c.in_ok-digit.digit c.loop-i.invariant.len la lb c.in_ok-push.ensures.ok c.index-left-i.is c.index-right-i.is (c.loop-i.invariant.value A before) (c.in_ok-digit.ensures.value A h);
}
