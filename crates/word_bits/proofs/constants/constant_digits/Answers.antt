use Rattle.std.proofs.Common.{arith, to_z, of_z, ◌∙◌}
use Rattle.std.specs.Int.{w128}
use Rattle.std.proofs.lemmas.Grind.{common_steps}
use Rattle.word_sums.proofs.Growth.{Grows-trans, word_grown, word_pushed}
use Rattle.word_bits.proofs.Steps.{constant_more}
use Rattle.word_bits.proofs.constants.constant_digits.Goals as goal

pub returns-in_err-digit-clause-grows : goal.returns-in_err-digit-clause-grows
returns-in_err-digit-clause-grows c = Grows-trans _ _ _ c.loop-i.invariant.grows c.in_err-digit.ensures.grows

pub returns-in_err-push-clause-grows : goal.returns-in_err-push-clause-grows
returns-in_err-push-clause-grows c = Grows-trans _ _ _ c.loop-i.invariant.grows c.in_ok-digit.ensures.grows

pub loop-i-preserved : goal.loop-i-preserved
loop-i-preserved c = record {
  grows = Grows-trans _ _ _ c.loop-i.invariant.grows c.in_ok-digit.ensures.grows;
  len = grind (arith, common_steps);
  word = word_pushed _ _ _ _ c.in_ok-push.ensures.ok (word_grown _ _ _ c.in_ok-digit.ensures.grows c.loop-i.invariant.word) c.in_ok-digit.ensures.within;
  value = λ A h.
      let before = c.in_ok-digit.ensures.grows.kept A h in
      constant_more A c.loop-i.i (to_z w128 (of_z w128 c.args.n)) c.loop-i.word _ c.in_ok-digit.digit c.loop-i.invariant.len c.in_ok-push.ensures.ok (c.loop-i.invariant.value A before) (c.in_ok-digit.ensures.value A h ∙ c.is_set.ensures);
}
