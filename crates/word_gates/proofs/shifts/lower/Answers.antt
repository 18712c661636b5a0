use Rattle.std.proofs.Common.{arith, ◌+◌, ◌<◌, take, ◌∙◌}
use Rattle.std.proofs.lemmas.Nat.{one_shl}
use Rattle.sat_clause.specs.Literals.{is_true}
use Rattle.word_sums.specs.Words.{number, continued_value}
use Rattle.word_sums.proofs.Growth.{Grows-trans}
use Rattle.word_sums.proofs.Numbers.{number-take}
use Rattle.word_gates.proofs.Moves.{lowered_more}
use Rattle.word_gates.proofs.shifts.lower.Goals as goal

pub loop-i-preserved : goal.loop-i-preserved
loop-i-preserved c =
    let i = c.loop-i.i in
    let ds = c.args.distance.now in
    let lt : c.loop-i.i < 64 = omega arith in
    record {
      grows = Grows-trans _ _ _ c.loop-i.invariant.grows c.in_ok-lowered.ensures.grows;
      len = c.in_ok-lowered.ensures.len ∙ c.loop-i.invariant.len;
      word = c.in_ok-lowered.ensures.word;
      value = λ A h.
          let h0 = c.in_ok-lowered.ensures.grows.kept A h in
          let e = number-take A i ds c.index-distance-i.result c.loop-i-test.true c.index-distance-i.is in
          lowered_more (is_true A c.index-distance-i.result) (number A (take i ds)) (number A (take (i + 1) ds)) i _ (continued_value A c.args.fill c.args.bits.now) (continued_value A c.args.fill c.loop-i.word) (continued_value A c.args.fill c.in_ok-lowered.lowered) e (one_shl i 64 lt)
          (c.loop-i.invariant.value A h0) (c.in_ok-lowered.ensures.value A h);
    }

pub returns-in_err-lowered-clause-grows : goal.returns-in_err-lowered-clause-grows
returns-in_err-lowered-clause-grows c = Grows-trans _ _ _ c.loop-i.invariant.grows c.in_err-lowered.ensures.grows
