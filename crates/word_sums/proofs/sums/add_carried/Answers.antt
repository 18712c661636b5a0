use Rattle.std.proofs.Common.{arith, ◌<◌, ◌+◌, ◌*◌, length, ap, ◌∙◌}
use Rattle.std.proofs.lemmas.Grind.{common_steps}
use Rattle.sat_clause.specs.Literals.{is_true}
use Rattle.word_sums.specs.Words.{bit}
use Rattle.word_sums.proofs.Growth.{Grows-trans, literal_grown, word_grown, word_pushed, word_literal}
use Rattle.word_sums.proofs.Totals.{sum_more}
use Rattle.word_sums.proofs.sums.add_carried.Goals as goal

pub add_bits-requires-clause-first : goal.add_bits-requires-clause-first
add_bits-requires-clause-first c = word_literal _ _ _ _ _ c.loop-i.invariant.grows c.requires.left c.loop-i-test.true c.index-a-i.is

pub add_bits-requires-clause-second : goal.add_bits-requires-clause-second
add_bits-requires-clause-second c = let lb : c.loop-i.i < length c.args.b.now = omega arith in word_literal _ _ _ _ _ c.loop-i.invariant.grows c.requires.right lb c.index-b-i.is

pub returns-in_err-sum-clause-grows : goal.returns-in_err-sum-clause-grows
returns-in_err-sum-clause-grows c = Grows-trans _ _ _ c.loop-i.invariant.grows c.in_err-sum.ensures.grows

pub returns-in_err-next-clause-grows : goal.returns-in_err-next-clause-grows
returns-in_err-next-clause-grows c = Grows-trans _ _ _ c.loop-i.invariant.grows (Grows-trans _ _ _ c.in_ok-sum.ensures.grows c.in_err-next.ensures.grows)

pub returns-in_err-push-clause-grows : goal.returns-in_err-push-clause-grows
returns-in_err-push-clause-grows c = Grows-trans _ _ _ c.loop-i.invariant.grows (Grows-trans _ _ _ c.in_ok-sum.ensures.grows c.in_ok-next.ensures.grows)

pub loop-i-preserved : goal.loop-i-preserved
loop-i-preserved c =
    let both = Grows-trans _ _ _ c.in_ok-sum.ensures.grows c.in_ok-next.ensures.grows in
    record {
      grows = Grows-trans _ _ _ c.loop-i.invariant.grows both;
      len = grind (arith, common_steps);
      word = word_pushed _ _ _ _ c.in_ok-push.ensures.ok (word_grown _ _ _ both c.loop-i.invariant.word) (literal_grown _ _ _ c.in_ok-next.ensures.grows c.in_ok-sum.ensures.digit);
      out = c.in_ok-next.ensures.within;
      value = λ A h.
          let h1 = c.in_ok-next.ensures.grows.kept A h in
          let h0 = c.in_ok-sum.ensures.grows.kept A h1 in
          let i = c.loop-i.i in
          let xs = c.args.a.now in
          let ys = c.args.b.now in
          let lb : c.loop-i.i < length c.args.b.now = omega arith in
          sum_more A i (bit (is_true A c.args.carry)) xs ys c.loop-i.word _ _ _ c.in_ok-sum.sum.digit c.loop-i.out c.in_ok-next.next c.loop-i.invariant.len c.loop-i-test.true lb c.in_ok-push.ensures.ok c.index-a-i.is c.index-b-i.is (c.loop-i.invariant.value A h0)
          (ap (λ z. bit (is_true A c.in_ok-sum.sum.digit) + 2 * bit z) (c.in_ok-next.ensures.value A h) ∙ c.in_ok-sum.ensures.value A h1);
    }
