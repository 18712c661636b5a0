use Rattle.std.proofs.Common.{arith, ◌≡◌, ◌/◌, ◌%◌, ◌==◌, length}
use Rattle.sat_clause.specs.Literals.{is_true}
use Rattle.word_sums.proofs.Growth.{Grows-trans}
use Rattle.word_gates.proofs.Bounds.{parity, rest_least_next, rest_most_next, below_more, below_past}
use Rattle.word_gates.proofs.distances.is_below.Goals as goal

pub loop-x-preserved : goal.loop-x-preserved
loop-x-preserved c =
    let i = c.loop-x.x-index in
    let rest = c.loop-x.rest in
    let before = c.loop-x.invariant in
    record {
      grows = Grows-trans _ _ _ before.grows c.in_ok-next.ensures.grows;
      below = c.in_ok-next.ensures.within;
      least = rest_least_next (rest % 2 == 1) i rest (rest / 2) c.args.bound (parity rest) before.least;
      most = rest_most_next (rest % 2 == 1) i rest (rest / 2) c.args.bound (parity rest) before.most;
      value = λ A h. below_more A c.args.word.now c.args.bound i rest (rest / 2) c.x-item.result c.in_ok-next.next c.loop-x.below (rest % 2 == 1) c.loop-x-test.true c.x-item.is (parity rest) before.least before.most (before.value A (c.in_ok-next.ensures.grows.kept A h)) (c.in_ok-next.ensures.value A h);
    }

pub returns-then-rest-gt0-clause-value : goal.returns-then-rest-gt0-clause-value
returns-then-rest-gt0-clause-value c = λ A h.
    let len : length c.args.word.now ≡ c.loop-x.x-index = omega arith in
    below_past A c.args.word.now c.args.bound c.loop-x.x-index c.loop-x.rest (is_true A c.in_ok-always.always) len c.if-rest-gt0.true c.loop-x.invariant.least (c.in_ok-always.ensures.value A h)
