use Rattle.std.proofs.Common.{arith, ◌≡◌, ◌==◌, ◌+◌, ◌*◌, ◌^◌, not, length, if◌then◌else◌, ap, sym, ◌∙◌}
use Rattle.std.proofs.lemmas.List.{take_all}
use Rattle.std.proofs.lemmas.Grind.{common_steps}
use Rattle.sat_clause.specs.Literals.{is_true}
use Rattle.word_sums.specs.Words.{bit, number}
use Rattle.word_sums.proofs.Growth.{Grows-trans, literal_grown, word_grown, word_pushed}
use Rattle.word_sums.proofs.Pieces.{any_next}
use Rattle.word_gates.proofs.Negations.{negated_more, negated_none}
use Rattle.word_gates.proofs.signs.negated_digits.Goals as goal

pub returns-in_err-digit-clause-grows : goal.returns-in_err-digit-clause-grows
returns-in_err-digit-clause-grows c = Grows-trans _ _ _ c.loop-x.invariant.grows c.in_err-digit.ensures.grows

pub returns-in_err-more-clause-grows : goal.returns-in_err-more-clause-grows
returns-in_err-more-clause-grows c = Grows-trans _ _ _ c.loop-x.invariant.grows (Grows-trans _ _ _ c.in_ok-digit.ensures.grows c.in_err-more.ensures.grows)

pub returns-in_err-push-clause-grows : goal.returns-in_err-push-clause-grows
returns-in_err-push-clause-grows c = Grows-trans _ _ _ c.loop-x.invariant.grows (Grows-trans _ _ _ c.in_ok-digit.ensures.grows c.in_ok-more.ensures.grows)

pub loop-x-init : goal.loop-x-init
loop-x-init c = record {
  grows = c.in_ok-set.ensures.grows;
  len = grind (arith, common_steps);
  within = grind (arith, common_steps);
  set = c.in_ok-set.ensures.within;
  some = λ A h. c.in_ok-set.ensures.value A h;
  value = λ A h. negated_none A (is_true A c.args.test) c.new-negated.result c.new-negated.ensures;
}

pub returns-clause-some : goal.returns-clause-some
returns-clause-some c = λ A h. c.loop-x.invariant.some A h ∙ ap (λ z. not (number A z == 0)) (take_all c.loop-x.x-index c.args.word.now c.loop-x-test.false)

pub returns-clause-value : goal.returns-clause-value
returns-clause-value c = λ A h.
    let t = is_true A c.args.test in
    let i = c.loop-x.x-index in
    let n = number A c.loop-x.negated in
    let word = c.args.word.now in
    let e = take_all i word c.loop-x-test.false in
    let ends : c.loop-x.x-index ≡ length c.args.word.now = omega arith in
    ap (λ z. if t then n + number A z else n) (sym e)
    ∙ (c.loop-x.invariant.value A h ∙ (ap (λ z. if t then 2 ^ i * bit (not (number A z == 0)) else number A z) e ∙ ap (λ k. if t then 2 ^ k * bit (not (number A word == 0)) else number A word) ends))

pub loop-x-preserved : goal.loop-x-preserved
loop-x-preserved c =
    let both = Grows-trans _ _ _ c.in_ok-digit.ensures.grows c.in_ok-more.ensures.grows in
    record {
      grows = Grows-trans _ _ _ c.loop-x.invariant.grows both;
      len = grind (arith, common_steps);
      within = word_pushed _ _ _ _ c.in_ok-push.ensures.ok (word_grown _ _ _ both c.loop-x.invariant.within) (literal_grown _ _ _ c.in_ok-more.ensures.grows c.in_ok-digit.ensures.within);
      set = c.in_ok-more.ensures.within;
      some = λ A h. c.in_ok-more.ensures.value A h ∙ any_next A c.loop-x.x-index c.args.word.now c.x-item.result c.loop-x.set c.loop-x-test.true c.x-item.is (c.loop-x.invariant.some A (both.kept A h));
      value = λ A h. negated_more A c.loop-x.x-index (is_true A c.args.test) c.args.word.now c.loop-x.negated c.push.new.self c.x-item.result c.loop-x.set c.in_ok-digit.digit
          c.loop-x.invariant.len c.loop-x-test.true c.in_ok-push.ensures.ok c.x-item.is (c.loop-x.invariant.some A (both.kept A h)) (c.in_ok-digit.ensures.value A (c.in_ok-more.ensures.grows.kept A h)) (c.loop-x.invariant.value A (both.kept A h));
    }
