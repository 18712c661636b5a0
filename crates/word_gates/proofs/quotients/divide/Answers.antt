use Rattle.std.proofs.Common.{arith, ◌+◌, ◌-◌, ◌∷◌, length, drop, ap, ◌∙◌}
use Rattle.sat_clause.specs.Literals.{is_true}
use Rattle.word_sums.specs.Words.{bit, number}
use Rattle.word_sums.proofs.Growth.{Grows-trans, word_grown, word_below}
use Rattle.word_sums.proofs.Numbers.{bit-le}
use Rattle.word_sums.proofs.Pieces.{number-drop_next}
use Rattle.word_gates.proofs.Divisions.{quotient_more, remainder_more}
use Rattle.word_gates.proofs.quotients.divide.Goals as goal

pub returns-in_err-whole-clause-grows : goal.returns-in_err-whole-clause-grows
returns-in_err-whole-clause-grows c = c.loop-i.invariant.grows

pub loop-i-preserved : goal.loop-i-preserved
loop-i-preserved c =
    let x = c.index-a-a.result in
    let i = c.loop-i.i in
    let a = c.args.a.now in
    let b = c.args.b.now in
    let rest = c.in_ok-reduced.reduced.rest in
    let digit = c.in_ok-reduced.reduced.digit in
    let ew = c.in_ok-whole.ensures ∙ ap (λ z. x ∷ z) c.as_slice.ensures in
    let ed = c.in_ok-digits.ensures ∙ ap (λ z. digit ∷ z) c.as_slice-in-loop-i.ensures in
    record {
      grows = Grows-trans _ _ _ c.loop-i.invariant.grows c.in_ok-reduced.ensures.grows;
      quotient_len = omega (arith, ap length ed, c.loop-i.invariant.quotient_len);
      remainder_len = omega (arith, ap length ew, c.in_ok-reduced.ensures.len, c.loop-i.invariant.remainder_len);
      quotient = word_below _ _ _ _ ed (word_grown _ _ _ c.in_ok-reduced.ensures.grows c.loop-i.invariant.quotient) c.in_ok-reduced.ensures.digit;
      remainder = c.in_ok-reduced.ensures.rest;
      value = λ A h.
          let h0 = c.in_ok-reduced.ensures.grows.kept A h in
          quotient_more (number A b) (number A c.loop-i.quotient) (number A c.loop-i.remainder) (bit (is_true A x)) (number A (drop (length a - i) a)) (number A (drop (length a - (i + 1)) a)) (number A c.in_ok-whole.whole) (number A rest) (bit (is_true A digit)) (number A c.in_ok-digits.digits)
          (c.loop-i.invariant.value A h0) (number-drop_next A a i x c.loop-i-test.true c.index-a-a.is) (ap (number A) ew) (c.in_ok-reduced.ensures.value A h) (ap (number A) ed);
      small = λ A h some.
          let h0 = c.in_ok-reduced.ensures.grows.kept A h in
          remainder_more (number A b) (number A c.loop-i.remainder) (bit (is_true A x)) (number A c.in_ok-whole.whole) (number A rest) (is_true A digit) (bit-le (is_true A x)) (c.loop-i.invariant.small A h0 some) (ap (number A) ew) (c.in_ok-reduced.ensures.taken A h) (c.in_ok-reduced.ensures.value A h);
    }

pub returns-in_err-reduced-clause-grows : goal.returns-in_err-reduced-clause-grows
returns-in_err-reduced-clause-grows c = Grows-trans _ _ _ c.loop-i.invariant.grows c.in_err-reduced.ensures.grows

pub returns-in_err-digits-clause-grows : goal.returns-in_err-digits-clause-grows
returns-in_err-digits-clause-grows c = Grows-trans _ _ _ c.loop-i.invariant.grows c.in_ok-reduced.ensures.grows
