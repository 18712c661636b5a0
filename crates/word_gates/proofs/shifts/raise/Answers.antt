use Rattle.std.proofs.Common.{arith, ◌<◌, ◌+◌, ◌*◌, ◌%◌, ◌^◌, nat_lt, not, length, take, ap, subst, sym, ◌∙◌}
use Rattle.std.proofs.lemmas.Nat.{one_shl, pow_pos}
use Rattle.std.proofs.lemmas.List.{take_all}
use Rattle.sat_clause.specs.Literals.{is_true}
use Rattle.word_sums.specs.Words.{number, IsWordOf}
use Rattle.word_sums.proofs.Growth.{Grows-trans, word_grown, word_literal}
use Rattle.word_sums.proofs.Numbers.{number-take}
use Rattle.word_gates.proofs.Moves.{raised_none, lost_none, raised_more, lost_more}
use Rattle.word_gates.proofs.shifts.raise.Goals as goal

pub loop-i-init : goal.loop-i-init
loop-i-init c = record {
  grows = c.in_ok-lost.ensures.grows;
  len = ap length c.in_ok-word.ensures;
  word = subst (IsWordOf c.constant.new.self) (sym c.in_ok-word.ensures) (word_grown _ _ _ c.in_ok-lost.ensures.grows c.requires.word);
  lost = c.in_ok-lost.ensures.within;
  value = λ A h. raised_none A c.args.bits.now c.in_ok-word.word c.args.distance.now c.in_ok-word.ensures;
  over = λ A h. lost_none A c.args.bits.now c.args.distance.now (is_true A c.in_ok-lost.lost) (c.in_ok-lost.ensures.value A h);
}

pub loop-i-preserved : goal.loop-i-preserved
loop-i-preserved c =
    let i = c.loop-i.i in
    let ds = c.args.distance.now in
    let n = length c.args.bits.now in
    let lt : c.loop-i.i < 64 = omega arith in
    let p = one_shl i 64 lt in
    let len = c.loop-i.invariant.len in
    record {
      grows = Grows-trans _ _ _ c.loop-i.invariant.grows c.in_ok-raised.ensures.grows;
      len = c.in_ok-raised.ensures.len ∙ len;
      word = c.in_ok-raised.ensures.word;
      lost = c.in_ok-raised.ensures.lost;
      value = λ A h.
          let h0 = c.in_ok-raised.ensures.grows.kept A h in
          let t = is_true A c.index-distance-i.result in
          let e = number-take A i ds c.index-distance-i.result c.loop-i-test.true c.index-distance-i.is in
          raised_more t (number A (take i ds)) (number A (take (i + 1) ds)) i _ (number A c.args.bits.now) (2 ^ n) (number A c.loop-i.word) (number A c.in_ok-raised.raised.word) e p (c.loop-i.invariant.value A h0)
          (rw len at (c.in_ok-raised.ensures.value A h));
      over = λ A h.
          let h0 = c.in_ok-raised.ensures.grows.kept A h in
          let t = is_true A c.index-distance-i.result in
          let e = number-take A i ds c.index-distance-i.result c.loop-i-test.true c.index-distance-i.is in
          lost_more t (number A (take i ds)) (number A (take (i + 1) ds)) i _ (number A c.args.bits.now) (2 ^ n) (number A c.loop-i.word) (is_true A c.loop-i.lost) (is_true A c.in_ok-raised.raised.lost) (pow_pos n) e p (c.loop-i.invariant.value A h0) (c.loop-i.invariant.over A h0)
          (rw len at (c.in_ok-raised.ensures.over A h));
    }

pub returns-in_err-lost-clause-grows : goal.returns-in_err-lost-clause-grows
returns-in_err-lost-clause-grows c = c.in_err-lost.ensures.grows

pub returns-in_err-raised-clause-grows : goal.returns-in_err-raised-clause-grows
returns-in_err-raised-clause-grows c = Grows-trans _ _ _ c.loop-i.invariant.grows c.in_err-raised.ensures.grows

pub raise_where-requires-clause-word : goal.raise_where-requires-clause-word
raise_where-requires-clause-word c = c.loop-i.invariant.word

pub raise_where-requires-clause-test : goal.raise_where-requires-clause-test
raise_where-requires-clause-test c = word_literal _ _ _ _ _ c.loop-i.invariant.grows c.requires.distance c.loop-i-test.true c.index-distance-i.is

pub returns-clause-value : goal.returns-clause-value
returns-clause-value c = λ A h.
    let n = number A c.args.bits.now in
    c.loop-i.invariant.value A h ∙ ap (λ z. n * 2 ^ number A z % 2 ^ length c.args.bits.now) (take_all c.loop-i.i c.args.distance.now c.loop-i-test.false)

pub returns-clause-over : goal.returns-clause-over
returns-clause-over c = λ A h.
    let n = number A c.args.bits.now in
    c.loop-i.invariant.over A h ∙ ap (λ z. not (nat_lt (n * 2 ^ number A z) (2 ^ length c.args.bits.now))) (take_all c.loop-i.i c.args.distance.now c.loop-i-test.false)
