use Rattle.std.proofs.Common.{nat_lt, length, ap, ◌∙◌, pos, ◌+ℤ◌}
use Rattle.kv_num.specs.Shape.{below_at}
use Rattle.sat_clause.specs.Literals.{is_true}
use Rattle.word_sums.specs.Words.{number, word_value}
use Rattle.word_sums.proofs.Orders.{less_value}
use Rattle.word_sums.proofs.compares.less.Goals as goal

pub returns-clause-value : goal.returns-clause-value
returns-clause-value c = λ A h.
    let x = c.in_ok-x.x in
    let y = c.in_ok-y.y in
    let s = c.args.signed in
    less_value A (number A x) (number A y) (word_value A s c.args.a.now) (word_value A s c.args.b.now) (below_at (length c.args.a.now) s) (is_true A c.in_ok-below.below)
    (c.in_ok-x.ensures.value A)
    (c.in_ok-y.ensures.value A ∙ ap (λ k. word_value A s c.args.b.now +ℤ pos (below_at k s)) c.requires.same)
    (c.in_ok-below.ensures.value A h ∙ (ap (λ z. nat_lt (number A z) (number A c.as_slice-2.result.now)) c.as_slice.ensures ∙ ap (λ z. nat_lt (number A x) (number A z)) c.as_slice-2.ensures))
