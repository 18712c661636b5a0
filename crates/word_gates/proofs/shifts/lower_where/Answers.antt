use Rattle.std.proofs.Common.{arith, ◌≤◌, ◌++◌, length, ap, ◌∙◌}
use Rattle.std.proofs.Math.ListN.{replicate}
use Rattle.kv_num.specs.Shift.{right_of}
use Rattle.sat_clause.specs.Literals.{is_true}
use Rattle.word_sums.specs.Words.{number, continued_value}
use Rattle.word_sums.proofs.Pieces.{rest_is}
use Rattle.word_gates.proofs.Moves.{lowered_value, lowered_length, lowered_choice, swapped_choice}
use Rattle.word_gates.proofs.shifts.lower_where.Goals as goal

pub returns-clause-value : goal.returns-clause-value
returns-clause-value c = λ A h.
    let bits = c.as_slice-bits.result.now in
    let e = c.as_slice-bits.ensures in
    let p = c.args.places in
    let f = c.args.fill in
    let room : c.args.places ≤ length bits = omega (arith, ap length e) in
    let made = c.in_ok-moved.ensures ∙ ap (λ z. z ++ replicate p f) (rest_is p bits room) in
    let r = lowered_value A bits c.in_ok-moved.moved p f room made in
    let lm = lowered_length A bits c.in_ok-moved.moved p f room made ∙ ap length e in
    lowered_choice A (is_true A c.args.test) f p c.args.word.now c.in_ok-moved.moved c.in_ok-chosen.chosen c.in_ok-chosen.ensures.len lm
    (c.in_ok-chosen.ensures.value A h ∙ swapped_choice A c.args.test c.complement.result (number A c.args.word.now) (number A c.in_ok-moved.moved) c.complement.ensures) (r ∙ ap (λ z. right_of (continued_value A f z) p) e)
