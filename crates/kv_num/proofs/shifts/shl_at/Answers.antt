use Rattle.std.proofs.Common.{rules, FitsSigned, ap, ◌∙◌}
use Rattle.std.proofs.lemmas.Int.{to_z-of_z}
use Rattle.std.specs.Int.{w128}
use Rattle.kv_num.specs.Shape.{wrap_at}
use Rattle.kv_num.specs.Shift.{left_of}
use Rattle.kv_num.proofs.Held.{held_multiple, multiple_checked, shift_passes, shift_fails}
use Rattle.kv_num.proofs.shifts.shl_at.Goals as goal
use Rattle.kv_num.proofs.shifts.shl_at.Goals.{then-a-ge0, else-a-ge0}

pub overflow_mul-a : goal.overflow_mul-a
overflow_mul-a c = multiple_checked c.args.width c.args.signed (record { some = c.requires.some; few = c.requires.few }) c.args.a c.args.d c.requires.left c.requires.distance

pub returns-clause-value : goal.returns-clause-value
returns-clause-value c =
    let made : FitsSigned w128 c.shaped-num.result.value = search rules in
    simp to_z-of_z (c.shaped-num.ensures.value ∙ ap (wrap_at c.args.width c.args.signed) (held_multiple c.args.width c.args.signed (record { some = c.requires.some; few = c.requires.few }) c.args.a c.args.d c.requires.left c.requires.distance))

pub returns-clause-fits : goal.returns-clause-fits
returns-clause-fits c =
    let e = held_multiple c.args.width c.args.signed (record { some = c.requires.some; few = c.requires.few }) c.args.a c.args.d c.requires.left c.requires.distance in
    elim c.if-a-ge0.branch [
      | then-a-ge0 w ↦ shift_passes c.args.width c.args.signed c.args.a _ _ _ _ c.ranges.a w.result-is w.if-a-ge0.true c.shaped-num.ensures.fits e
      | else-a-ge0 w ↦ shift_fails c.args.width c.args.signed c.args.a (left_of c.args.a c.args.d) _ c.ranges.a w.result-is w.if-a-ge0.false
    ]
