use Rattle.std.proofs.Common.{◌∙◌, ap, to_z, of_z}
use Rattle.std.specs.Int.{w128}
use Rattle.std.proofs.lemmas.Int.{to_z-of_z}
use Rattle.kv_num.specs.Shift.{left_of}
use Rattle.c_model.specs.Arithmetic.{if_fitting, shifted_left}
use Rattle.c_values.proofs.Ranges.{raised_is}
use Rattle.c_values.proofs.numbers.raised.Goals as goal

pub returns : goal.returns
returns c =
    let a = to_z w128 (of_z w128 c.args.a) in
    let num = c.shl-num.result in
    c.if_fitting.ensures
    ∙ (ap (λ t. if_fitting t num.fits num.value) c.is_shift_asked.ensures
    ∙ (raised_is c.args.checks c.args.kind num a (left_of a c.args.distance) c.shl-num.ensures.value c.shl-num.ensures.fits
    ∙ ap (λ x. shifted_left c.args.checks c.args.kind x (left_of x c.args.distance)) (to_z-of_z w128 c.args.a c.ranges.a)))
