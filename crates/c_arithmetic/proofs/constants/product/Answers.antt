use Rattle.std.proofs.Common.{◌∙◌, ap, to_z, of_z}
use Rattle.std.specs.Int.{w128}
use Rattle.std.specs.Prelude.{pos, ◌+ℤ◌, ◌-ℤ◌, ◌*ℤ◌}
use Rattle.std.proofs.lemmas.Int.{to_z-of_z}
use Rattle.c_kinds.specs.Constants.{computed}
use Rattle.c_arithmetic.proofs.constants.product.Goals as goal

pub returns : goal.returns
returns c =
    c.computed.ensures (to_z w128 (of_z w128 c.args.a) *ℤ to_z w128 (of_z w128 c.args.b)) c.mul.ensures.value c.mul.ensures.fits
    ∙ (ap (λ x. computed c.args.kind (x *ℤ to_z w128 (of_z w128 c.args.b))) (to_z-of_z w128 c.args.a c.ranges.a)
    ∙ ap (λ x. computed c.args.kind (c.args.a *ℤ x)) (to_z-of_z w128 c.args.b c.ranges.b))
