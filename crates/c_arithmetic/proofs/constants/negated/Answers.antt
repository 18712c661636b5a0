use Rattle.std.proofs.Common.{◌∙◌, ap, to_z, of_z}
use Rattle.std.specs.Int.{w128}
use Rattle.std.specs.Prelude.{pos, ◌+ℤ◌, ◌-ℤ◌, ◌*ℤ◌}
use Rattle.std.proofs.lemmas.Int.{to_z-of_z}
use Rattle.c_kinds.specs.Constants.{computed}
use Rattle.c_arithmetic.proofs.Divisions.{taken_from_zero}
use Rattle.c_arithmetic.proofs.constants.negated.Goals as goal

pub returns : goal.returns
returns c =
    c.computed.ensures (pos 0 -ℤ to_z w128 (of_z w128 c.args.a)) c.sub.ensures.value c.sub.ensures.fits
    ∙ (ap (λ x. computed c.args.kind (pos 0 -ℤ x)) (to_z-of_z w128 c.args.a c.ranges.a) ∙ ap (computed c.args.kind) (taken_from_zero c.args.a))
