use Rattle.std.proofs.Common.{◌∙◌, ap, to_z, of_z}
use Rattle.std.specs.Int.{w128}
use Rattle.std.specs.Prelude.{pos, ◌-ℤ◌}
use Rattle.std.proofs.lemmas.Int.{to_z-of_z}
use Rattle.kv_num.specs.IntType.{wrap_of}
use Rattle.c_model.specs.Arithmetic.{wrapped}
use Rattle.c_values.proofs.numbers.negated.Goals as goal

pub returns : goal.returns
returns c =
    let exact = pos 0 -ℤ to_z w128 (of_z w128 c.args.a) in
    c.fitting.ensures exact (wrap_of c.args.kind exact) c.sub.ensures.value c.sub.ensures.fits
    ∙ ap (λ x. wrapped c.args.checks c.args.kind (pos 0 -ℤ x)) (to_z-of_z w128 c.args.a c.ranges.a)
