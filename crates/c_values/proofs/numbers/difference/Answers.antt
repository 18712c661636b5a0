use Rattle.std.proofs.Common.{◌∙◌, ap, to_z, of_z}
use Rattle.std.specs.Int.{w128}
use Rattle.std.specs.Prelude.{◌-ℤ◌}
use Rattle.std.proofs.lemmas.Int.{to_z-of_z}
use Rattle.kv_num.specs.IntType.{wrap_of}
use Rattle.c_model.specs.Arithmetic.{wrapped}
use Rattle.c_values.proofs.numbers.difference.Goals as goal

pub returns : goal.returns
returns c =
    let exact = to_z w128 (of_z w128 c.args.a) -ℤ to_z w128 (of_z w128 c.args.b) in
    c.fitting.ensures exact (wrap_of c.args.kind exact) c.sub.ensures.value c.sub.ensures.fits
    ∙ (ap (λ x. wrapped c.args.checks c.args.kind (x -ℤ to_z w128 (of_z w128 c.args.b))) (to_z-of_z w128 c.args.a c.ranges.a)
    ∙ ap (λ x. wrapped c.args.checks c.args.kind (c.args.a -ℤ x)) (to_z-of_z w128 c.args.b c.ranges.b))
