use Rattle.std.proofs.Common.{rules, ◌≢◌, ◌∙◌, ap, to_z, of_z}
use Rattle.std.specs.Int.{w128}
use Rattle.std.specs.Prelude.{pos}
use Rattle.std.proofs.lemmas.Int.{to_z-of_z}
use Rattle.kv_num.specs.IntType.{wrap_of}
use Rattle.kv_num.specs.Quotient.{quotient_of}
use Rattle.c_model.specs.Arithmetic.{quotient}
use Rattle.c_values.proofs.Ranges.{quotient_is}
use Rattle.c_values.proofs.numbers.quotient.Goals as goal

pub returns : goal.returns
returns c =
    let a = to_z w128 (of_z w128 c.args.a) in
    let b = to_z w128 (of_z w128 c.args.b) in
    let other : b ≢ pos 0 = search rules in
    c.fitting.ensures (quotient_of a b) (wrap_of c.args.kind (quotient_of a b)) c.div.ensures.value c.div.ensures.fits
    ∙ (quotient_is c.args.checks c.args.kind a b other
    ∙ (ap (λ x. quotient c.args.checks c.args.kind x b) (to_z-of_z w128 c.args.a c.ranges.a)
    ∙ ap (λ x. quotient c.args.checks c.args.kind c.args.a x) (to_z-of_z w128 c.args.b c.ranges.b)))
