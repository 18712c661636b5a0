use Rattle.std.proofs.Common.{rules, ◌≢◌, ◌∙◌, ap, to_z, of_z}
use Rattle.std.specs.Int.{w128}
use Rattle.std.specs.Prelude.{pos}
use Rattle.std.proofs.lemmas.Int.{to_z-of_z}
use Rattle.kv_num.specs.Quotient.{quotient_of, remainder_of}
use Rattle.c_model.specs.Arithmetic.{remainder}
use Rattle.c_values.proofs.Ranges.{remainder_is}
use Rattle.c_values.proofs.numbers.remainder.Goals as goal

pub returns : goal.returns
returns c =
    let a = to_z w128 (of_z w128 c.args.a) in
    let b = to_z w128 (of_z w128 c.args.b) in
    let other : b ≢ pos 0 = search rules in
    c.fitting.ensures (quotient_of a b) (remainder_of a b) c.rem.ensures.value c.rem.ensures.fits
    ∙ (remainder_is c.args.checks c.args.kind a b other
    ∙ (ap (λ x. remainder c.args.checks c.args.kind x b) (to_z-of_z w128 c.args.a c.ranges.a)
    ∙ ap (λ x. remainder c.args.checks c.args.kind c.args.a x) (to_z-of_z w128 c.args.b c.ranges.b)))
