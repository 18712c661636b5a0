use Rattle.std.proofs.Common.{rules, ◌≢◌, ◌∙◌, ap, subst, to_z, of_z}
use Rattle.std.specs.Int.{w128}
use Rattle.std.specs.Prelude.{pos}
use Rattle.std.proofs.lemmas.Int.{to_z-of_z}
use Rattle.kv_num.specs.Quotient.{remainder_of}
use Rattle.c_kinds.specs.Constants.{divided}
use Rattle.kv_num.specs.IntType.{InRange}
use Rattle.c_arithmetic.proofs.Divisions.{remainder_wrapped}
use Rattle.c_arithmetic.proofs.constants.remainder.Goals as goal

pub returns-else-b-eq0 : goal.returns-else-b-eq0
returns-else-b-eq0 c =
    let k = c.args.kind in
    let a = to_z w128 (of_z w128 c.args.a) in
    let b = to_z w128 (of_z w128 c.args.b) in
    let other : b ≢ pos 0 = search rules in
    let wrapped = c.rem.ensures.value ∙ remainder_wrapped k a b (subst (InRange k) c.rem.ensures.value c.rem.ensures.range) in
    c.divided.ensures k a b (remainder_of a b) other wrapped c.rem.ensures.fits
    ∙ (ap (λ x. divided k x b (remainder_of x b)) (to_z-of_z w128 c.args.a c.ranges.a) ∙ ap (λ x. divided k c.args.a x (remainder_of c.args.a x)) (to_z-of_z w128 c.args.b c.ranges.b))
