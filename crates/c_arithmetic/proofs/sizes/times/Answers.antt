use Rattle.std.proofs.Common.{rules, ◌≡◌, ◌∙◌, ap, to_z, of_z, FitsSigned}
use Rattle.std.specs.Int.{w128}
use Rattle.std.specs.Prelude.{◌*ℤ◌}
use Rattle.std.proofs.lemmas.Int.{to_z-of_z}
use Rattle.kv_num.specs.IntType.{wrap_of}
use Rattle.c_arithmetic.proofs.Wrapping.{wrapped_right}
use Rattle.c_arithmetic.proofs.sizes.times.Goals as goal

pub returns-clause-value : goal.returns-clause-value
returns-clause-value c =
    let k = c.size_type-kind.result in
    let fits : FitsSigned w128 c.mul.result.value = search rules in
    let size : to_z w128 (of_z w128 c.wrap.result) ≡ wrap_of k c.args.size = to_z-of_z w128 c.wrap.result (search rules) ∙ (c.wrap.ensures.value ∙ ap (wrap_of k) (to_z-of_z w128 c.args.size c.ranges.size)) in
    to_z-of_z w128 c.mul.result.value fits ∙ (c.mul.ensures.value
    ∙ (ap (λ x. wrap_of k (x *ℤ to_z w128 (of_z w128 c.wrap.result))) (to_z-of_z w128 c.args.count c.ranges.count)
    ∙ (ap (λ x. wrap_of k (c.args.count *ℤ x)) size ∙ (wrapped_right k c.args.count c.args.size ∙ ap (λ t. wrap_of t (c.args.count *ℤ c.args.size)) c.size_type-kind.ensures))))
