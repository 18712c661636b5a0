use Rattle.std.proofs.Common.{arith, rules, ◌≡◌, ◌+◌, ◌∷◌, drop, sym, ap, subst, ◌∙◌, to_z, of_z}
use Rattle.std.proofs.lemmas.Grind.{common_steps}
use Rattle.std.proofs.lemmas.Int.{to_z-of_z}
use Rattle.std.specs.Int.{w128}
use Rattle.std.specs.Option.{option_map}
use Rattle.std.specs.Prelude.{pos, ◌*ℤ◌}
use Rattle.kv_num.specs.IntType.{InRange, wrap_of}
use Rattle.c_kinds.specs.declared.types.Derivation.TheVariants.{Array}
use Rattle.c_kinds.specs.Integers.{size_type}
use Rattle.c_kinds.specs.Layouts.{bytes_by}
use Rattle.c_arithmetic.proofs.Wrapping.{size_step}
use Rattle.c_arithmetic.proofs.sizes.wrapped_bytes.Goals as goal

pub loop-derivation-preserved : goal.loop-derivation-preserved
loop-derivation-preserved c =
    let t = c.args.ctype.now in
    let k = size_type c.args.model in
    let i = c.loop-derivation.derivation-index in
    let count = c.loop-derivation.count in
    let next : drop i t.derived ≡ Array c.in-Array.length ∷ drop (i + 1) t.derived = grind (arith, common_steps) in
    let whole : to_z w128 (of_z w128 c.times-count.result) ≡ c.times-count.result = to_z-of_z w128 c.times-count.result (search rules) in
    let step : c.times-count.result ≡ wrap_of k (count *ℤ pos c.in-Array.length) = search rules in
    record {
      in_range = subst (InRange k) (sym whole) c.times-count.ensures.range;
      left =
          ap (λ x. option_map (λ bytes. wrap_of k (x *ℤ pos bytes)) (bytes_by c.args.model (drop (i + 1) t.derived) t.base)) (whole ∙ step)
          ∙ (size_step k count c.in-Array.length (bytes_by c.args.model (drop (i + 1) t.derived) t.base)
          ∙ (ap (λ ds. option_map (λ bytes. wrap_of k (count *ℤ pos bytes)) (bytes_by c.args.model ds t.base)) (sym next)
          ∙ (ap (λ x. option_map (λ bytes. wrap_of k (x *ℤ pos bytes)) (bytes_by c.args.model (drop i t.derived) t.base)) (sym c.loop-derivation.count-is) ∙ c.loop-derivation.invariant.left)));
    }
