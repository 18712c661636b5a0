use Rattle.std.proofs.Common.{arith, ◌≡◌, ◌≤◌, ◌+◌, ◌*◌, ◌∷◌, drop, sym, ap, ◌∙◌}
use Rattle.std.proofs.lemmas.Grind.{common_steps}
use Rattle.std.specs.Prelude.{min}
use Rattle.c_kinds.specs.declared.types.Derivation.TheVariants.{Pointer, Array}
use Rattle.c_kinds.specs.Layouts.{cells_by}
use Rattle.c_arithmetic.proofs.Counts.{at_most, count_step, count_last}
use Rattle.c_arithmetic.proofs.sizes.cells_by.Goals as goal

pub returns-in-Pointer : goal.returns-in-Pointer
returns-in-Pointer c =
    let i = c.loop-derivation.derivation-index in
    let next : drop i c.args.derived.now ≡ Pointer c.in-Pointer.is_const ∷ drop (i + 1) c.args.derived.now = grind (arith, common_steps) in
    sym (count_last c.loop-derivation.count 18446744073709551615 c.loop-derivation.invariant.few)
    ∙ (ap (λ ds. min (c.loop-derivation.count * cells_by c.args.structs.now ds c.args.base) 18446744073709551615) (sym next) ∙ c.loop-derivation.invariant.left)

pub loop-derivation-preserved : goal.loop-derivation-preserved
loop-derivation-preserved c =
    let i = c.loop-derivation.derivation-index in
    let rest = cells_by c.args.structs.now (drop (i + 1) c.args.derived.now) c.args.base in
    let next : drop i c.args.derived.now ≡ Array c.in-Array.length ∷ drop (i + 1) c.args.derived.now = grind (arith, common_steps) in
    record {
      few = omega (arith, c.saturating_mul-count.ensures, at_most (c.loop-derivation.count * c.in-Array.length) 18446744073709551615);
      left =
          ap (λ x. min (x * rest) 18446744073709551615) c.saturating_mul-count.ensures
          ∙ (count_step c.loop-derivation.count c.in-Array.length rest 18446744073709551615
          ∙ (ap (λ ds. min (c.loop-derivation.count * cells_by c.args.structs.now ds c.args.base) 18446744073709551615) (sym next) ∙ c.loop-derivation.invariant.left));
    }
