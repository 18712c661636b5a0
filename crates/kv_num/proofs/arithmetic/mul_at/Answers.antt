use Rattle.std.proofs.Common.{rules, ◌*ℤ◌, FitsSigned, ap, ◌∙◌}
use Rattle.std.proofs.lemmas.Int.{to_z-of_z}
use Rattle.std.specs.Int.{w128}
use Rattle.kv_num.specs.Shape.{wrap_at}
use Rattle.kv_num.proofs.Held.{held_product, exact_product, over_product, wrap_at-int_wrap, fits_as}
use Rattle.kv_num.proofs.arithmetic.mul_at.Goals as goal

pub returns-then-not-is_over-clause-value : goal.returns-then-not-is_over-clause-value
returns-then-not-is_over-clause-value c =
    let made : FitsSigned w128 c.wrap_at.result = search rules in
    let e = held_product c.args.a c.args.b _ c.ranges.a c.ranges.b c.overflowing_mul-product.ensures.value in
    simp to_z-of_z (c.wrap_at.ensures.value ∙ (ap (wrap_at c.args.width c.args.signed) e ∙ wrap_at-int_wrap c.args.width c.args.signed (record { some = c.requires.some; few = c.requires.few }) (c.args.a *ℤ c.args.b)))

pub returns-else-not-is_over-clause-value : goal.returns-else-not-is_over-clause-value
returns-else-not-is_over-clause-value c =
    let made : FitsSigned w128 c.wrap_at.result = search rules in
    let e = held_product c.args.a c.args.b _ c.ranges.a c.ranges.b c.overflowing_mul-product.ensures.value in
    simp to_z-of_z (c.wrap_at.ensures.value ∙ (ap (wrap_at c.args.width c.args.signed) e ∙ wrap_at-int_wrap c.args.width c.args.signed (record { some = c.requires.some; few = c.requires.few }) (c.args.a *ℤ c.args.b)))

pub returns-then-not-is_over-clause-fits : goal.returns-then-not-is_over-clause-fits
returns-then-not-is_over-clause-fits c =
    let p = c.overflowing_mul-product in
    fits_as c.args.width c.args.signed c.fits_at.result _ _ (exact_product c.args.a c.args.b p.result.0 p.result.1 c.ranges.a c.ranges.b p.ensures.value p.ensures.overflow c.if-not-is_over.true) c.fits_at.ensures

pub returns-else-not-is_over-clause-fits : goal.returns-else-not-is_over-clause-fits
returns-else-not-is_over-clause-fits c =
    let p = c.overflowing_mul-product in
    over_product c.args.width c.args.signed (record { some = c.requires.some; few = c.requires.few }) c.args.a c.args.b p.result.1 c.ranges.a c.ranges.b p.ensures.overflow c.if-not-is_over.false
