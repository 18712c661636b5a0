use Rattle.std.proofs.Common.{ℤ, sym, subst, ◌∙◌}
use Rattle.std.proofs.lemmas.Int.{quot_is, rem_is}
use Rattle.std.specs.Int.{w128}
use Rattle.kv_num.specs.Shape.{InShape}
use Rattle.kv_num.proofs.Held.{quotient_held, remainder_is, range-int_rem, fits_as}
use Rattle.kv_num.proofs.arithmetic.rem_at.Goals as goal

pub returns-clause-value : goal.returns-clause-value
returns-clause-value c = rem_is w128 c.args.a c.args.b c.ranges.a c.ranges.b ∙ remainder_is c.args.a c.args.b

pub returns-clause-range : goal.returns-clause-range
returns-clause-range c =
    let P : ℤ → Type 0 = λ n. InShape c.args.width c.args.signed n in
    subst P (sym (rem_is w128 c.args.a c.args.b c.ranges.a c.ranges.b)) (range-int_rem c.args.width c.args.signed (record { some = c.requires.some; few = c.requires.few }) c.args.a c.args.b c.requires.left)

pub returns-clause-fits : goal.returns-clause-fits
returns-clause-fits c =
    fits_as c.args.width c.args.signed c.fits_at.result _ _ (quot_is w128 c.args.a c.args.b c.ranges.a c.ranges.b (quotient_held c.args.width c.args.signed (record { some = c.requires.some; few = c.requires.few }) c.args.a c.args.b c.requires.left)) c.fits_at.ensures
