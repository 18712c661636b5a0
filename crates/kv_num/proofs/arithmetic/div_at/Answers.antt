use Rattle.std.proofs.Common.{ap, ◌∙◌}
use Rattle.std.proofs.lemmas.Int.{quot_is}
use Rattle.std.specs.Int.{w128}
use Rattle.kv_num.specs.Shape.{wrap_at}
use Rattle.kv_num.proofs.Held.{quotient_held, fits_as}
use Rattle.kv_num.proofs.arithmetic.div_at.Goals as goal

pub returns-clause-value : goal.returns-clause-value
returns-clause-value c =
    c.shaped.ensures.value ∙ ap (wrap_at c.args.width c.args.signed) (quot_is w128 c.args.a c.args.b c.ranges.a c.ranges.b (quotient_held c.args.width c.args.signed (record { some = c.requires.some; few = c.requires.few }) c.args.a c.args.b c.requires.left))

pub returns-clause-fits : goal.returns-clause-fits
returns-clause-fits c =
    fits_as c.args.width c.args.signed c.shaped.result.fits _ _ (quot_is w128 c.args.a c.args.b c.ranges.a c.ranges.b (quotient_held c.args.width c.args.signed (record { some = c.requires.some; few = c.requires.few }) c.args.a c.args.b c.requires.left)) c.shaped.ensures.fits
