use Rattle.std.proofs.Common.{ap, ◌∙◌}
use Rattle.kv_num.specs.Shape.{wrap_at}
use Rattle.kv_num.proofs.Held.{held_difference, difference_held, fits_as}
use Rattle.kv_num.proofs.arithmetic.sub_at.Goals as goal

pub returns-clause-value : goal.returns-clause-value
returns-clause-value c =
    let exact = difference_held c.args.width c.args.signed (record { some = c.requires.some; few = c.requires.few }) c.args.a c.args.b c.requires.left c.requires.right in
    c.shaped.ensures.value ∙ ap (wrap_at c.args.width c.args.signed) (held_difference c.args.a c.args.b c.ranges.a c.ranges.b exact)

pub returns-clause-fits : goal.returns-clause-fits
returns-clause-fits c =
    let exact = difference_held c.args.width c.args.signed (record { some = c.requires.some; few = c.requires.few }) c.args.a c.args.b c.requires.left c.requires.right in
    fits_as c.args.width c.args.signed c.shaped.result.fits _ _ (held_difference c.args.a c.args.b c.ranges.a c.ranges.b exact) c.shaped.ensures.fits
