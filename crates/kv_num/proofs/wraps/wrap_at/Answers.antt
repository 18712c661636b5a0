use Rattle.kv_num.proofs.Held.{wrap_computed}
use Rattle.kv_num.proofs.wraps.wrap_at.Goals as goal

pub returns-clause-value : goal.returns-clause-value
returns-clause-value c =
    wrap_computed c.args.width c.args.signed (record { some = c.requires.some; few = c.requires.few }) c.args.n c.size-size.result c.below-below.result c.rem_euclid.result c.rem_euclid-2.result
    c.ranges.n c.size-size.ensures.value c.below-below.ensures.value c.rem_euclid.ensures.value c.rem_euclid-2.ensures.value
