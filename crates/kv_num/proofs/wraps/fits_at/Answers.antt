use Rattle.kv_num.proofs.Test.{fits_test}
use Rattle.kv_num.proofs.wraps.fits_at.Goals as goal

pub returns-then-below-n : goal.returns-then-below-n
returns-then-below-n c =
    fits_test c.args.width c.args.signed c.args.n c.size.result c.below-below.result c.ranges.n c.size.ensures.value c.below-below.ensures.value
    c.size.ensures.bound c.below-below.ensures.bound c.if-below-n.true
