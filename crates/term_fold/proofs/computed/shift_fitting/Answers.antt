use Rattle.std.proofs.Common.{refl}
use Rattle.term_fold.proofs.Constants.{shl_fits}
use Rattle.term_fold.proofs.computed.shift_fitting.Goals as goal

pub returns : goal.returns
returns c = shl_fits c.args.shape c.args.other c.args.a c.args.b c.args.shape.width c.shl_at.result.fits c.requires.valid c.ranges.a c.ranges.b refl c.if-b-lt0.false c.if-b-shape.false c.requires.right c.shl_at.ensures.fits
