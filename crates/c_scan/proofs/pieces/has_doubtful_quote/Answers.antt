use Rattle.std.proofs.Common.{arith}
use Rattle.c_scan.proofs.Scans.{doubtful_later}
use Rattle.c_scan.proofs.pieces.has_doubtful_quote.Goals as goal

pub loop-i-preserved : goal.loop-i-preserved
loop-i-preserved c = doubtful_later c.loop-i.i c.args.text.now _ (omega arith) c.if-starts_with.ensures.value c.loop-i.invariant
