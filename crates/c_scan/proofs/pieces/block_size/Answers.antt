use Rattle.std.proofs.Common.{arith}
use Rattle.c_scan.proofs.Scans.{block_later}
use Rattle.c_scan.proofs.pieces.block_size.Goals as goal

pub loop-i-preserved : goal.loop-i-preserved
loop-i-preserved c = block_later c.loop-i.i c.loop-i.i c.args.rest.now _ (omega arith) c.if-starts_with.ensures.value c.loop-i.invariant
