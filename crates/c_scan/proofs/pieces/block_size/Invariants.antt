use Rattle.std.proofs.Common.{◌≡◌, drop}
use Rattle.c_scan.specs.Fronts.{block_from}
use Rattle.c_scan.proofs.pieces.block_size.Given as goal

-- the end is still to come
abbrev pub invariant-loop-i : goal.invariant-loop-i
invariant-loop-i l = block_from l.i (drop l.i l.rest) ≡ block_from 0 l.rest
