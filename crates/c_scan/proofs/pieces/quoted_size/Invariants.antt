use Rattle.std.proofs.Common.{◌≡◌, false, drop}
use Rattle.c_scan.specs.Fronts.{quoted_from}
use Rattle.c_scan.proofs.pieces.quoted_size.Given as goal

-- the closing quote is still to come
abbrev pub invariant-loop-i : goal.invariant-loop-i
invariant-loop-i l = quoted_from l.i l.quote l.taken (drop l.i l.rest) ≡ quoted_from 0 l.quote false l.rest
