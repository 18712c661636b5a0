use Rattle.std.proofs.Common.{◌≡◌, drop}
use Rattle.c_kinds.specs.Types.{place_from}
use Rattle.c_arithmetic.proofs.equal.signature_number.Given as goal

-- none before this place is the same
abbrev pub invariant-loop-i : goal.invariant-loop-i
invariant-loop-i l = place_from l.i (drop l.i l.signatures) l.signature ≡ place_from 0 l.signatures l.signature
