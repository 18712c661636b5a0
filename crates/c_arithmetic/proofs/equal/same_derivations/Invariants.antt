use Rattle.std.proofs.Common.{◌≡◌, drop}
use Rattle.c_kinds.specs.Types.{same_derivations}
use Rattle.c_arithmetic.proofs.equal.same_derivations.Given as goal

-- the derivations before this place are the same
abbrev pub invariant-loop-i : goal.invariant-loop-i
invariant-loop-i l = same_derivations l.strictly (drop l.i l.left) (drop l.i l.right) ≡ same_derivations l.strictly l.left l.right
