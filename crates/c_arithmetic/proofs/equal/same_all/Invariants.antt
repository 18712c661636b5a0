use Rattle.std.proofs.Common.{◌≡◌, drop}
use Rattle.c_kinds.specs.Types.{same_all}
use Rattle.c_arithmetic.proofs.equal.same_all.Given as goal

-- the types before this place are the same
abbrev pub invariant-loop-i : goal.invariant-loop-i
invariant-loop-i l = same_all (drop l.i l.left) (drop l.i l.right) ≡ same_all l.left l.right
