use Rattle.std.proofs.Common.{◌≡◌, ◌+◌, drop}
use Rattle.c_arithmetic.specs.Arrays.{leading_arrays}
use Rattle.c_arithmetic.proofs.qualifiers.leading_arrays.Given as goal

-- only arrays stand before this place
abbrev pub invariant-loop-derivation : goal.invariant-loop-derivation
invariant-loop-derivation l = record { counted : l.count ≡ l.derivation-index; left : l.count + leading_arrays (drop l.derivation-index l.derived) ≡ leading_arrays l.derived }
