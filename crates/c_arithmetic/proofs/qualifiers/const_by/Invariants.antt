use Rattle.std.proofs.Common.{◌≡◌, drop}
use Rattle.c_kinds.specs.Types.{const_by}
use Rattle.c_arithmetic.proofs.qualifiers.const_by.Given as goal

-- only arrays stand before this place
abbrev pub invariant-loop-derivation : goal.invariant-loop-derivation
invariant-loop-derivation l = const_by (drop l.derivation-index l.derived) l.is_const ≡ const_by l.derived l.is_const
