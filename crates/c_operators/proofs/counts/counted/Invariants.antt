use Rattle.std.proofs.Common.{◌≡◌, ◌≤◌, ◌*◌, drop}
use Rattle.std.specs.Prelude.{min}
use Rattle.c_kinds.specs.Layouts.{cells_by}
use Rattle.c_operators.proofs.counts.counted.Given as goal

-- the arrays before this place have this many elements, or more than are counted
abbrev pub invariant-loop-derivation : goal.invariant-loop-derivation
invariant-loop-derivation l = record {
  few : l.count ≤ 340282366920938463463374607431768211455;
  left : min (l.count * cells_by l.structs (drop l.derivation-index l.derived) l.base) 340282366920938463463374607431768211455
      ≡ min (cells_by l.structs l.derived l.base) 340282366920938463463374607431768211455;
}
