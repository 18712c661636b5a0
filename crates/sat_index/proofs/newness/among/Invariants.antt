use Rattle.std.proofs.Common.{take}
use Rattle.sat_index.specs.Listed.{NoneFlagged}
use Rattle.sat_index.proofs.newness.among.Given as goal

abbrev pub invariant-loop-occurrence : goal.invariant-loop-occurrence
invariant-loop-occurrence l = NoneFlagged l.store (take l.occurrence-index l.occurrences) l.flags
