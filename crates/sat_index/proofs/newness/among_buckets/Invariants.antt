use Rattle.std.proofs.Common.{take}
use Rattle.sat_index.specs.Listed.{occurrences_of, NoneFlagged}
use Rattle.sat_index.proofs.newness.among_buckets.Given as goal

abbrev pub invariant-loop-bucket : goal.invariant-loop-bucket
invariant-loop-bucket l = NoneFlagged l.store (occurrences_of (take l.bucket-index l.buckets)) l.flags
