use Rattle.std.proofs.Common.{◌≡◌, take}
use Rattle.kv_base.proofs.sequence.SequenceCopied.copy.Given as goal

-- this many of the items have been copied
abbrev pub invariant-loop-item : goal.invariant-loop-item
invariant-loop-item g l = l.made ≡ take l.item-index l.item-items
