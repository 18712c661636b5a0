use Rattle.std.proofs.Common.{◌≡◌, ◌++◌, length}
use Rattle.c_scopes.proofs.scopes.add_block.Given as goal

abbrev pub invariant-loop-entry : goal.invariant-loop-entry
invariant-loop-entry l = l.block ++ l.entries ≡ l.fn.block ++ l.fn.entries

abbrev pub decreases-loop-entry : goal.decreases-loop-entry
decreases-loop-entry l = length l.block
