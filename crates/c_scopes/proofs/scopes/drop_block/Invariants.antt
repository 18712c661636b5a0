use Rattle.std.proofs.Common.{◌≡◌, length}
use Rattle.c_rules.specs.Scopes.{around_block}
use Rattle.c_scopes.proofs.scopes.drop_block.Given as goal

abbrev pub invariant-loop-entry : goal.invariant-loop-entry
invariant-loop-entry l = around_block l.depth l.entries ≡ around_block l.depth l.fn.entries

abbrev pub decreases-loop-entry : goal.decreases-loop-entry
decreases-loop-entry l = length l.entries
