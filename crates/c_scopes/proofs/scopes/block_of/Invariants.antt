use Rattle.std.proofs.Common.{◌≡◌, ◌++◌, length}
use Rattle.c_rules.specs.Scopes.{of_block, around_block}
use Rattle.c_scopes.proofs.scopes.block_of.Given as goal

abbrev pub invariant-loop-entry : goal.invariant-loop-entry
invariant-loop-entry l = record {
  around : around_block l.depth l.entries ≡ around_block l.depth l.fn.entries;
  taken : l.block ++ of_block l.depth l.entries ≡ of_block l.depth l.fn.entries;
}

abbrev pub decreases-loop-entry : goal.decreases-loop-entry
decreases-loop-entry l = length l.entries
