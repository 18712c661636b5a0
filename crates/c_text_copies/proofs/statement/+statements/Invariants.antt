use Rattle.std.proofs.Common.{◌≡◌, take}
use Rattle.c_text_copies.proofs.statement.+statements.Given as goal

-- the elements so far are copied
abbrev pub invariant-copy_branches-loop-item : goal.invariant-copy_branches-loop-item
invariant-copy_branches-loop-item l = l.made ≡ take l.item-index l.item-items

-- the elements so far are copied
abbrev pub invariant-copy_block_items-loop-item : goal.invariant-copy_block_items-loop-item
invariant-copy_block_items-loop-item l = l.made ≡ take l.item-index l.item-items
