use Rattle.std.proofs.Common.{◌≡◌, take}
use Rattle.c_text_copies.proofs.tree.copy_externals.Given as goal

-- the elements so far are copied
abbrev pub invariant-loop-external : goal.invariant-loop-external
invariant-loop-external l = l.made ≡ take l.external-index l.external-items
