use Rattle.std.proofs.Common.{◌≡◌, take}
use Rattle.c_text_copies.proofs.declaration.+initialisers.Given as goal

-- the elements so far are copied
abbrev pub invariant-copy_initialisers-loop-item : goal.invariant-copy_initialisers-loop-item
invariant-copy_initialisers-loop-item l = l.made ≡ take l.item-index l.item-items
