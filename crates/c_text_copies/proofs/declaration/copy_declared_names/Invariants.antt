use Rattle.std.proofs.Common.{◌≡◌, take}
use Rattle.c_text_copies.proofs.declaration.copy_declared_names.Given as goal

-- the elements so far are copied
abbrev pub invariant-loop-name : goal.invariant-loop-name
invariant-loop-name l = l.made ≡ take l.name-index l.name-items
