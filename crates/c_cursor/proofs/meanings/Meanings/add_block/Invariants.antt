use Rattle.std.proofs.Common.{List, ◌++◌, reverse, take}
use Rattle.c_tree.specs.declared.scope.Entry.{Entry}
use Rattle.c_cursor.specs.Meanings.{HasMeanings}
use Rattle.c_cursor.proofs.meanings.Meanings.add_block.Given as goal

abbrev pub invariant-loop-entry : goal.invariant-loop-entry
invariant-loop-entry l =
    (entries : List Entry) → HasMeanings entries l.fn.self.by_name → HasMeanings (reverse (take l.entry-index l.entry-items) ++ entries) l.self.by_name
