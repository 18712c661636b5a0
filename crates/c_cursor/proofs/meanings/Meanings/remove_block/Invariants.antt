use Rattle.std.proofs.Common.{List, ◌++◌, reverse}
use Rattle.c_tree.specs.declared.scope.Entry.{Entry}
use Rattle.c_cursor.specs.Meanings.{HasMeanings}
use Rattle.c_cursor.proofs.meanings.Meanings.remove_block.Given as goal

abbrev pub invariant-loop-entry : goal.invariant-loop-entry
invariant-loop-entry l =
    (entries : List Entry) → HasMeanings (l.block ++ entries) l.fn.self.by_name → HasMeanings (reverse l.entry-iterator.iter.rest.now ++ entries) l.self.by_name
