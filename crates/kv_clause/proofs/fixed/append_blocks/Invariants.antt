use Rattle.std.proofs.Common.{◌≡◌, ◌++◌}
use Rattle.kv_clause.specs.Queries.{blocks_of}
use Rattle.kv_clause.proofs.fixed.append_blocks.Given as goal

abbrev pub invariant-loop-i : goal.invariant-loop-i
invariant-loop-i g l = record {
  template : g.B.Blocks.of l.blocks ≡ g.B.Blocks.of l.initial.blocks;
  count : g.B.Blocks.count l.blocks ≡ g.B.Blocks.count l.initial.blocks;
  held : g.B.Blocks.held l.blocks ≡ g.B.Blocks.held l.initial.blocks;
  ready : g.B.Blocks.ready l.blocks;
  clauses : l.clauses ≡ l.initial.clauses ++ blocks_of (g.B.Blocks.of l.initial.blocks) l.i;
}
