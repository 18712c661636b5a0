use Rattle.std.proofs.Common.{◌≡◌}
use Rattle.sat_query.specs.KeepingBlocks.{HoldsBlocks}
use Rattle.sat_query.proofs.grown.add_blocks.Given as goal

abbrev pub invariant-loop-i : goal.invariant-loop-i
invariant-loop-i g l = record {
  template : g.B.Blocks.of l.blocks ≡ g.B.Blocks.of l.initial.blocks;
  count : g.B.Blocks.count l.blocks ≡ g.B.Blocks.count l.initial.blocks;
  held : g.B.Blocks.held l.blocks ≡ g.B.Blocks.held l.initial.blocks;
  ready : g.B.Blocks.ready l.blocks;
  holds : HoldsBlocks (g.B.Blocks.of l.initial.blocks) l._from_start l.i l.kept;
  log : l.kept.log ≡ l.initial.kept.log;
}
