use Rattle.std.proofs.Common.{◌≡◌, ◌≤◌, true}
use Rattle.sat_query.specs.KeepingBlocks.{IsOver}
use Rattle.sat_tests.proofs.tests.kept_blocks.breaks_at_six.Given as goal

abbrev pub invariant-loop-k : goal.invariant-loop-k
invariant-loop-k g l = record {
  begins : l.kept.from_start ≡ true;
  within : 6 ≤ g.B.Blocks.count l.blocks;
  ready : g.B.Blocks.ready l.blocks;
  over : IsOver (g.B.Blocks.of l.blocks) l.kept;
  growing : l.kept.blocks ≤ l.k;
}
