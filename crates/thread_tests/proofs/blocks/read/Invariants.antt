use Rattle.std.proofs.Common.{◌≡◌, ◌≤◌}
use Rattle.thread_tests.proofs.blocks.read.Given as goal

abbrev pub invariant-loop-step : goal.invariant-loop-step
invariant-loop-step g l = record {
  count : g.B.Blocks.count l.blocks ≡ g.B.Blocks.count l.initial.blocks;
  few : l.same ≤ l.step;
  ready : g.B.Blocks.ready l.blocks;
}
