use Rattle.std.proofs.Common.{◌≡◌, ◌+◌, ◌-◌, length}
use Rattle.kv_clause.proofs.plain.PlainBlocks.fill.Given as goal

abbrev pub invariant-loop-self : goal.invariant-loop-self
invariant-loop-self l = record {
  template : l.self.template ≡ l.initial.self.template;
  blocks : l.self.blocks ≡ l.initial.self.blocks;
}

abbrev pub decreases-loop-self : goal.decreases-loop-self
decreases-loop-self l = l.i + 1 - length l.self.made.items
