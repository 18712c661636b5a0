use Rattle.std.proofs.Common.{◌≡◌, ◌<◌, length}
use Rattle.sat_order.specs.Members.{members}
use Rattle.sat_order.proofs.heap.Heap.rise.Given as goal

abbrev pub invariant-loop-at : goal.invariant-loop-at
invariant-loop-at l = record {
  within : l.at < l.count;
  size : length l.self.vars.items ≡ length l.initial.self.vars.items;
  same : members l.self.vars.items l.self.places.items l.count ≡ members l.initial.self.vars.items l.initial.self.places.items l.count;
}

abbrev pub decreases-loop-at : goal.decreases-loop-at
decreases-loop-at l = l.at
