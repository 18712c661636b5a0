use Rattle.std.proofs.Common.{◌≡◌, ◌≤◌, ◌-◌, length, take}
use Rattle.sat_order.proofs.heap.Heap.lengthen.Given as goal

abbrev pub invariant-loop-self : goal.invariant-loop-self
invariant-loop-self l = record {
  vars : l.self.vars.items ≡ l.initial.self.vars.items;
  longer : length l.initial.self.places.items ≤ length l.self.places.items;
  front : take (length l.initial.self.places.items) l.self.places.items ≡ l.initial.self.places.items;
}

abbrev pub decreases-loop-self : goal.decreases-loop-self
decreases-loop-self l = l.vars - length l.self.places.items
