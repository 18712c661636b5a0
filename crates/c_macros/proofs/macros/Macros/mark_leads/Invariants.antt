use Rattle.std.proofs.Common.{◌≡◌, ◌≤◌, length, true, slice_index_or}
use Rattle.c_macros.specs.Circles.{is_marked}
use Rattle.c_macros.specs.Tables.{IsKnown, macros_view}
use Rattle.c_macros.proofs.macros.Macros.mark_leads.Given as goal

-- what follows the definitions that are left is marked
abbrev pub invariant-loop-left : goal.invariant-loop-left
invariant-loop-left l = record {
  macros : macros_view l.self ≡ macros_view l.fn.self;
  known : IsKnown l.self;
  model : l.self.model ≡ l.fn.self.model;
  within : l.left ≤ length l.over;
  next_is : l.next ≡ slice_index_or l.over l.left l.at;
  marked : is_marked l.self.returns.items l.next ≡ true;
}

abbrev pub decreases-loop-left : goal.decreases-loop-left
decreases-loop-left l = l.left
