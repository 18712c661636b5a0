use Rattle.std.proofs.Common.{◌≡◌, ◌<◌, true, slice_index_or}
use Rattle.c_macros.specs.Chains.{name_at}
use Rattle.c_macros.specs.Circles.{AreReturns, AreClosedTo, Returns, is_marked}
use Rattle.c_macros.specs.Tables.{OnlyMarks, macros_view}
use Rattle.c_macros.proofs.macros.Macros.mark_circle.Given as goal

-- the circle is marked up to this definition
abbrev pub invariant-loop-k : goal.invariant-loop-k
invariant-loop-k l = record {
  others : OnlyMarks l.fn.self l.self;
  are_returns : AreReturns (macros_view l.fn.self).defined l.self.returns.items;
  closed : AreClosedTo (macros_view l.fn.self).defined l.self.returns.items (slice_index_or l.over l.k l.at);
  marked : l.from < l.k → is_marked l.self.returns.items l.at ≡ true;
  circle : Returns (macros_view l.fn.self).defined (name_at (macros_view l.fn.self).defined (slice_index_or l.over l.k l.at))
      (name_at (macros_view l.fn.self).defined (slice_index_or l.over l.k l.at));
}
