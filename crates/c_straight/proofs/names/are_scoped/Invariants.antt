use Rattle.std.proofs.Common.{◌↔◌, [], drop}
use Rattle.c_straight.specs.Names.{AreScoped}
use Rattle.c_straight.specs.Scope.{in_scope}
use Rattle.c_straight.proofs.names.are_scoped.Given as goal

-- all items are in order just where those to come are
abbrev pub invariant-items : goal.invariant-items
invariant-items l = AreScoped (in_scope l.names.items) (drop l.item-index l.items) ↔ AreScoped [] l.items
