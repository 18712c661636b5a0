use Rattle.std.proofs.Common.{◌≡◌, ◌++◌, map, take, drop}
use Rattle.c_rules.specs.Texts.{owned_by}
use Rattle.c_scopes.proofs.name_table.own_all.Given as goal

abbrev pub invariant-loop-object : goal.invariant-loop-object
invariant-loop-object l = l.objects ≡ map (owned_by l.number) (take l.object-index l.fn.objects) ++ drop l.object-index l.fn.objects
