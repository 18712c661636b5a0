use Rattle.std.proofs.Common.{◌≡◌, ◌++◌, drop}
use Rattle.c_scopes.specs.Keys.{types_key}
use Rattle.c_scopes.proofs.keys.add_types.Given as goal

abbrev pub invariant-loop-ctype : goal.invariant-loop-ctype
invariant-loop-ctype l = l.key ++ types_key (drop l.ctype-index l.ctypes) ≡ l.fn.key ++ types_key l.ctypes
