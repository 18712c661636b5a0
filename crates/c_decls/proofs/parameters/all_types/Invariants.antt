use Rattle.std.proofs.Common.{◌≡◌, drop}
use Rattle.c_rules.specs.Declarators.{all_types}
use Rattle.c_decls.specs.Steps.{prepended}
use Rattle.c_decls.proofs.parameters.all_types.Given as goal

abbrev pub invariant-loop-ctype : goal.invariant-loop-ctype
invariant-loop-ctype l = prepended l.types (all_types (drop l.ctype-index l.ctypes)) ≡ all_types l.ctypes
