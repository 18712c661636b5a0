use Rattle.std.proofs.Common.{◌≡◌, ◌++◌, map, drop}
use Rattle.c_scopes.specs.Keys.{derivation_key}
use Rattle.c_scopes.proofs.keys.add_derivations.Given as goal

abbrev pub invariant-loop-derivation : goal.invariant-loop-derivation
invariant-loop-derivation l = l.key ++ map derivation_key (drop l.derivation-index l.derivations) ≡ l.fn.key ++ map derivation_key l.derivations
