-- Declarations in a scope.
use Rattle.std.specs.Prelude.{ℕ, List, map}
use Rattle.c_rules.specs.declared.names.ScopeEntry.{ScopeEntry}

-- the names of declarations
abbrev pub names_of : List ScopeEntry → List (List ℕ)
names_of entries = map (λ entry. entry.name) entries
