-- A look-up in two tables, one after the other.
use Rattle.std.proofs.Common.{◌≡◌, ℕ, Bool, true, false, cond, List, [], ◌∷◌, ◌++◌, Some, None, refl}
use Rattle.std.specs.Str.{bytes_eq}
use Rattle.c_tokens.specs.declared.token.TokenKind.{TokenKind}
use Rattle.c_tokens.specs.Words.{lookup}

abbrev Table : Type 0
Table = List (List ℕ × TokenKind)

pub lookup_first : (a b : Table) (text : List ℕ) (kind : TokenKind) → lookup a text ≡ Some kind → lookup (a ++ b) text ≡ Some kind
lookup_first [] b text kind e = absurd (let never : ⊥ = cc in never)
lookup_first (row ∷ a) b text kind e = by (bytes_eq row.0 text) (lookup_first a b text kind) e
  where
    by : (here : Bool) → (lookup a text ≡ Some kind → lookup (a ++ b) text ≡ Some kind) → cond here (Some row.1) (lookup a text) ≡ Some kind
        → cond here (Some row.1) (lookup (a ++ b) text) ≡ Some kind
    by true later e = e
    by false later e = later e

pub lookup_second : (a b : Table) (text : List ℕ) → lookup a text ≡ None → lookup (a ++ b) text ≡ lookup b text
lookup_second [] b text e = refl
lookup_second (row ∷ a) b text e = by (bytes_eq row.0 text) (lookup_second a b text) e
  where
    by : (here : Bool) → (lookup a text ≡ None → lookup (a ++ b) text ≡ lookup b text) → cond here (Some row.1) (lookup a text) ≡ None
        → cond here (Some row.1) (lookup (a ++ b) text) ≡ lookup b text
    by true later e = absurd (let never : ⊥ = cc in never)
    by false later e = later e
