-- Declarations by their names.
use Rattle.std.proofs.Common.{◌≡◌, ℕ, cond, List, [], ◌∷◌, length, reverse, Option, Some, None, Bor, slice_get, refl, ap, sym, ◌∙◌}
use Rattle.std.proofs.lemmas.Option.{slice_get_past, slice_get_read}
use Rattle.std.specs.List.{find}
use Rattle.std.specs.Option.{option_and_then, option_copied}
use Rattle.std.specs.Slice.{IsItemAt}
use Rattle.std.specs.Str.{bytes_eq}
use Rattle.c_places.specs.Standing.{newest_place}
use Rattle.c_places.proofs.Finding.{found}
use Rattle.c_rules.specs.declared.names.ScopeEntry.{ScopeEntry}
use Rattle.c_rules.specs.Scopes.{find_in}
use Rattle.c_scopes.specs.Entries.{names_of}

-- what a slice has at a place
pub got_at : {X : Type 0} (xs : List X) (at : ℕ) (got : Option (Bor X)) → IsItemAt xs at got → option_copied got ≡ slice_get xs at
got_at xs at None h = sym (slice_get_past xs at h.3)
got_at xs at (Some x) h = sym (slice_get_read xs (length xs) at x.now refl h.3.0 h.1)

find_in_is : (entries : List ScopeEntry) (name : List ℕ) → find_in entries name ≡ find (λ entry. bytes_eq entry.name name) entries
find_in_is [] name = refl
find_in_is (x ∷ xs) name = ap (cond (bytes_eq x.name name) (Some x)) (find_in_is xs name)

-- a declaration is found at the newest place of its name
pub found_in : (entries : List ScopeEntry) (name : List ℕ) (place : Option ℕ) → place ≡ newest_place (names_of entries) name
    → option_and_then (slice_get (reverse entries)) place ≡ find_in entries name
found_in entries name place is = ap (option_and_then (slice_get (reverse entries))) is ∙ found (λ entry. entry.name) entries name ∙ sym (find_in_is entries name)
