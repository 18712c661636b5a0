-- Declarations of one block, and those around it.
use Rattle.std.proofs.Common.{◌≡◌, ℕ, List, [], ◌∷◌, Some, None, slice_get, refl, arith}
use Rattle.std.proofs.lemmas.Bool.{cond-false}
use Rattle.std.proofs.lemmas.Bool.Decides.{nat_tests}
use Rattle.c_rules.specs.declared.names.ScopeEntry.{ScopeEntry}
use Rattle.c_rules.specs.Scopes.{of_block, around_block}

-- the first entry stands at another depth, or there is none
pub around_other : (depth : ℕ) (entries : List ScopeEntry) (entry : ScopeEntry) → Some entry ≡ slice_get entries 0 → (entry.depth ≡ depth → ⊥)
    → around_block depth entries ≡ entries
around_other depth [] entry is differs = refl
around_other depth (x ∷ xs) entry is differs = let e : entry ≡ x = cc in grind (arith, nat_tests, cond-false, e)

pub of_other : (depth : ℕ) (entries : List ScopeEntry) (entry : ScopeEntry) → Some entry ≡ slice_get entries 0 → (entry.depth ≡ depth → ⊥)
    → of_block depth entries ≡ []
of_other depth [] entry is differs = refl
of_other depth (x ∷ xs) entry is differs = let e : entry ≡ x = cc in grind (arith, nat_tests, cond-false, e)

pub around_none : (depth : ℕ) (entries : List ScopeEntry) → None ≡ slice_get entries 0 → around_block depth entries ≡ entries
around_none depth [] is = refl
around_none depth (x ∷ xs) is = absurd (cc)

pub of_none : (depth : ℕ) (entries : List ScopeEntry) → None ≡ slice_get entries 0 → of_block depth entries ≡ []
of_none depth [] is = refl
of_none depth (x ∷ xs) is = absurd (cc)
