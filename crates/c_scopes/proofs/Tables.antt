-- Tables by number, which grow as far as what is put in them.
use Rattle.std.proofs.Common.{◌≡◌, ℕ, zero, suc, ◌<◌, ◌≤◌, List, [], ◌∷◌, ◌++◌, length, set, Option, Some, None, refl, ap, arith}
use Rattle.c_rules.specs.Scopes.{put_at}

-- a table has None where it ends
pub put_at-push : {A : Type 0} (table : List (Option A)) (at : ℕ) (v : A) → length table ≤ at → put_at (table ++ None ∷ []) at v ≡ put_at table at v
put_at-push [] zero v h = refl
put_at-push [] (suc n) v h = refl
put_at-push (x ∷ xs) zero v h = absurd (omega arith)
put_at-push (x ∷ xs) (suc n) v h = ap (λ rest. x ∷ rest) (put_at-push xs n v (omega arith))

pub put_at_within : {A : Type 0} (table : List (Option A)) (at : ℕ) (v : A) → at < length table → put_at table at v ≡ set table at (Some v)
put_at_within [] at v h = absurd (omega arith)
put_at_within (x ∷ xs) zero v h = refl
put_at_within (x ∷ xs) (suc n) v h = ap (λ rest. x ∷ rest) (put_at_within xs n v (omega arith))
