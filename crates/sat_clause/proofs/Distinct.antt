-- How many different numbers lie below a bound.
use Rattle.std.proofs.Common.{ℕ, suc, ◌≡◌, ◌≢◌, ◌<◌, ◌≤◌, inl, inr, List, [], ◌∷◌, length, get_or, true, eqb, sym, subst, ◌∙◌, arith}
use Rattle.std.specs.List.{list_any}
use Rattle.std.proofs.lemmas.Bool.{cases_eq, ne_eqb, false≢true}
use Rattle.std.proofs.lemmas.List.{get_or_default}
use Rattle.std.proofs.lemmas.Map.Keys.{IsDistinct-from_apart}
use Rattle.std.proofs.lemmas.Map.Steps.{length-le_from_distinct_below}

pub at_index : (q : ℕ) (xs : List ℕ) → list_any (eqb q) xs ≡ true → (k : ℕ) × (k < length xs) × (get_or xs k 0 ≡ q)
at_index q [] e = absurd (false≢true e)
at_index q (x ∷ xs) e = elim (cases_eq q x) [
  | inl same ↦ (0, omega arith, sym same)
  | inr other ↦ let w = at_index q xs (simp (ne_eqb q x other) at e) in (suc w.0, omega arith, w.2)
]

-- numbers below n that differ are at most n
pub distinct_below : (xs : List ℕ) (n : ℕ) → ((i j : ℕ) → i < j → j < length xs → get_or xs i 0 ≢ get_or xs j 0) → ((i : ℕ) → i < length xs → get_or xs i 0 < n) → length xs ≤ n
distinct_below xs n apart below = length-le_from_distinct_below xs n
    (IsDistinct-from_apart eqb xs (λ i j d h k. ne_eqb (get_or xs i d) (get_or xs j d)
    (λ e. apart i j h k (get_or_default xs i 0 d (omega arith) ∙ e ∙ sym (get_or_default xs j 0 d k)))))
    (λ q e. let w = at_index q xs e in subst (λ (x : ℕ). x < n) w.2 (below w.0 w.1))
