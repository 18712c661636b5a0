-- What keeps the working parts ready.
use Rattle.std.proofs.Common.{ℕ, ◌≡◌, ◌<◌, ◌≤◌, ◌++◌, List, [], ◌∷◌, length, true, sym, ap, subst, ◌∙◌, arith}
use Rattle.std.proofs.lemmas.List.{length_push}
use Rattle.sat_clause.specs.Propagation.{Conflict}
use Rattle.sat_engine.specs.declared.trail.SetLiteral.{SetLiteral}
use Rattle.sat_engine.specs.Look.{InRange, AreInRange}
use Rattle.sat_engine.specs.Grow.{Grows}
use Rattle.proof_checker.specs.Base.{IsBase}
use Rattle.proof_checker.specs.Parts.{IsReady}
use Rattle.proof_checker.specs.declared.parts.Parts.{Parts}
use Rattle.proof_checker.proofs.Bases.{IsBase-grow, IsBase-more, Conflict-push}
use Rattle.sat_engine.proofs.Ranges.{AreInRange-push, AreInRange-wider}

-- room for further variables
pub IsReady-wider : (p q : Parts) → q.store ≡ p.store → q.trail.steps.items ≡ p.trail.steps.items → length p.trail.truth.items ≤ length q.trail.truth.items → q.is_refuted ≡ p.is_refuted → IsReady p → IsReady q
IsReady-wider p q s t le r h = record {
  few = subst (λ (F : List (List ℕ)). length F < 4294967296) (sym s) h.few;
  range = subst (λ (F : List (List ℕ)). AreInRange F (length q.trail.truth.items)) (sym s) (AreInRange-wider p.store (length p.trail.truth.items) (length q.trail.truth.items) le h.range);
  base = subst (λ (F : List (List ℕ)). IsBase F [] q.trail.steps.items) (sym s) (subst (λ (x : List SetLiteral). IsBase p.store [] x) (sym t) h.base);
  refuted = λ e. subst (λ (F : List (List ℕ)). Conflict F []) (sym s) (h.refuted (sym r ∙ e));
}

-- literals that follow, and a conflict that was found
pub IsReady-grown : (p q : Parts) → q.store ≡ p.store → Grows p.store p.trail.steps.items q.trail.steps.items → length q.trail.truth.items ≡ length p.trail.truth.items → (q.is_refuted ≡ true → Conflict p.store []) → IsReady p → IsReady q
IsReady-grown p q s g n r h = record {
  few = subst (λ (F : List (List ℕ)). length F < 4294967296) (sym s) h.few;
  range = subst (λ (F : List (List ℕ)). AreInRange F (length q.trail.truth.items)) (sym s) (subst (λ (x : ℕ). AreInRange p.store x) (sym n) h.range);
  base = subst (λ (F : List (List ℕ)). IsBase F [] q.trail.steps.items) (sym s) (IsBase-grow p.store [] p.trail.steps.items q.trail.steps.items g h.base);
  refuted = λ e. subst (λ (F : List (List ℕ)). Conflict F []) (sym s) (r e);
}

-- a further clause
pub IsReady-push : (p q : Parts) (c : List ℕ) → q.store ≡ p.store ++ c ∷ [] → q.trail ≡ p.trail → q.is_refuted ≡ p.is_refuted → length p.store < 4294967295 → InRange c (length p.trail.truth.items) → IsReady p → IsReady q
IsReady-push p q c s t r few room h =
    let same : q.trail.steps.items ≡ p.trail.steps.items = ap (λ x. x.steps.items) t in
    let size : length q.trail.truth.items ≡ length p.trail.truth.items = ap (λ x. length x.truth.items) t in
    record {
      few = subst (λ (F : List (List ℕ)). length F < 4294967296) (sym s) (omega (arith, few, length_push p.store c));
      range = subst (λ (F : List (List ℕ)). AreInRange F (length q.trail.truth.items)) (sym s) (subst (λ (x : ℕ). AreInRange (p.store ++ c ∷ []) x) (sym size) (AreInRange-push p.store c (length p.trail.truth.items) h.range room));
      base = subst (λ (F : List (List ℕ)). IsBase F [] q.trail.steps.items) (sym s) (subst (λ (x : List SetLiteral). IsBase (p.store ++ c ∷ []) [] x) (sym same) (IsBase-more p.store c [] p.trail.steps.items h.base));
      refuted = λ e. subst (λ (F : List (List ℕ)). Conflict F []) (sym s) (Conflict-push p.store c (h.refuted (sym r ∙ e)));
    }

-- the same clauses and the same trail, and a conflict that is known
pub IsReady-same : (p q : Parts) → q.store ≡ p.store → q.trail ≡ p.trail → (q.is_refuted ≡ true → Conflict p.store []) → IsReady p → IsReady q
IsReady-same p q s t r h =
    let same : q.trail.steps.items ≡ p.trail.steps.items = ap (λ x. x.steps.items) t in
    let size : length q.trail.truth.items ≡ length p.trail.truth.items = ap (λ x. length x.truth.items) t in
    record {
      few = subst (λ (F : List (List ℕ)). length F < 4294967296) (sym s) h.few;
      range = subst (λ (F : List (List ℕ)). AreInRange F (length q.trail.truth.items)) (sym s) (subst (λ (x : ℕ). AreInRange p.store x) (sym size) h.range);
      base = subst (λ (F : List (List ℕ)). IsBase F [] q.trail.steps.items) (sym s) (subst (λ (x : List SetLiteral). IsBase p.store [] x) (sym same) h.base);
      refuted = λ e. subst (λ (F : List (List ℕ)). Conflict F []) (sym s) (r e);
    }
