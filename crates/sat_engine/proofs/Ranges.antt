-- What holds of the clauses, and of a trail's reasons, when a clause is put after them.
use Rattle.std.proofs.Common.{ℕ, ◌≡◌, ◌≤◌, ◌++◌, inl, inr, List, [], ◌∷◌, length, subst, sym, arith}
use Rattle.std.specs.List.{Contains}
use Rattle.std.proofs.lemmas.Bool.{cases_lt}
use Rattle.std.proofs.lemmas.List.{length_push, get_or_append_left, get_or_push}
use Rattle.sat_clause.specs.Propagation.{clause_at}
use Rattle.sat_engine.specs.declared.trail.Reason.{Reason}
use Rattle.sat_engine.specs.declared.trail.Reason.TheVariants.{Free, Assumed, Clause}
use Rattle.sat_engine.specs.declared.trail.SetLiteral.{SetLiteral}
use Rattle.sat_engine.specs.Trail.{IsReason, AreReasons, lit_at, reason_at}
use Rattle.sat_engine.specs.Look.{InRange, AreInRange}

pub AreInRange-push : (F : List (List ℕ)) (c : List ℕ) (n : ℕ) → AreInRange F n → InRange c n → AreInRange (F ++ c ∷ []) n
AreInRange-push F c n all one i lt = elim (cases_lt i (length F)) [
  | inl below ↦ subst (λ (x : List ℕ). InRange x n) (sym (get_or_append_left F (c ∷ []) [] i below)) (all i below)
  | inr above ↦ subst (λ (x : List ℕ). InRange x n) (sym (get_or_push F c [] i (omega (arith, length_push F c)))) one
]

pub AreInRange-wider : (F : List (List ℕ)) (m n : ℕ) → m ≤ n → AreInRange F m → AreInRange F n
AreInRange-wider F m n le all i lt k h = let r = all i lt k h in omega arith

pub clause_at-last : (F : List (List ℕ)) (c : List ℕ) (n : ℕ) → n ≡ length F → clause_at (F ++ c ∷ []) n ≡ c
clause_at-last F c n e = get_or_push F c [] n (sym e)

-- the reasons of a trail are reasons over more clauses
pub AreReasons-more : (F : List (List ℕ)) (c A : List ℕ) (steps : List SetLiteral) → AreReasons F A steps → AreReasons (F ++ c ∷ []) A steps
AreReasons-more F c A steps all i lt = more i (reason_at steps i) (all i lt)
  where
    more : (i : ℕ) (r : Reason) → IsReason F A steps i r → IsReason (F ++ c ∷ []) A steps i r
    more i Free h = h
    more i Assumed h = h
    more i (Clause m) h =
        let e : clause_at (F ++ c ∷ []) m ≡ clause_at F m = get_or_append_left F (c ∷ []) [] m h.0 in
        let a = h.0 in (
          omega (arith, length_push F c),
          subst (λ (x : List ℕ). Contains x (lit_at steps i)) (sym e) h.1,
          λ k w ne. h.2 k (subst (λ (x : List ℕ). Contains x k) e w) ne,
        )
