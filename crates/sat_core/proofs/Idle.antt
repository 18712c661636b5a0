-- The parts between two calls, where nothing is set but what follows from the clauses alone.
use Rattle.std.proofs.Common.{ℕ, zero, suc, ◌≡◌, ◌/◌, ◌<◌, ◌++◌, inl, inr, List, [], ◌∷◌, length, get_or, take, Bool, false, refl, sym, ap, subst, ◌∙◌, arith}
use Rattle.std.specs.List.{Contains}
use Rattle.std.proofs.lemmas.Bool.{cases_lt, false≢true}
use Rattle.std.proofs.lemmas.List.{length-take-le, length_push, get_or_append_left, get_or_past, get_or_push}
use Rattle.sat_clause.specs.Literals.{complement_of}
use Rattle.sat_clause.specs.Propagation.{clause_at, Derived, Conflict}
use Rattle.sat_clause.proofs.Propagation.{Conflict-more, HasAll-append}
use Rattle.sat_engine.specs.declared.trail.Reason.{Reason}
use Rattle.sat_engine.specs.declared.trail.Reason.TheVariants.{Free, Assumed, Clause}
use Rattle.sat_engine.specs.declared.trail.SetLiteral.{SetLiteral}
use Rattle.sat_engine.specs.Trail.{IsSet, IsReason, reason_at}
use Rattle.sat_engine.specs.Look.{AreInRange, AreFalse}
use Rattle.sat_engine.specs.Grow.{IsImplied, Grows}
use Rattle.sat_search.specs.declared.parts.Parts.{Parts}
use Rattle.sat_index.specs.declared.index.Occurrence.{Occurrence}
use Rattle.sat_index.specs.Listed.{IsIndexed, IsListed}
use Rattle.sat_search.specs.State.{is_choice, IsState, IsReady}
use Rattle.sat_search.proofs.States.{IsState-cut, IsState-grow, IsState-advance}
use Rattle.sat_core.specs.Finding.{IsIdle}

clause_reason : (F : List (List ℕ)) (A B : List ℕ) (steps : List SetLiteral) (i : ℕ) (r : Reason) → is_choice r ≡ false → IsReason F A steps i r → IsReason F B steps i r
clause_reason F A B steps i Free e h = absurd (false≢true (sym e))
clause_reason F A B steps i Assumed e h = absurd (false≢true (sym e))
clause_reason F A B steps i (Clause n) e h = h

-- such a trail stands under any assumptions
pub IsState-idle : (F : List (List ℕ)) (A B : List ℕ) (steps : List SetLiteral) (start : ℕ) → IsState F A steps start → length steps ≡ start → IsState F B steps start
IsState-idle F A B steps start s e = record {
  early = s.early;
  facts = s.facts;
  unchosen = s.unchosen;
  reasons = λ i h. clause_reason F A B steps i (reason_at steps i) (s.unchosen i (omega arith)) (s.reasons i h);
  free = λ j h free. absurd (false≢true (sym (s.unchosen j (omega arith)) ∙ ap is_choice free));
}

pub IsReady-idle : (A : List ℕ) (p : Parts) → IsIdle p → IsReady A p
IsReady-idle A p h = let r = h.ready in record {
  state = IsState-idle p.store [] A p.trail.steps.items p.start r.state h.idle;
  range = r.range;
  few = r.few;
  indexed = r.indexed;
  lists = r.lists;
  flags = r.flags;
  unset = r.unset;
  marks = r.marks;
  clean = r.clean;
  small = r.small;
}

-- what stands before the start, once all else is unset
pub IsState-retreat : (F : List (List ℕ)) (A : List ℕ) (old new : List SetLiteral) (start : ℕ) → IsState F A old start → new ≡ take start old → IsState F [] new start
IsState-retreat F A old new start s e =
    let le = s.early in
    let cut : IsState F A new start = subst (λ (x : List SetLiteral). IsState F A x start) (sym e) (IsState-cut F A old start start s (omega arith) s.early) in
    IsState-idle F A [] new start cut (ap length e ∙ length-take-le start old s.early)

no_choice : (F : List (List ℕ)) (steps : List SetLiteral) (i : ℕ) (r : Reason) → IsImplied F steps i r → is_choice r ≡ false
no_choice F steps i Free h = absurd h
no_choice F steps i Assumed h = absurd h
no_choice F steps i (Clause n) h = refl

-- further literals that follow
pub IsState-settled : (F : List (List ℕ)) (old new : List SetLiteral) (start : ℕ) → IsState F [] old start → length old ≡ start → Grows F old new → IsState F [] new (length new)
IsState-settled F old new start s e g =
    IsState-advance F [] new start (length new) (IsState-grow F [] old new start g s) (omega arith) (λ i lo hi. no_choice F new i (reason_at new i) (g.implied i (omega arith) hi))

-- a false clause refutes the clauses
pub Conflict-idle : (p : Parts) (n : ℕ) → IsIdle p → n < length p.store → AreFalse (clause_at p.store n) p.trail.truth.items → Conflict p.store []
Conflict-idle p n h lt no_good = record {
  at = n;
  within = lt;
  all_false = λ m w.
      let f = p.trail.ok.found (complement_of m) (no_good m w) in
      let i : ℕ = get_or p.trail.place.items (complement_of m / 2) 0 in
      let below = f.0 in let e = h.idle in
      subst (λ (x : ℕ). Derived p.store [] x) f.1 (h.ready.state.facts i (omega arith));
}

-- room for a further variable
pub IsIndexed-wider : (F : List (List ℕ)) (lists : List (List Occurrence)) → IsIndexed F lists → IsIndexed F (lists ++ [] ∷ [])
IsIndexed-wider F lists ix i h =
    let w = ix i h in
    elim (cases_lt w.0 (length lists)) [
      | inl lt ↦ (w.0, w.1, subst (λ (x : List Occurrence). IsListed F x i) (sym (get_or_append_left lists ([] ∷ []) [] w.0 lt)) w.2)
      | inr ge ↦
          let none : get_or lists w.0 [] ≡ [] = get_or_past lists w.0 [] ge in
          let bad : IsListed F [] i = subst (λ (x : List Occurrence). IsListed F x i) none w.2 in
          let past = bad.1.1 in
          absurd (omega (arith, past))
    ]

pub unset_wider : (flags : List Bool) → ((m : ℕ) → IsSet flags m → ⊥) → (m : ℕ) → IsSet (flags ++ false ∷ false ∷ []) m → ⊥
unset_wider flags off m h = off m (sym (same flags m) ∙ h)
  where
    same : (flags : List Bool) (m : ℕ) → get_or (flags ++ false ∷ false ∷ []) m false ≡ get_or flags m false
    same [] zero = refl
    same [] (suc zero) = refl
    same [] (suc (suc m)) = refl
    same (x ∷ xs) zero = refl
    same (x ∷ xs) (suc m) = same xs m

pub IsIdle-from : (p q : Parts) (A : List ℕ) → IsReady A p → IsState q.store [] q.trail.steps.items q.start → length q.trail.truth.items ≡ length p.trail.truth.items → AreInRange q.store (length p.trail.truth.items) → length q.store < 4294967296 → IsIndexed q.store q.index → length q.index ≡ length p.index
    → length q.flags.items ≡ length p.flags.items → ((m : ℕ) → IsSet q.flags.items m → ⊥) → length q.marks.items ≡ length p.marks.items → ((v : ℕ) → IsSet q.marks.items v → ⊥) → length q.trail.steps.items ≡ q.start → IsIdle q
IsIdle-from p q A r s size range few ix lists flags unset marks clean idle = record {
  ready = record {
    state = s;
    range = subst (λ (x : ℕ). AreInRange q.store x) (sym size) range;
    few = few;
    indexed = ix;
    lists = lists ∙ r.lists ∙ sym size;
    flags = flags ∙ r.flags ∙ sym size;
    unset = unset;
    marks = let d = r.marks in omega arith;
    clean = clean;
    small = let d = r.small in omega arith;
  };
  idle = idle;
}

pub unmarked_wider : (marks : List Bool) → ((m : ℕ) → IsSet marks m → ⊥) → (m : ℕ) → IsSet (marks ++ false ∷ []) m → ⊥
unmarked_wider marks off m h = off m (sym (same marks m) ∙ h)
  where
    same : (marks : List Bool) (m : ℕ) → get_or (marks ++ false ∷ []) m false ≡ get_or marks m false
    same [] zero = refl
    same [] (suc m) = refl
    same (x ∷ xs) zero = refl
    same (x ∷ xs) (suc m) = same xs m

-- the empty clause refutes the clauses
pub Conflict-empty : (F G : List (List ℕ)) (c : List ℕ) → G ≡ F ++ c ∷ [] → length c ≡ 0 → Conflict G []
Conflict-empty F G c e none = subst (λ (x : List (List ℕ)). Conflict x []) (sym e) (record {
  at = length F;
  within = omega (arith, length_push F c);
  all_false = λ m w.
      let here : Contains c m = subst (λ (x : List ℕ). Contains x m) (get_or_push F c [] (length F) refl) w in
      absurd (omega (arith, here.1));
})

-- one clause more keeps a conflict
pub Conflict-push : (F G : List (List ℕ)) (c : List ℕ) → G ≡ F ++ c ∷ [] → Conflict F [] → Conflict G []
Conflict-push F G c e k = subst (λ (x : List (List ℕ)). Conflict x []) (sym e) (Conflict-more F (F ++ c ∷ []) [] [] (HasAll-append F (c ∷ [])) (λ l h. h) k)
