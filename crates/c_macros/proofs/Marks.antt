-- What marking a definition changes.
use Rattle.std.proofs.Common.{◌≡◌, ℕ, ◌<◌, Bool, true, false, true≢false, List, [], ◌∷◌, ◌++◌, length, Option, Some, None, refl, sym, ap, ◌∙◌, arith, subst, set, eqb, ◌⊎◌, inl, inr, nat_lt, length-append}
use Rattle.std.specs.Option.{is_some}
use Rattle.std.proofs.lemmas.Bool.{eqb-true, eqb-false}
use borrow.Author.Tests.{ltb-true, ltb-false}
use Rattle.std.proofs.lemmas.List.{get_or_past, get_or-set_same, get_or-set_other, length-set}
use Rattle.c_macros.specs.Chains.{Definitions, Edge, name_at}
use Rattle.c_macros.specs.Circles.{Returns, IsReturn, mark_at, is_marked, AreReturns, AreClosed, AreClosedTo, IsMarked}
use Rattle.c_macros.proofs.Chains.{edge_grows, front_kept, last_new}
use Rattle.c_macros.proofs.Circles.{returns_grow, returns_before}

same_or : (i j : ℕ) → (i ≡ j) ⊎ (i ≡ j → ⊥)
same_or i j = by (eqb i j) refl
  where
    by : (b : Bool) → eqb i j ≡ b → (i ≡ j) ⊎ (i ≡ j → ⊥)
    by true e = inl (eqb-true i j e)
    by false e = inr (eqb-false i j e)

module _ (marks : List (Option ℕ)) (at end : ℕ) (within : at < length marks) where
  pub marked_here : is_marked (set marks at (Some end)) at ≡ true
  marked_here = ap is_some (get_or-set_same marks at (Some end) None within)

  pub marked_still : (i : ℕ) → is_marked marks i ≡ true → is_marked (set marks at (Some end)) i ≡ true
  marked_still i h = by (same_or i at)
    where
      by : (i ≡ at) ⊎ (i ≡ at → ⊥) → is_marked (set marks at (Some end)) i ≡ true
      by (inl e) = subst (λ k. is_marked (set marks at (Some end)) k ≡ true) (sym e) marked_here
      by (inr apart) = ap is_some (get_or-set_other marks at i (Some end) None apart) ∙ h

  -- the definition that is marked now, or one that was marked
  pub marked_before : (i : ℕ) → is_marked (set marks at (Some end)) i ≡ true → (i ≡ at) ⊎ (is_marked marks i ≡ true)
  marked_before i h = by (same_or i at)
    where
      by : (i ≡ at) ⊎ (i ≡ at → ⊥) → (i ≡ at) ⊎ (is_marked marks i ≡ true)
      by (inl e) = inl e
      by (inr apart) = inr (sym (ap is_some (get_or-set_other marks at i (Some end) None apart)) ∙ h)

  module _ (D : Definitions) where
    pub are_returns_set : AreReturns D marks → IsReturn D at end → AreReturns D (set marks at (Some end))
    are_returns_set are back = record {
      count = length-set marks at (Some end) ∙ are.count;
      ends = λ i j less found. by i j less found (same_or i at);
    }
      where
        by : (i j : ℕ) → i < length D → mark_at (set marks at (Some end)) i ≡ Some j → (i ≡ at) ⊎ (i ≡ at → ⊥) → IsReturn D i j
        by i j less found (inl e) =
            let here : Some end ≡ Some j = sym (get_or-set_same marks at (Some end) None within) ∙ (ap (mark_at (set marks at (Some end))) (sym e) ∙ found) in
            let same : end ≡ j = cc in
            subst (λ k. IsReturn D k j) (sym e) (subst (IsReturn D at) same back)
        by i j less found (inr apart) = are.ends i j less (sym (get_or-set_other marks at i (Some end) None apart) ∙ found)

    -- the last definition is marked, and the one after it is the last
    pub closed_on : (next : ℕ) → AreClosedTo D marks at → next < length D → Edge D (name_at D at) (name_at D next) → AreClosedTo D (set marks at (Some end)) next
    closed_on next closed less e i inside h = by (marked_before i h)
      where
        later : (j : ℕ) → (is_marked marks j ≡ true) ⊎ (j ≡ at) → is_marked (set marks at (Some end)) j ≡ true
        later j (inl m) = marked_still j m
        later j (inr same) = subst (λ k. is_marked (set marks at (Some end)) k ≡ true) (sym same) marked_here

        by : (i ≡ at) ⊎ (is_marked marks i ≡ true)
            → (j : ℕ) × (j < length D) × Edge D (name_at D i) (name_at D j) × ((is_marked (set marks at (Some end)) j ≡ true) ⊎ (j ≡ next))
        by (inl same) = (next, less, subst (λ k. Edge D (name_at D k) (name_at D next)) (sym same) e, inr refl)
        by (inr m) = let f = closed i inside m in (f.0, f.1, f.2, inl (later f.0 f.3))

    -- a definition before a marked one is marked
    pub closed_before : (next : ℕ) → AreClosed D marks → next < length D → is_marked marks next ≡ true → Edge D (name_at D at) (name_at D next) → AreClosed D (set marks at (Some end))
    closed_before next closed less known e i inside h = by (marked_before i h)
      where
        by : (i ≡ at) ⊎ (is_marked marks i ≡ true) → (j : ℕ) × (j < length D) × Edge D (name_at D i) (name_at D j) × (is_marked (set marks at (Some end)) j ≡ true)
        by (inl same) = (next, less, subst (λ k. Edge D (name_at D k) (name_at D next)) (sym same) e, marked_still next known)
        by (inr m) = let f = closed i inside m in (f.0, f.1, f.2, marked_still f.0 f.3)

-- all is closed where the last one is marked
pub closed_all : (D : Definitions) (marks : List (Option ℕ)) (last : ℕ) → AreClosedTo D marks last → is_marked marks last ≡ true → AreClosed D marks
closed_all D marks last closed known i inside h = let f = closed i inside h in (f.0, f.1, f.2, by f.0 f.3)
  where
    by : (j : ℕ) → (is_marked marks j ≡ true) ⊎ (j ≡ last) → is_marked marks j ≡ true
    by j (inl m) = m
    by j (inr same) = subst (λ k. is_marked marks k ≡ true) (sym same) known

pub closed_to : (D : Definitions) (marks : List (Option ℕ)) (last : ℕ) → AreClosed D marks → AreClosedTo D marks last
closed_to D marks last closed i inside h = let f = closed i inside h in (f.0, f.1, f.2, inl f.3)

-- a definition that leads to a marked one is marked as that one is
pub marked_lead : (D : Definitions) (marks : List (Option ℕ)) (at next end : ℕ) → IsMarked D marks
    → ((i j : ℕ) → i < length D → j < length D → name_at D i ≡ name_at D j → i ≡ j)
    → at < length D → is_marked marks at ≡ false → next < length D → mark_at marks next ≡ Some end → Edge D (name_at D at) (name_at D next)
    → IsMarked D (set marks at (Some end))
marked_lead D marks at next end marked unique within unmarked less found e =
    let count = marked.are_returns.count in
    let inside : at < length marks = omega arith in
    let back = marked.are_returns.ends next end less found in
    let known : is_marked marks next ≡ true = ap is_some found in
    record {
      are_returns = are_returns_set marks at end inside D marked.are_returns (record {
        within = back.within;
        returns = returns_before D marks marked.closed at unmarked unique within next (name_at D end) less known e back.returns;
      });
      closed = closed_before marks at end inside D next marked.closed less known e;
    }

-- ---- a new definition

-- it has no mark
pub marked_push : (D : Definitions) (marks : List (Option ℕ)) (row : List ℕ × List ℕ) → IsMarked D marks → IsMarked (D ++ row ∷ []) (marks ++ None ∷ [])
marked_push D marks row marked = record {
  are_returns = record {
    count = let c = marked.are_returns.count in omega (arith, length-append D (row ∷ []), length-append marks (None ∷ []));
    ends = λ i j less found. by_ends i j (old i (ap is_some found)) found;
  };
  closed = λ i less h. by_closed i (old i h) h;
}
  where
    count : length marks ≡ length D
    count = marked.are_returns.count

    kept : (i : ℕ) → i < length D → mark_at (marks ++ None ∷ []) i ≡ mark_at marks i
    kept i less = let c = count in front_kept marks None i None (omega arith)

    -- what is marked isn't new
    old : (i : ℕ) → is_marked (marks ++ None ∷ []) i ≡ true → i < length D
    old i h = by (nat_lt i (length marks)) refl
      where
        by : (b : Bool) → nat_lt i (length marks) ≡ b → i < length D
        by true e = let l = ltb-true i (length marks) e in let c = count in omega arith
        by false e = absurd (true≢false (sym h ∙ ap is_some (none (same_or i (length marks)))))
          where
            none : (i ≡ length marks) ⊎ (i ≡ length marks → ⊥) → mark_at (marks ++ None ∷ []) i ≡ None
            none (inl same) = ap (mark_at (marks ++ None ∷ [])) same ∙ last_new marks None None
            none (inr apart) = let l = ltb-false i (length marks) e in get_or_past (marks ++ None ∷ []) i None (omega (arith, length-append marks (None ∷ []), apart))

    named : (i : ℕ) → i < length D → name_at D i ≡ name_at (D ++ row ∷ []) i
    named i less = ap (λ r. r.0) (sym (front_kept D row i ([], []) less))

    longer : (i : ℕ) → i < length D → i < length (D ++ row ∷ [])
    longer i less = omega (arith, length-append D (row ∷ []))

    by_ends : (i j : ℕ) → i < length D → mark_at (marks ++ None ∷ []) i ≡ Some j → IsReturn (D ++ row ∷ []) i j
    by_ends i j less found =
        let back = marked.are_returns.ends i j less (sym (kept i less) ∙ found) in
        record {
          within = longer j back.within;
          returns = subst (λ x. Returns (D ++ row ∷ []) x (name_at (D ++ row ∷ []) j)) (named i less)
              (subst (Returns (D ++ row ∷ []) (name_at D i)) (named j back.within) (returns_grow D (row ∷ []) (name_at D i) (name_at D j) back.returns));
        }

    by_closed : (i : ℕ) → i < length D → is_marked (marks ++ None ∷ []) i ≡ true
        → (j : ℕ) × (j < length (D ++ row ∷ [])) × Edge (D ++ row ∷ []) (name_at (D ++ row ∷ []) i) (name_at (D ++ row ∷ []) j) × (is_marked (marks ++ None ∷ []) j ≡ true)
    by_closed i less h =
        let f = marked.closed i less (sym (ap is_some (kept i less)) ∙ h) in (
          f.0,
          longer f.0 f.1,
          subst (λ x. Edge (D ++ row ∷ []) x (name_at (D ++ row ∷ []) f.0)) (named i less)
              (subst (Edge (D ++ row ∷ []) (name_at D i)) (named f.0 f.1) (edge_grows D (row ∷ []) (name_at D i) (name_at D f.0) f.2)),
          ap is_some (kept f.0 f.1) ∙ f.3,
        )
