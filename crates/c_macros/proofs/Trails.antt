-- Walks along a chain of definitions, one replacement after another.
use Rattle.std.proofs.Common.{◌≡◌, ℕ, zero, suc, ◌+◌, ◌<◌, ◌≤◌, Bool, true, false, ◌||◌, nat_eq, List, [], ◌∷◌, ◌++◌, length, map, Option, Some, refl, sym, ap, ◌∙◌, arith, subst, get_or, set, ◌⊎◌, inl, inr, nat_lt, length-append}
use Rattle.std.specs.List.{list_any}
use Rattle.indexmap.specs.IndexSet.{insert_key}
use Rattle.std.specs.Str.{bytes_eq}
use Rattle.std.proofs.lemmas.Bool.{eq-eqb, eqb-true}
use borrow.Author.Tests.{ltb-true, ltb-false}
use Rattle.std.proofs.lemmas.List.{get_or_past, map-append}
use Rattle.std.proofs.lemmas.Slice.Eq.{bytes_eq-Decides}
use Rattle.c_macros.specs.Chains.{Definitions, IsNoWord, Edge, Reaches, name_at}
use Rattle.c_macros.specs.Circles.{ComesBack, Returns, IsTrail, IsWay, is_marked}
use Rattle.c_macros.proofs.Chains.{reaches_self, reaches_edge, reaches_join}
use Rattle.c_macros.proofs.Circles.{returns_self}
use Rattle.c_macros.proofs.Marks.{marked_here, marked_still}

-- ---- trails

less_or : (k n : ℕ) → (k < n) ⊎ (n ≤ k)
less_or k n = by (nat_lt k n) refl
  where
    by : (b : Bool) → nat_lt k n ≡ b → (k < n) ⊎ (n ≤ k)
    by true e = inl (ltb-true k n e)
    by false e = inr (ltb-false k n e)

-- what stands at a place up to the end, where the end is put after
at_pushed : (over : List ℕ) (at next k : ℕ) → k ≤ length over → get_or (over ++ at ∷ []) k next ≡ get_or over k at
at_pushed [] at next zero less = refl
at_pushed [] at next (suc k) less = absurd (omega arith)
at_pushed (x ∷ over) at next zero less = refl
at_pushed (x ∷ over) at next (suc k) less = at_pushed over at next k (omega arith)

-- inside of a list it is the same whatever follows
pub same_default : (over : List ℕ) (k d e : ℕ) → k < length over → get_or over k d ≡ get_or over k e
same_default [] k d e less = absurd (omega arith)
same_default (x ∷ over) zero d e less = refl
same_default (x ∷ over) (suc k) d e less = same_default over k d e (omega arith)

-- where a circle is marked from its beginning on, that stays marked
pub marked_on : (marks : List (Option ℕ)) (over : List ℕ) (at from k : ℕ) → k < length over → get_or over k at < length marks → from < length over
    → get_or over from 0 ≡ at → from ≤ k → (from < k → is_marked marks at ≡ true) → is_marked (set marks (get_or over k at) (Some (get_or over k at))) at ≡ true
marked_on marks over at from k less inside begun begins above marked = by (less_or from k)
  where
    by : (from < k) ⊎ (k ≤ from) → is_marked (set marks (get_or over k at) (Some (get_or over k at))) at ≡ true
    by (inl later) = marked_still marks (get_or over k at) (get_or over k at) inside at (marked later)
    by (inr first) =
        let same : from ≡ k = omega arith in
        let here : get_or over k at ≡ at = ap (λ i. get_or over i at) (sym same) ∙ (same_default over from at 0 begun ∙ begins) in
        subst (λ i. is_marked (set marks (get_or over k at) (Some (get_or over k at))) i ≡ true) here (marked_here marks (get_or over k at) (get_or over k at) inside)

module _ (D : Definitions) (over : List ℕ) (at : ℕ) where
  pub trail_within : IsTrail D over at → at < length D → (k : ℕ) → get_or over k at < length D
  trail_within trail within k = by (less_or k (length over))
    where
      by : (k < length over) ⊎ (length over ≤ k) → get_or over k at < length D
      by (inl less) = (trail k less).0
      by (inr past) = subst (λ i. i < length D) (sym (get_or_past over k at past)) within

  pub trail_no_word : IsTrail D over at → IsNoWord (name_at D at) → (k : ℕ) → IsNoWord (name_at D (get_or over k at))
  trail_no_word trail no_word k = by (less_or k (length over))
    where
      by : (k < length over) ⊎ (length over ≤ k) → IsNoWord (name_at D (get_or over k at))
      by (inl less) = (trail k less).1.no_word
      by (inr past) = subst (λ i. IsNoWord (name_at D i)) (sym (get_or_past over k at past)) no_word

  abbrev Goes : ℕ → ℕ → Type 0
  Goes i j = (i < length D) × Edge D (name_at D i) (name_at D j)

  pub trail_push : (next : ℕ) → IsTrail D over at → at < length D → Edge D (name_at D at) (name_at D next) → IsTrail D (over ++ at ∷ []) next
  trail_push next trail within e k less = by (less_or k (length over))
    where
      here : (k : ℕ) → k ≤ length over → get_or (over ++ at ∷ []) k next ≡ get_or over k at
      here k l = at_pushed over at next k l

      by : (k < length over) ⊎ (length over ≤ k)
          → (get_or (over ++ at ∷ []) k next < length D) × Edge D (name_at D (get_or (over ++ at ∷ []) k next)) (name_at D (get_or (over ++ at ∷ []) (k + 1) next))
      by (inl l) = subst (λ i. Goes i (get_or (over ++ at ∷ []) (k + 1) next)) (sym (here k (omega arith))) (subst (Goes (get_or over k at)) (sym (here (k + 1) (omega arith))) (trail k l))
      by (inr past) =
          let last : k ≡ length over = omega (arith, length-append over (at ∷ [])) in
          let a : get_or (over ++ at ∷ []) k next ≡ at = here k (omega arith) ∙ get_or_past over k at past in
          let b : get_or (over ++ at ∷ []) (k + 1) next ≡ next = get_or_past (over ++ at ∷ []) (k + 1) next (omega (arith, length-append over (at ∷ []))) in
          subst (λ i. Goes i (get_or (over ++ at ∷ []) (k + 1) next)) (sym a) (subst (Goes at) (sym b) (within, e))

-- ---- walks

-- a walk from the first definition over these ones to this one
pub record IsWalk (D : Definitions) (first : ℕ) (over : List ℕ) (at : ℕ) : Type 0 where
  pub way : IsWay D first over at
  pub reaches : Reaches D (name_at D first) (name_at D at)
  pub leads : (n : ℕ) (z : List ℕ) → ComesBack D n (map (name_at D) over) (name_at D at) z → Returns D (name_at D first) z

pub walk_begins : (D : Definitions) (first : ℕ) → first < length D → IsNoWord (name_at D first) → IsWalk D first [] first
walk_begins D first within no_word = record {
  way = record { trail = λ k less. absurd (omega arith); begins = refl; within = within; no_word = no_word };
  reaches = reaches_self D (name_at D first);
  leads = λ n z back. (n, back);
}

pub walk_goes : (D : Definitions) (first : ℕ) (over : List ℕ) (at next : ℕ) → IsWalk D first over at → list_any (bytes_eq (name_at D at)) (map (name_at D) over) ≡ false
    → next < length D → IsNoWord (name_at D next) → Edge D (name_at D at) (name_at D next) → IsWalk D first (over ++ at ∷ []) next
walk_goes D first over at next walk new within no_word e = record {
  way = record {
    trail = trail_push D over at next walk.way.trail walk.way.within e;
    begins = at_pushed over at next 0 (omega arith) ∙ walk.way.begins;
    within = within;
    no_word = no_word;
  };
  reaches = reaches_join D (name_at D first) (name_at D at) (name_at D next) walk.reaches (reaches_edge D (name_at D at) (name_at D next) e);
  leads = λ n z back.
      walk.leads (suc n) z (
        new,
        (name_at D next, e, subst (λ met. ComesBack D n met (name_at D next) z) (map-append (name_at D) over (at ∷ [])) back),
      );
}

-- where a walk comes to a name that it met, there is a circle
pub walk_returns : (D : Definitions) (first : ℕ) (over : List ℕ) (at : ℕ) → IsWalk D first over at → list_any (bytes_eq (name_at D at)) (map (name_at D) over) ≡ true
    → Returns D (name_at D at) (name_at D at)
walk_returns D first over at walk again =
    returns_self D (name_at D first) (name_at D at) (walk.leads 0 (name_at D at) (refl, walk.way.no_word, again))

-- ---- places and names

module _ (D : Definitions) (unique : (i j : ℕ) → i < length D → j < length D → name_at D i ≡ name_at D j → i ≡ j) (at : ℕ) (within : at < length D) where
  same_test : (i : ℕ) → i < length D → nat_eq at i ≡ bytes_eq (name_at D at) (name_at D i)
  same_test i less = by (nat_eq at i) refl (bytes_eq (name_at D at) (name_at D i)) refl
    where
      by : (a : Bool) → nat_eq at i ≡ a → (b : Bool) → bytes_eq (name_at D at) (name_at D i) ≡ b → a ≡ b
      by true e true f = refl
      by false e false f = refl
      by true e false f = sym ((bytes_eq-Decides (name_at D at) (name_at D i)).1 (ap (name_at D) (eqb-true at i e))) ∙ f
      by false e true f = sym e ∙ eq-eqb at i (unique at i within less ((bytes_eq-Decides (name_at D at) (name_at D i)).0 f))

  -- a definition was met where its name was
  pub met_name : (over : List ℕ) → ((k : ℕ) → k < length over → get_or over k at < length D)
      → list_any (bytes_eq (name_at D at)) (map (name_at D) over) ≡ list_any (nat_eq at) over
  met_name [] inside = refl
  met_name (i ∷ over) inside =
      let here = same_test i (inside 0 (omega arith)) in
      let rest = met_name over (λ k less. inside (suc k) (omega arith)) in
      ap (λ b. b || list_any (bytes_eq (name_at D at)) (map (name_at D) over)) (sym here) ∙ ap (λ b. nat_eq at i || b) rest

-- a new definition goes last
pub insert_new : (over : List ℕ) (at : ℕ) → list_any (nat_eq at) over ≡ false → insert_key nat_eq over at ≡ over ++ at ∷ []
insert_new over at new = rw new
