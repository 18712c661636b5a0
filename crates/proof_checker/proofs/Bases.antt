use Rattle.std.proofs.Common.{ℕ, zero, suc, ◌≡◌, ◌≢◌, ◌+◌, ◌/◌, ◌<◌, ◌++◌, inl, inr, List, [], ◌∷◌, map, length, get_or, take, Bool, true, false, refl, sym, ap, subst, ◌∙◌, arith}
use Rattle.std.specs.List.{Contains}
use Rattle.std.proofs.lemmas.Bool.{cases_lt, false≢true}
use Rattle.std.proofs.lemmas.List.{length-map, get_or-map, length_push, get_or_append_left, get_or_push, take-append-le, take_all, take-take}
use Rattle.sat_clause.specs.Literals.{complement_of}
use Rattle.sat_clause.specs.Propagation.{clause_at, Derived, given, unit, Conflict, Refuted, Follows}
use Rattle.sat_clause.proofs.Truths.{complement_twice, complement_variable}
use Rattle.sat_clause.proofs.Propagation.{Refuted-both, Conflict-more, HasAll-append}
use Rattle.sat_engine.specs.declared.trail.Reason.{Reason}
use Rattle.sat_engine.specs.declared.trail.Reason.TheVariants.{Free, Assumed, Clause}
use Rattle.sat_engine.specs.declared.trail.SetLiteral.{SetLiteral}
use Rattle.sat_engine.specs.Trail.{none_step, IsSet, IsTrail, lit_at, reason_at, IsReason}
use Rattle.sat_engine.specs.Look.{AreFalse}
use Rattle.sat_engine.specs.Grow.{Grows, IsImplied}
use Rattle.sat_engine.proofs.Trails.{lit_at-push, lit_at-last}
use Rattle.sat_engine.proofs.Growing.{AreReasons-grown, IsReason-same, same_to}
use Rattle.sat_engine.proofs.Ranges.{AreReasons-more}
use Rattle.proof_checker.specs.Base.{IsBase, IsFront, AreSet}
use Rattle.proof_checker.specs.Scan.{Closes}
use Rattle.proof_checker.proofs.Scans.{not_refuted}

pub Derived-base : (F : List (List ℕ)) (A : List ℕ) (steps : List SetLiteral) → IsBase F A steps → (i : ℕ) → i < length steps → Derived F A (lit_at steps i)
Derived-base F A steps b i lt = below (suc i) i (omega arith) lt
  where
    by_reason : (i : ℕ) (r : Reason) → r ≢ Free → ((j : ℕ) → j < i → Derived F A (lit_at steps j)) → IsReason F A steps i r → Derived F A (lit_at steps i)
    by_reason i Free ne ih h = absurd (ne refl)
    by_reason i Assumed ne ih h = given (lit_at steps i) h
    by_reason i (Clause m) ne ih h = unit (lit_at steps i) m h.0 h.1 (λ k w d. let e = h.2 k w d in subst (λ (x : ℕ). Derived F A x) e.2 (ih e.0 e.1))

    below : (n i : ℕ) → i < n → i < length steps → Derived F A (lit_at steps i)
    below zero i h lt = absurd (omega arith)
    below (suc n) i h lt = by_reason i (reason_at steps i) (b.chosen i lt) (λ j k. below n j (omega arith) (omega arith)) (b.reasons i lt)

pub Derived-set : (F : List (List ℕ)) (A : List ℕ) (steps : List SetLiteral) (truth : List Bool) (place : List ℕ) → IsTrail steps truth place → IsBase F A steps → (l : ℕ) → IsSet truth l → Derived F A l
Derived-set F A steps truth place t b l h = let f = t.found l h in subst (λ (x : ℕ). Derived F A x) f.1 (Derived-base F A steps b (get_or place (l / 2) 0) f.0)

pub IsBase-wider : (F : List (List ℕ)) (A : List ℕ) (steps : List SetLiteral) → IsBase F [] steps → IsBase F A steps
IsBase-wider F A steps b = record { chosen = b.chosen; reasons = λ i lt. wide i (reason_at steps i) (b.reasons i lt) }
  where
    wide : (i : ℕ) (r : Reason) → IsReason F [] steps i r → IsReason F A steps i r
    wide i Free h = h
    wide i Assumed h = absurd (omega (arith, h.1))
    wide i (Clause m) h = h

pub IsBase-grow : (F : List (List ℕ)) (A : List ℕ) (xs ys : List SetLiteral) → Grows F xs ys → IsBase F A xs → IsBase F A ys
IsBase-grow F A xs ys g b = record {
  reasons = AreReasons-grown F A xs ys g b.reasons;
  chosen = λ i lt e. elim (cases_lt i (length xs)) [
    | inl below ↦ b.chosen i below (ap (λ (x : SetLiteral). x.reason) (same_to F xs ys g i below) ∙ e)
    | inr above ↦ absurd (subst (λ (x : Reason). IsImplied F ys i x) e (g.implied i above lt))
  ];
}

clash : Assumed ≡ Free → ⊥
clash f = cc

pub IsBase-assume : (F : List (List ℕ)) (A : List ℕ) (xs ys : List SetLiteral) (l : ℕ) → IsBase F A xs → Contains A l → ys ≡ xs ++ record { lit = l; reason = Assumed } ∷ [] → IsBase F A ys
IsBase-assume F A xs ys l b has e =
    let s : SetLiteral = record { lit = l; reason = Assumed } in
    let zs : List SetLiteral = xs ++ s ∷ [] in
    let reas : (i : ℕ) → i < length xs → reason_at xs i ≡ reason_at zs i = λ i h. ap (λ (x : SetLiteral). x.reason) (sym (get_or_append_left xs (s ∷ []) none_step i h)) in
    let last : reason_at zs (length xs) ≡ Assumed = ap (λ (x : SetLiteral). x.reason) (get_or_push xs s none_step (length xs) refl) in
    let made : IsBase F A zs = record {
      reasons = λ i h. elim (cases_lt i (length xs)) [
        | inl below ↦ subst (λ (x : Reason). IsReason F A zs i x) (reas i below) (IsReason-same F A xs zs i (reason_at xs i) (λ j k. sym (lit_at-push xs s j (omega arith))) (b.reasons i below))
        | inr above ↦ let same : length xs ≡ i = omega (arith, h, length_push xs s) in
            subst (λ (x : ℕ). IsReason F A zs x (reason_at zs x)) same (subst (λ (x : Reason). IsReason F A zs (length xs) x) (sym last) (subst (λ (x : ℕ). Contains A x) (sym (lit_at-last xs s)) has))
      ];
      chosen = λ i h f. elim (cases_lt i (length xs)) [
        | inl below ↦ b.chosen i below (reas i below ∙ f)
        | inr above ↦ let same : length xs ≡ i = omega (arith, h, length_push xs s) in clash (sym last ∙ subst (λ (x : ℕ). reason_at zs x ≡ Free) (sym same) f)
      ];
    } in
    subst (λ (x : List SetLiteral). IsBase F A x) (sym e) made

pub Contains-negs : (c : List ℕ) (l : ℕ) → Contains c l → Contains (map complement_of c) (complement_of l)
Contains-negs c l w = (w.0, omega (arith, length-map c complement_of, w.1), get_or-map complement_of c w.0 l (complement_of l) w.1 ∙ ap complement_of w.2)

pub Contains-from_negs : (c : List ℕ) (l : ℕ) → Contains (map complement_of c) l → Contains c (complement_of l)
Contains-from_negs c l w =
    let lt : w.0 < length c = omega (arith, length-map c complement_of, w.1) in
    let e : complement_of (get_or c w.0 (complement_of l)) ≡ l = sym (get_or-map complement_of c w.0 (complement_of l) l lt) ∙ w.2 in
    (w.0, lt, sym (complement_twice (get_or c w.0 (complement_of l))) ∙ ap complement_of e)

-- the complements of a clause are refuted exactly where it follows
pub Follows-refuted : (F : List (List ℕ)) (c : List ℕ) → Refuted F (map complement_of c) → Follows F c
Follows-refuted F c r = elim r [
  | inl k ↦ inl k
  | inr h ↦ inr (complement_of h.0, Contains-from_negs c h.0 h.1, Contains-from_negs c (complement_of h.0) h.2)
]

pub Refuted-follows : (F : List (List ℕ)) (c : List ℕ) → Follows F c → Refuted F (map complement_of c)
Refuted-follows F c f = elim f [
  | inl k ↦ inl k
  | inr h ↦ inr (complement_of h.0, Contains-negs c h.0 h.1, Contains-negs c (complement_of h.0) h.2)
]

-- an asked literal whose complement is set
pub Refuted-clash : (F : List (List ℕ)) (A : List ℕ) (steps : List SetLiteral) (truth : List Bool) (place : List ℕ) (l : ℕ) → IsTrail steps truth place → IsBase F A steps → Contains A l → IsSet truth (complement_of l) → Refuted F A
Refuted-clash F A steps truth place l t b w h = Refuted-both F A l (given l w) (Derived-set F A steps truth place t b (complement_of l) h)

pub Conflict-false : (F : List (List ℕ)) (A : List ℕ) (steps : List SetLiteral) (truth : List Bool) (place : List ℕ) (i : ℕ) → IsTrail steps truth place → IsBase F A steps → i < length F → AreFalse (clause_at F i) truth → Conflict F A
Conflict-false F A steps truth place i t b lt no_good = record { at = i; within = lt; all_false = λ m w. Derived-set F A steps truth place t b (complement_of m) (no_good m w) }

-- a conflict of the clauses alone refutes all literals
pub Refuted-alone : (F : List (List ℕ)) (A : List ℕ) → Conflict F [] → Refuted F A
Refuted-alone F A k = inl (Conflict-more F F [] A (λ i lt. (i, lt, refl)) (λ l h. absurd (omega (arith, h.1))) k)

pub IsFront-push : (old xs ys : List SetLiteral) (s : SetLiteral) → IsFront old xs → ys ≡ xs ++ s ∷ [] → IsFront old ys
IsFront-push old xs ys s f e =
    let a = f.longer in
    subst (λ (x : List SetLiteral). IsFront old x) (sym e) (record { longer = omega (arith, length_push xs s); front = take-append-le (length old) xs (s ∷ []) f.longer ∙ f.front })

pub IsFront-refl : (xs : List SetLiteral) → IsFront xs xs
IsFront-refl xs = record { longer = omega arith; front = take_all (length xs) xs (omega arith) }

pub IsFront-grow : (F : List (List ℕ)) (old xs ys : List SetLiteral) → IsFront old xs → Grows F xs ys → IsFront old ys
IsFront-grow F old xs ys f g =
    let a = f.longer in let b = g.longer in
    record { longer = omega arith; front = sym (take-take (length old) (length xs) ys f.longer) ∙ ap (take (length old)) g.front ∙ f.front }

pub set_push : (xs ys : List SetLiteral) (s : SetLiteral) (truth after : List Bool) (place here : List ℕ) (m : ℕ) → IsTrail xs truth place → IsTrail ys after here → ys ≡ xs ++ s ∷ [] → IsSet truth m → IsSet after m
set_push xs ys s truth after place here m t u e h =
    let f = t.found m h in
    let i : ℕ = get_or place (m / 2) 0 in
    let l : lit_at ys i ≡ m = ap (λ (x : List SetLiteral). lit_at x i) e ∙ lit_at-push xs s i f.0 ∙ f.1 in
    let len : length ys ≡ length xs + 1 = ap length e ∙ length_push xs s in
    let a = f.0 in
    subst (λ (x : ℕ). IsSet after x) l (u.on i (omega arith)).1

pub set_last : (xs ys : List SetLiteral) (s : SetLiteral) (after : List Bool) (here : List ℕ) → IsTrail ys after here → ys ≡ xs ++ s ∷ [] → IsSet after s.lit
set_last xs ys s after here u e =
    let len : length ys ≡ length xs + 1 = ap length e ∙ length_push xs s in
    let l : lit_at ys (length xs) ≡ s.lit = ap (λ (x : List SetLiteral). lit_at x (length xs)) e ∙ lit_at-last xs s in
    subst (λ (x : ℕ). IsSet after x) l (u.on (length xs) (omega arith)).1

pub apart : (steps : List SetLiteral) (truth : List Bool) (place : List ℕ) → IsTrail steps truth place → (l : ℕ) → IsSet truth l → IsSet truth (complement_of l) → ⊥
apart steps truth place t l p q =
    let a = t.found l p in
    let b = t.found (complement_of l) q in
    let e : complement_of l ≡ l = sym b.1 ∙ ap (λ (x : ℕ). lit_at steps (get_or place x 0)) (complement_variable l) ∙ a.1 in
    omega arith

-- what propagation to the end says of the asked literals
pub exact_from : (F : List (List ℕ)) (A : List ℕ) (steps : List SetLiteral) (truth : List Bool) (place : List ℕ) (b : Bool) → IsTrail steps truth place → IsBase F A steps → AreSet A truth → Closes F truth b → ((b ≡ true → Refuted F A) × (Refuted F A → b ≡ true))
exact_from F A steps truth place true t base set_all h = (λ e. inl (Conflict-false F A steps truth place h.0 t base h.1 h.2), λ f. refl)
exact_from F A steps truth place false t base set_all h = (λ e. absurd (false≢true e), λ f. absurd (not_refuted F A truth (apart steps truth place t) h set_all f))

pub set_grow : (F : List (List ℕ)) (xs ys : List SetLiteral) (truth after : List Bool) (place here : List ℕ) (m : ℕ) → IsTrail xs truth place → IsTrail ys after here → Grows F xs ys → IsSet truth m → IsSet after m
set_grow F xs ys truth after place here m t u g h =
    let f = t.found m h in
    let i : ℕ = get_or place (m / 2) 0 in
    let l : lit_at ys i ≡ m = ap (λ (x : SetLiteral). x.lit) (sym (same_to F xs ys g i f.0)) ∙ f.1 in
    let a = f.0 in let b = g.longer in
    subst (λ (x : ℕ). IsSet after x) l (u.on i (omega arith)).1

-- a further clause keeps the trail
pub IsBase-more : (F : List (List ℕ)) (c : List ℕ) (A : List ℕ) (steps : List SetLiteral) → IsBase F A steps → IsBase (F ++ c ∷ []) A steps
IsBase-more F c A steps b = record { chosen = b.chosen; reasons = AreReasons-more F c A steps b.reasons }

pub Conflict-push : (F : List (List ℕ)) (c : List ℕ) → Conflict F [] → Conflict (F ++ c ∷ []) []
Conflict-push F c k = Conflict-more F (F ++ c ∷ []) [] [] (HasAll-append F (c ∷ [])) (λ l h. h) k
