use Rattle.std.proofs.Common.{ℕ, zero, suc, ◌≡◌, ◌≢◌, ◌+◌, ◌*◌, ◌/◌, ◌<◌, ◌≤◌, ◌++◌, inl, inr, map, List, [], ◌∷◌, Bool, false, length, get_or, set, take, refl, sym, ap, subst, ◌∙◌, arith}
use Rattle.std.specs.List.{Contains}
use Rattle.std.proofs.lemmas.List.{length-set, length_push, get_or_push, get_or_append_left, get_or-set_same, get_or-set_other, get_or-take, get_or_default, length-map, get_or-map, length-append}
use Rattle.std.proofs.lemmas.Bool.{cases_eq, false≢true}
use Rattle.sat_clause.proofs.Distinct.{distinct_below}
use Rattle.sat_engine.specs.declared.trail.SetLiteral.{SetLiteral}
use Rattle.sat_engine.specs.Trail.{none_step, lit_at, IsSet, IsTrail}

pub lit_at-push : (xs : List SetLiteral) (s : SetLiteral) (i : ℕ) → i < length xs → lit_at (xs ++ s ∷ []) i ≡ lit_at xs i
lit_at-push xs s i h = ap (λ (x : SetLiteral). x.lit) (get_or_append_left xs (s ∷ []) none_step i h)

pub lit_at-last : (xs : List SetLiteral) (s : SetLiteral) → lit_at (xs ++ s ∷ []) (length xs) ≡ s.lit
lit_at-last xs s = ap (λ (x : SetLiteral). x.lit) (get_or_push xs s none_step (length xs) refl)

pub lit_at-take : (n : ℕ) (xs : List SetLiteral) (i : ℕ) → i < n → lit_at (take n xs) i ≡ lit_at xs i
lit_at-take n xs i h = ap (λ (x : SetLiteral). x.lit) (get_or-take n xs i none_step h)

pub IsTrail-pop : (xs : List SetLiteral) (s : SetLiteral) (truth : List Bool) (place : List ℕ) → IsTrail (xs ++ s ∷ []) truth place → IsTrail xs (set truth s.lit false) place
IsTrail-pop xs s truth place t =
    let len : length (xs ++ s ∷ []) ≡ length xs + 1 = length_push xs s in
    let last = t.on (length xs) (omega arith) in
    let at_last : get_or place (s.lit / 2) 0 ≡ length xs = subst (λ (x : ℕ). get_or place (x / 2) 0 ≡ length xs) (lit_at-last xs s) last.2 in
    record {
      even = rw (length-set truth s.lit false) t.even;
      wide = rw (length-set truth s.lit false) t.wide;
      on = λ i h.
          let w = t.on i (omega arith) in
          let w0 : lit_at xs i < length truth = subst (λ (x : ℕ). x < length truth) (lit_at-push xs s i h) w.0 in
          let w1 : IsSet truth (lit_at xs i) = subst (λ (x : ℕ). IsSet truth x) (lit_at-push xs s i h) w.1 in
          let w2 : get_or place (lit_at xs i / 2) 0 ≡ i = subst (λ (x : ℕ). get_or place (x / 2) 0 ≡ i) (lit_at-push xs s i h) w.2 in
          let apart : lit_at xs i ≢ s.lit = λ e. let same : i ≡ length xs = sym w2 ∙ subst (λ (x : ℕ). get_or place (x / 2) 0 ≡ length xs) (sym e) at_last in omega arith in
          (omega (arith, length-set truth s.lit false), get_or-set_other truth s.lit (lit_at xs i) false false apart ∙ w1, w2);
      found = λ l h. elim (cases_eq l s.lit) [
        | inl e ↦ absurd (gone l e h)
        | inr ne ↦
            let w = t.found l (sym (get_or-set_other truth s.lit l false false ne) ∙ h) in
            let p = get_or place (l / 2) 0 in
            let inside : p < length xs = elim (cases_eq p (length xs)) [
              | inl e ↦ absurd (ne (sym w.1 ∙ ap (lit_at (xs ++ s ∷ [])) e ∙ lit_at-last xs s))
              | inr other ↦ omega arith
            ] in
            (inside, sym (lit_at-push xs s p inside) ∙ w.1)
      ];
    }
  where
    gone : (l : ℕ) → l ≡ s.lit → IsSet (set truth s.lit false) l → ⊥
    gone l e h =
        let len : length (xs ++ s ∷ []) ≡ length xs + 1 = length_push xs s in
        let last = t.on (length xs) (omega arith) in
        let lt : s.lit < length truth = subst (λ (x : ℕ). x < length truth) (lit_at-last xs s) last.0 in
        false≢true (sym (get_or-set_same truth s.lit false false lt) ∙ ap (λ (x : ℕ). get_or (set truth s.lit false) x false) (sym e) ∙ h)

-- what holds at each index of a clause holds of each literal in it
pub each_Contains : (P : ℕ → Type 0) (c : List ℕ) → ((k : ℕ) → k < length c → P (get_or c k 0)) → (m : ℕ) → Contains c m → P m
each_Contains P c all m h = subst P (get_or_default c h.0 0 m h.1 ∙ h.2) (all h.0 h.1)

-- a trail has each literal at most once
pub IsTrail-length : (steps : List SetLiteral) (truth : List Bool) (place : List ℕ) → IsTrail steps truth place → length steps ≤ length truth
IsTrail-length steps truth place t =
    let f = λ (s : SetLiteral). s.lit in
    let xs : List ℕ = map f steps in
    let len : length xs ≡ length steps = length-map steps f in
    let at : (i : ℕ) → i < length steps → get_or xs i 0 ≡ lit_at steps i = λ i h. get_or-map f steps i none_step 0 h in
    let h : length xs ≤ length truth = distinct_below xs (length truth)
    (λ i j lt below e.
    let a = (t.on i (omega arith)).2 in
    let b = (t.on j (omega arith)).2 in
    let s : lit_at steps i ≡ lit_at steps j = sym (at i (omega arith)) ∙ e ∙ at j (omega arith) in
    let same : i ≡ j = sym a ∙ ap (λ (x : ℕ). get_or place (x / 2) 0) s ∙ b in omega arith)
    (λ i lt. let a = (t.on i (omega arith)).0 in let g = at i (omega arith) in omega arith) in
    omega arith

-- room for further variables changes nothing of what is set
get_or_push_default : {A : Type 0} (xs : List A) (d : A) (i : ℕ) → get_or (xs ++ d ∷ []) i d ≡ get_or xs i d
get_or_push_default [] d zero = refl
get_or_push_default [] d (suc i) = refl
get_or_push_default (x ∷ xs) d zero = refl
get_or_push_default (x ∷ xs) d (suc i) = get_or_push_default xs d i

pub IsTrail-place : (steps : List SetLiteral) (truth : List Bool) (place : List ℕ) → IsTrail steps truth place → IsTrail steps truth (place ++ 0 ∷ [])
IsTrail-place steps truth place t =
    let same : (i : ℕ) → get_or place i 0 ≡ get_or (place ++ 0 ∷ []) i 0 = λ i. sym (get_or_push_default place 0 i) in
    record {
      even = t.even;
      wide = let w = t.wide in omega (arith, length_push place 0);
      on = λ i h. let w = t.on i h in (w.0, w.1, sym (same (lit_at steps i / 2)) ∙ w.2);
      found = λ l h. let w = t.found l h in
          (subst (λ (x : ℕ). x < length steps) (same (l / 2)) w.0, subst (λ (x : ℕ). lit_at steps x ≡ l) (same (l / 2)) w.1);
    }

pub IsTrail-truth : (steps : List SetLiteral) (truth : List Bool) (place : List ℕ) → IsTrail steps truth place → length truth + 2 ≤ 2 * length place → IsTrail steps (truth ++ false ∷ false ∷ []) place
IsTrail-truth steps truth place t room =
    let len : length (truth ++ false ∷ false ∷ []) ≡ length truth + 2 = length-append truth (false ∷ false ∷ []) in
    let same : (l : ℕ) → get_or (truth ++ false ∷ false ∷ []) l false ≡ get_or truth l false = λ l. two truth l in
    record {
      even = let e = t.even in omega arith;
      wide = omega arith;
      on = λ i h. let w = t.on i h in let lt = w.0 in (omega arith, same (lit_at steps i) ∙ w.1, w.2);
      found = λ l h. t.found l (sym (same l) ∙ h);
    }
  where
    two : (truth : List Bool) (l : ℕ) → get_or (truth ++ false ∷ false ∷ []) l false ≡ get_or truth l false
    two [] zero = refl
    two [] (suc zero) = refl
    two [] (suc (suc l)) = refl
    two (x ∷ xs) zero = refl
    two (x ∷ xs) (suc l) = two xs l
