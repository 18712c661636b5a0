use Rattle.std.proofs.Common.{ℕ, ◌≡◌, ◌≢◌, ◌+◌, ◌/◌, ◌<◌, ◌≤◌, ◌++◌, inl, inr, List, [], ◌∷◌, Bool, length, get_or, take, refl, sym, ap, subst, ◌∙◌, arith}
use Rattle.std.specs.List.{Contains}
use Rattle.std.proofs.lemmas.List.{length_push, get_or_push, get_or_append_left, take-append-le, take_all, get_or-take, take-take}
use Rattle.std.proofs.lemmas.Bool.{cases_lt}
use Rattle.sat_clause.specs.Propagation.{clause_at}
use Rattle.sat_clause.specs.Literals.{complement_of}
use Rattle.sat_engine.specs.declared.trail.Reason.{Reason}
use Rattle.sat_engine.specs.declared.trail.Reason.TheVariants.{Free, Assumed, Clause}
use Rattle.sat_engine.specs.declared.trail.SetLiteral.{SetLiteral}
use Rattle.sat_engine.specs.Trail.{none_step, lit_at, reason_at, IsSet, IsTrail, Before, IsReason, AreReasons}
use Rattle.sat_engine.specs.Grow.{IsImplied, Grows}
use Rattle.sat_engine.specs.Look.{AreFalseBut}
use Rattle.sat_engine.proofs.Trails.{lit_at-push, lit_at-last}

-- the places before i are the same in both trails, as far as i
pub SameTo : List SetLiteral → List SetLiteral → ℕ → Type 0
SameTo xs ys n = (i : ℕ) → i < n → get_or xs i none_step ≡ get_or ys i none_step

pub Before-same : (xs ys : List SetLiteral) (i l : ℕ) → ((j : ℕ) → j < i → lit_at xs j ≡ lit_at ys j) → Before xs i l → Before ys i l
Before-same xs ys i l same b = (b.0, b.1, sym (same b.0 b.1) ∙ b.2)

pub IsImplied-same : (F : List (List ℕ)) (xs ys : List SetLiteral) (i : ℕ) (r : Reason) → ((j : ℕ) → j ≤ i → lit_at xs j ≡ lit_at ys j) → IsImplied F xs i r → IsImplied F ys i r
IsImplied-same F xs ys i Free same h = h
IsImplied-same F xs ys i Assumed same h = h
IsImplied-same F xs ys i (Clause n) same h =
    let here : lit_at xs i ≡ lit_at ys i = same i (omega arith) in (
      h.0,
      subst (λ (x : ℕ). Contains (clause_at F n) x) here h.1,
      λ m w ne. Before-same xs ys i (complement_of m) (λ j lt. same j (omega arith)) (h.2 m w (λ e. ne (e ∙ here))),
    )

pub IsReason-same : (F : List (List ℕ)) (A : List ℕ) (xs ys : List SetLiteral) (i : ℕ) (r : Reason) → ((j : ℕ) → j ≤ i → lit_at xs j ≡ lit_at ys j) → IsReason F A xs i r → IsReason F A ys i r
IsReason-same F A xs ys i Free same h = h
IsReason-same F A xs ys i Assumed same h = subst (λ (x : ℕ). Contains A x) (same i (omega arith)) h
IsReason-same F A xs ys i (Clause n) same h = IsImplied-same F xs ys i (Clause n) same h

pub Grows-refl : (F : List (List ℕ)) (xs : List SetLiteral) → Grows F xs xs
Grows-refl F xs = record { longer = omega arith; front = take_all (length xs) xs (omega arith); implied = λ i h k. absurd (omega arith) }

pub Grows-push : (F : List (List ℕ)) (xs ys : List SetLiteral) (l n : ℕ) → Grows F xs ys → n < length F → Contains (clause_at F n) l → ((m : ℕ) → Contains (clause_at F n) m → m ≢ l → Before ys (length ys) (complement_of m)) → Grows F xs (ys ++ record { lit = l; reason = Clause n } ∷ [])
Grows-push F xs ys l n g lt has others =
    let s : SetLiteral = record { lit = l; reason = Clause n } in
    let zs : List SetLiteral = ys ++ s ∷ [] in
    let len : length zs ≡ length ys + 1 = length_push ys s in
    record {
      longer = let a = g.longer in omega arith;
      front = take-append-le (length xs) ys (s ∷ []) g.longer ∙ g.front;
      implied = λ i h k. elim (cases_lt i (length ys)) [
        | inl below ↦
            let r : reason_at ys i ≡ reason_at zs i = ap (λ (x : SetLiteral). x.reason) (sym (get_or_append_left ys (s ∷ []) none_step i below)) in
            subst (λ (x : Reason). IsImplied F zs i x) r (IsImplied-same F ys zs i (reason_at ys i) (λ j le. sym (lit_at-push ys s j (omega arith))) (g.implied i h below))
        | inr above ↦
            let e : length ys ≡ i = omega arith in
            subst (λ (x : ℕ). IsImplied F zs x (reason_at zs x)) e (last ys l n lt has others)
      ];
    }
  where
    last : (ys : List SetLiteral) (l n : ℕ) → n < length F → Contains (clause_at F n) l → ((m : ℕ) → Contains (clause_at F n) m → m ≢ l → Before ys (length ys) (complement_of m))
        → IsImplied F (ys ++ record { lit = l; reason = Clause n } ∷ []) (length ys) (reason_at (ys ++ record { lit = l; reason = Clause n } ∷ []) (length ys))
    last ys l n lt has others =
        let s : SetLiteral = record { lit = l; reason = Clause n } in
        let zs : List SetLiteral = ys ++ s ∷ [] in
        let here : lit_at zs (length ys) ≡ l = lit_at-last ys s in
        let r : reason_at zs (length ys) ≡ Clause n = ap (λ (x : SetLiteral). x.reason) (get_or_push ys s none_step (length ys) refl) in
        subst (λ (x : Reason). IsImplied F zs (length ys) x) (sym r) (
          lt,
          subst (λ (x : ℕ). Contains (clause_at F n) x) (sym here) has,
          λ m w ne. Before-same ys zs (length ys) (complement_of m) (λ j h. sym (lit_at-push ys s j h)) (others m w (λ e. ne (e ∙ sym here))),
        )

-- what `Grows` keeps
pub AreReasons-grown : (F : List (List ℕ)) (A : List ℕ) (xs ys : List SetLiteral) → Grows F xs ys → AreReasons F A xs → AreReasons F A ys
AreReasons-grown F A xs ys g all i lt = elim (cases_lt i (length xs)) [
  | inl below ↦
      let same : (j : ℕ) → j < length xs → get_or xs j none_step ≡ get_or ys j none_step =
      λ j h. ap (λ (x : List SetLiteral). get_or x j none_step) (sym g.front) ∙ get_or-take (length xs) ys j none_step h in
      let r : reason_at xs i ≡ reason_at ys i = ap (λ (x : SetLiteral). x.reason) (same i below) in
      subst (λ (x : Reason). IsReason F A ys i x) r (IsReason-same F A xs ys i (reason_at xs i) (λ j le. ap (λ (x : SetLiteral). x.lit) (same j (omega arith))) (all i below))
  | inr above ↦ weaken (reason_at ys i) (g.implied i above lt)
]
  where
    weaken : (r : Reason) → IsImplied F ys i r → IsReason F A ys i r
    weaken Free h = absurd h
    weaken Assumed h = absurd h
    weaken (Clause n) h = h

-- a set literal stands in the trail
pub Before-set : (steps : List SetLiteral) (truth : List Bool) (place : List ℕ) → IsTrail steps truth place → (l : ℕ) → IsSet truth l → Before steps (length steps) l
Before-set steps truth place t l h = let w = t.found l h in (get_or place (l / 2) 0, w.0, w.1)

pub same_to : (F : List (List ℕ)) (xs ys : List SetLiteral) → Grows F xs ys → (j : ℕ) → j < length xs → get_or xs j none_step ≡ get_or ys j none_step
same_to F xs ys g j h = ap (λ (x : List SetLiteral). get_or x j none_step) (sym g.front) ∙ get_or-take (length xs) ys j none_step h

pub Grows-trans : (F : List (List ℕ)) (xs ys zs : List SetLiteral) → Grows F xs ys → Grows F ys zs → Grows F xs zs
Grows-trans F xs ys zs g h = record {
  longer = let a = g.longer in let b = h.longer in omega arith;
  front = sym (take-take (length xs) (length ys) zs g.longer) ∙ ap (take (length xs)) h.front ∙ g.front;
  implied = λ i a b. elim (cases_lt i (length ys)) [
    | inl below ↦
        let r : reason_at ys i ≡ reason_at zs i = ap (λ (x : SetLiteral). x.reason) (same_to F ys zs h i below) in
        subst (λ (x : Reason). IsImplied F zs i x) r
        (IsImplied-same F ys zs i (reason_at ys i) (λ j le. ap (λ (x : SetLiteral). x.lit) (same_to F ys zs h j (omega arith))) (g.implied i a below))
    | inr above ↦ h.implied i above b
  ];
}

pub Grows-imply : (F : List (List ℕ)) (xs ys : List SetLiteral) (truth : List Bool) (place : List ℕ) (l n : ℕ) → IsTrail xs truth place → n < length F → Contains (clause_at F n) l → AreFalseBut (clause_at F n) truth l
    → ys ≡ xs ++ record { lit = l; reason = Clause n } ∷ [] → Grows F xs ys
Grows-imply F xs ys truth place l n t lt has others e =
    subst (λ (x : List SetLiteral). Grows F xs x) (sym e) (Grows-push F xs xs l n (Grows-refl F xs) lt has (λ m w ne. Before-set xs truth place t (complement_of m) (others m w ne)))
