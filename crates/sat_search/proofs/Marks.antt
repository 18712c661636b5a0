use Rattle.std.proofs.Common.{ℕ, ◌≡◌, ◌≢◌, ◌+◌, ◌/◌, ◌<◌, ◌≤◌, ◌⊎◌, ◌++◌, inl, inr, List, [], ◌∷◌, length, get_or, set, Bool, true, false, refl, sym, ap, subst, ◌∙◌, arith}
use Rattle.std.proofs.lemmas.Bool.{cases_eq, cases_lt}
use Rattle.std.proofs.lemmas.List.{length-set, get_or-set_same, get_or-set_other}
use Rattle.std.proofs.lemmas.List.Elements.{Contains-push, Contains-append_left, Contains-push_cases}
use Rattle.sat_engine.specs.Trail.{IsSet}
use Rattle.sat_search.specs.Mark.{MarkedOne, MarkedAll}

-- nothing is to be done
pub MarkedOne-same : (m : ℕ) (place : List ℕ) (start floor : ℕ) (old : List Bool) (low : List ℕ) → IsSet old (m / 2) ⊎ (get_or place (m / 2) 0 < start) → MarkedOne m place start floor old old low low
MarkedOne-same m place start floor old low h = record {
  kept = λ v w. w;
  here = h;
  only = λ v w. inl w;
  low_kept = λ l w. w;
  low_only = λ l w. inl w;
  low_has = λ v w k. inl w;
  size = refl;
}

pub set-cases : (old : List Bool) (i v : ℕ) → IsSet (set old i true) v → IsSet old v ⊎ (i ≡ v)
set-cases old i v h = elim (cases_eq v i) [ inl e ↦ inr (sym e) | inr ne ↦ inl (sym (get_or-set_other old i v true false ne) ∙ h) ]

pub set-kept : (old : List Bool) (i v : ℕ) → i < length old → IsSet old v → IsSet (set old i true) v
set-kept old i v lt h = elim (cases_eq v i) [
  | inl e ↦ subst (λ (x : ℕ). IsSet (set old i true) x) (sym e) (get_or-set_same old i true false lt)
  | inr ne ↦ get_or-set_other old i v true false ne ∙ h
]

-- the literal is listed
pub MarkedOne-low : (m : ℕ) (place : List ℕ) (start floor : ℕ) (old : List Bool) (low : List ℕ) → m / 2 < length old → get_or place (m / 2) 0 < floor → MarkedOne m place start floor old (set old (m / 2) true) low (low ++ m ∷ [])
MarkedOne-low m place start floor old low lt below = record {
  kept = λ v w. set-kept old (m / 2) v lt w;
  here = inl (get_or-set_same old (m / 2) true false lt);
  only = λ v w. set-cases old (m / 2) v w;
  low_kept = λ l w. Contains-append_left low (m ∷ []) l w;
  low_only = λ l w. elim (Contains-push_cases low m l w) [ inl a ↦ inl a | inr e ↦ inr (sym e, subst (λ (x : ℕ). get_or place (x / 2) 0 < floor) e below) ];
  low_has = λ v w k. elim (set-cases old (m / 2) v w) [ inl a ↦ inl a | inr e ↦ inr (e, Contains-push low m) ];
  size = length-set old (m / 2) true;
}

-- the literal is not listed
pub MarkedOne-high : (m : ℕ) (place : List ℕ) (start floor : ℕ) (old : List Bool) (low : List ℕ) → m / 2 < length old → floor ≤ get_or place (m / 2) 0 → MarkedOne m place start floor old (set old (m / 2) true) low low
MarkedOne-high m place start floor old low lt above = record {
  kept = λ v w. set-kept old (m / 2) v lt w;
  here = inl (get_or-set_same old (m / 2) true false lt);
  only = λ v w. set-cases old (m / 2) v w;
  low_kept = λ l w. w;
  low_only = λ l w. inl w;
  low_has = λ v w k. elim (set-cases old (m / 2) v w) [ inl a ↦ inl a | inr e ↦ let f : get_or place (m / 2) 0 < floor = subst (λ (x : ℕ). get_or place x 0 < floor) (sym e) k in absurd (omega arith) ];
  size = length-set old (m / 2) true;
}

pub MarkedAll-none : (c place : List ℕ) (start floor skip : ℕ) (old : List Bool) (low : List ℕ) → MarkedAll c 0 place start floor skip old old low low
MarkedAll-none c place start floor skip old low = record {
  kept = λ v w. w;
  all = λ i h ne. absurd (omega arith);
  only = λ v w. inl w;
  low_kept = λ l w. w;
  low_only = λ l w. inl w;
  low_has = λ v w k. inl w;
  size = refl;
}

-- the literal at k is `skip`
pub MarkedAll-skip : (c : List ℕ) (k : ℕ) (place : List ℕ) (start floor skip : ℕ) (old new : List Bool) (low_old low_new : List ℕ) → MarkedAll c k place start floor skip old new low_old low_new → get_or c k 0 ≡ skip → MarkedAll c (k + 1) place start floor skip old new low_old low_new
MarkedAll-skip c k place start floor skip old new low_old low_new m e = record {
  kept = m.kept;
  all = λ i h ne. elim (cases_lt i k) [ inl a ↦ m.all i a ne | inr b ↦ let same : i ≡ k = omega arith in absurd (ne (ap (λ (x : ℕ). get_or c x 0) same ∙ e)) ];
  only = λ v w. elim (m.only v w) [ inl a ↦ inl a | inr b ↦ inr (b.0, omega arith, b.2, b.3) ];
  low_kept = m.low_kept;
  low_only = λ l w. elim (m.low_only l w) [ inl a ↦ inl a | inr b ↦ inr (b.0, omega arith, b.2, b.3, b.4) ];
  low_has = λ v w h. elim (m.low_has v w h) [ inl a ↦ inl a | inr b ↦ inr (b.0, omega arith, b.2, b.3, b.4) ];
  size = m.size;
}

-- and where it is not
pub MarkedAll-more : (c : List ℕ) (k : ℕ) (place : List ℕ) (start floor skip : ℕ) (old mid new : List Bool) (low_old low_mid low_new : List ℕ) → MarkedAll c k place start floor skip old mid low_old low_mid → get_or c k 0 ≢ skip → MarkedOne (get_or c k 0) place start floor mid new low_mid low_new → MarkedAll c (k + 1) place start floor skip old new low_old low_new
MarkedAll-more c k place start floor skip old mid new low_old low_mid low_new m off o = record {
  kept = λ v w. o.kept v (m.kept v w);
  all = λ i h ne. elim (cases_lt i k) [
    | inl a ↦ elim (m.all i a ne) [ inl x ↦ inl (o.kept (get_or c i 0 / 2) x) | inr y ↦ inr y ]
    | inr b ↦ let same : k ≡ i = omega arith in subst (λ (x : ℕ). IsSet new (get_or c x 0 / 2) ⊎ (get_or place (get_or c x 0 / 2) 0 < start)) same o.here
  ];
  only = λ v w. elim (o.only v w) [
    | inl a ↦ elim (m.only v a) [ inl x ↦ inl x | inr y ↦ inr (y.0, omega arith, y.2, y.3) ]
    | inr b ↦ inr (k, omega arith, off, b)
  ];
  low_kept = λ l w. o.low_kept l (m.low_kept l w);
  low_only = λ l w. elim (o.low_only l w) [
    | inl a ↦ elim (m.low_only l a) [ inl x ↦ inl x | inr y ↦ inr (y.0, omega arith, y.2, y.3, y.4) ]
    | inr b ↦ inr (k, omega arith, off, sym b.0, b.1)
  ];
  low_has = λ v w h. elim (o.low_has v w h) [
    | inl a ↦ elim (m.low_has v a h) [ inl x ↦ inl x | inr y ↦ inr (y.0, omega arith, y.2, y.3, o.low_kept (get_or c y.0 0) y.4) ]
    | inr b ↦ inr (k, omega arith, off, b.0, b.1)
  ];
  size = o.size ∙ m.size;
}
