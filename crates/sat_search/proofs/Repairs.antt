use Rattle.std.proofs.Common.{ℕ, ◌≡◌, ◌≢◌, ◌+◌, ◌-◌, ◌/◌, ◌<◌, ◌≤◌, inl, inr, List, [], ◌∷◌, length, get_or, take, Bool, false, None, Some, Option, MatchOption, sym, ap, subst, ◌∙◌, arith}
use Rattle.std.specs.List.{Contains}
use Rattle.std.proofs.lemmas.Bool.{cases_eq, cases_lt, false≢true}
use Rattle.std.proofs.lemmas.List.{length-take-le, length_push, get_or-take, get_or_append_left, get_or_push, get_or_default, take-take}
use Rattle.std.proofs.lemmas.List.Elements.{Contains-push_cases, Contains-get_or}
use Rattle.sat_clause.specs.Literals.{complement_of}
use Rattle.sat_clause.specs.Propagation.{clause_at, Conflict}
use Rattle.sat_clause.proofs.Truths.{complement_twice, complement_variable}
use Rattle.sat_engine.specs.declared.trail.Reason.{Reason}
use Rattle.sat_engine.specs.declared.trail.Reason.TheVariants.{Free, Assumed}
use Rattle.sat_engine.specs.declared.trail.SetLiteral.{SetLiteral}
use Rattle.sat_engine.specs.Trail.{none_step, IsSet, IsTrail, lit_at, reason_at}
use Rattle.sat_engine.specs.Look.{InRange, AreInRange, AreFalse}
use Rattle.sat_engine.proofs.Trails.{each_Contains, lit_at-take}
use Rattle.sat_search.specs.declared.repair.Spot.{Spot}
use Rattle.sat_search.specs.Analysis.{IsSite, IsLearnt}
use Rattle.sat_search.specs.State.{is_choice, IsState}
use Rattle.sat_search.specs.Choice.{IsLastPlace, IsChoiceAt, NoChoice}
use Rattle.sat_search.specs.Repair.{IsBack, IsSpot, IsJump}
use Rattle.sat_search.proofs.States.{Conflict-from, no_free, false_in, IsState-cut, IsSite-from}
use Rattle.sat_search.proofs.Analyses.{apart}

pub IsLastPlace-at : (c d place here : List ℕ) (o : Option ℕ) → c ≡ d → place ≡ here → IsLastPlace c (length c) place o → IsLastPlace d (length d) here o
IsLastPlace-at c d place here o e f h = subst (λ (x : List ℕ). IsLastPlace d (length d) x o) f (subst (λ (x : List ℕ). IsLastPlace x (length x) place o) e h)

not_free : (r : Reason) → is_choice r ≡ false → r ≢ Free
not_free r e f = false≢true (sym e ∙ ap is_choice f)

module _ (F : List (List ℕ)) (A : List ℕ) (steps : List SetLiteral) (truth : List Bool) (place : List ℕ) (start n : ℕ) (t : IsTrail steps truth place) (s : IsState F A steps start) (lt : n < length F) (is_false : AreFalse (clause_at F n) truth) where
  until : (top : ℕ) → IsLastPlace (clause_at F n) (length (clause_at F n)) place (Some top) → (m : ℕ) → Contains (clause_at F n) m → get_or place (m / 2) 0 ≤ top
  until top h = each_Contains (λ m. get_or place (m / 2) 0 ≤ top) (clause_at F n) h.0

  top_is : (top : ℕ) → IsLastPlace (clause_at F n) (length (clause_at F n)) place (Some top) → (top < length steps) × Contains (clause_at F n) (complement_of (lit_at steps top))
  top_is top h =
      let k = h.1.0 in
      let m : ℕ = get_or (clause_at F n) k 0 in
      let w : Contains (clause_at F n) m = Contains-get_or (clause_at F n) k 0 h.1.1 in
      let f = t.found (complement_of m) (is_false m w) in
      let e : get_or place (complement_of m / 2) 0 ≡ top = ap (λ (x : ℕ). get_or place x 0) (complement_variable m) ∙ h.1.2 in
      let l : lit_at steps top ≡ complement_of m = ap (lit_at steps) (sym e) ∙ f.1 in
      (subst (λ (x : ℕ). x < length steps) e f.0, subst (λ (x : ℕ). Contains (clause_at F n) x) (sym (ap complement_of l ∙ complement_twice m)) w)

  pub IsSpot-from : (top floor : ℕ) → IsLastPlace (clause_at F n) (length (clause_at F n)) place (Some top) → (start ≤ floor) × (floor ≤ top) × IsChoiceAt steps floor × NoChoice steps (floor + 1) (top + 1) → IsSpot F steps place start n (record { top = top; floor = floor })
  IsSpot-from top floor h c = record {
    start_le = c.0;
    floor = c.1;
    top = (top_is top h).0;
    choice = c.2;
    none = c.3;
    last = (top_is top h).1;
    until = until top h;
  }

  pub top_below : (top : ℕ) → IsLastPlace (clause_at F n) (length (clause_at F n)) place (Some top) → top < length steps
  top_below top h = (top_is top h).0

  pub Conflict-empty : length (clause_at F n) ≡ 0 → Conflict F A
  Conflict-empty e = record { at = n; within = lt; all_false = λ m w. absurd (omega (arith, w.1)) }

  pub Conflict-no_choice : (top : ℕ) → IsLastPlace (clause_at F n) (length (clause_at F n)) place (Some top) → NoChoice steps start (top + 1) → Conflict F A
  Conflict-no_choice top h off = Conflict-from F A steps truth place start n (top + 1) t s lt is_false (λ m w. omega (arith, until top h m w)) (λ i a b. not_free (reason_at steps i) (off i a b))

  pub Conflict-assumed : (top floor : ℕ) → IsLastPlace (clause_at F n) (length (clause_at F n)) place (Some top) → floor ≤ top → NoChoice steps (floor + 1) (top + 1) → reason_at steps floor ≡ Assumed → Conflict F A
  Conflict-assumed top floor h le off e = Conflict-from F A steps truth place start n (top + 1) t s lt is_false (λ m w. omega (arith, until top h m w))
      (λ i a b. elim (cases_lt i floor) [
        | inl below ↦ no_free F A steps truth place start floor t s (omega (arith, top_below top h)) e i below
        | inr above ↦ elim (cases_eq i floor) [
          | inl same ↦ λ free. clash (sym (subst (λ (x : ℕ). reason_at steps x ≡ Free) same free) ∙ e)
          | inr other ↦ not_free (reason_at steps i) (off i (omega arith) b)
        ]
      ])
    where
      clash : Free ≡ Assumed → ⊥
      clash f = cc

pub IsBack-from : (steps : List SetLiteral) (place here : List ℕ) (start : ℕ) (c : List ℕ) (last : Option ℕ) (from to : ℕ) → 0 < length c → start ≤ length steps → place ≡ here
    → IsLastPlace (take (length c - 1) c) (length (take (length c - 1) c)) place last
    → MatchOption last (from ≡ start) (λ t. (start ≤ from) × (t < from) × ((f : ℕ) → t < f → start ≤ f → from ≤ f))
    → from ≤ to → to ≤ length steps → NoChoice steps from to → (to < length steps → IsChoiceAt steps to) → IsBack steps here start c to
IsBack-from steps place here start c last from to some le e h m above within off choice =
    subst (λ (x : List ℕ). IsBack steps x start c to) e (by last h m)
  where
    low_len : length (take (length c - 1) c) ≡ length c - 1
    low_len = length-take-le (length c - 1) c (omega arith)

    by : (o : Option ℕ) → IsLastPlace (take (length c - 1) c) (length (take (length c - 1) c)) place o → MatchOption o (from ≡ start) (λ t. (start ≤ from) × (t < from) × ((f : ℕ) → t < f → start ≤ f → from ≤ f)) → IsBack steps place start c to
    by None h m = record {
      start_le = omega arith;
      within = within;
      choice = choice;
      low = λ k lt. let z = low_len in absurd (omega arith);
      first = λ f a b ch all. elim (cases_lt f to) [ inl below ↦ absurd (false≢true (sym (off f (omega arith) below) ∙ ch)) | inr ge ↦ ge ];
    }
    by (Some t) h m = record {
      start_le = let x = m.0 in omega arith;
      within = within;
      choice = choice;
      low = λ k lt.
          let z = low_len in
          let same : get_or (take (length c - 1) c) k 0 ≡ get_or c k 0 = get_or-take (length c - 1) c k 0 (omega arith) in
          let p = subst (λ (x : ℕ). get_or place (x / 2) 0 ≤ t) same (h.0 k (omega arith)) in
          omega (arith, p, m.1);
      first = λ f a b ch all.
          let z = low_len in
          let k = h.1.0 in
          let same : get_or (take (length c - 1) c) k 0 ≡ get_or c k 0 = get_or-take (length c - 1) c k 0 (omega (arith, h.1.1)) in
          let q : get_or place (get_or c k 0 / 2) 0 < f = all k (omega (arith, h.1.1)) in
          let p : get_or place (get_or c k 0 / 2) 0 ≡ t = subst (λ (x : ℕ). get_or place (x / 2) 0 ≡ t) same h.1.2 in
          let g : from ≤ f = m.2 f (omega arith) a in
          elim (cases_lt f to) [ inl below ↦ absurd (false≢true (sym (off f g below) ∙ ch)) | inr ge ↦ ge ];
    }

-- what a cut keeps set
pub set_kept : (steps : List SetLiteral) (truth after : List Bool) (place : List ℕ) (k l : ℕ) → IsTrail steps truth place → IsTrail (take k steps) after place → k ≤ length steps → IsSet truth l → get_or place (l / 2) 0 < k → IsSet after l
set_kept steps truth after place k l t u le h lt =
    let f = t.found l h in
    let len : length (take k steps) ≡ k = length-take-le k steps le in
    subst (λ (x : ℕ). IsSet after x) (lit_at-take k steps (get_or place (l / 2) 0) lt ∙ f.1) (u.on (get_or place (l / 2) 0) (omega arith)).1

pub set_back : (steps : List SetLiteral) (truth after : List Bool) (place : List ℕ) (k l : ℕ) → IsTrail steps truth place → IsTrail (take k steps) after place → k ≤ length steps → IsSet after l → IsSet truth l × (get_or place (l / 2) 0 < k)
set_back steps truth after place k l t u le h =
    let f = u.found l h in
    let len : length (take k steps) ≡ k = length-take-le k steps le in
    let lt : get_or place (l / 2) 0 < k = omega (arith, f.0) in
    let e : lit_at steps (get_or place (l / 2) 0) ≡ l = sym (lit_at-take k steps (get_or place (l / 2) 0) lt) ∙ f.1 in
    (subst (λ (x : ℕ). IsSet truth x) e (t.on (get_or place (l / 2) 0) (omega arith)).1, lt)

pub IsJump-from : (F : List (List ℕ)) (old mid new : List SetLiteral) (truth after : List Bool) (place : List ℕ) (start floor end k : ℕ) (c : List ℕ) → IsTrail mid truth place → IsTrail new after place → mid ≡ take end old → end ≤ length old → floor < end → start ≤ floor → IsChoiceAt old floor
    → IsLearnt F truth place floor c → IsBack mid place start c k → new ≡ take k mid → length after ≡ length truth → IsJump F old new after start c
IsJump-from F old mid new truth after place start floor end k c t u e1 le lt le2 choice h b e2 size =
    let len_mid : length mid ≡ end = ap length e1 ∙ length-take-le end old le in
    let len_c : length c ≡ length h.low + 1 = ap length h.is ∙ length_push h.low (complement_of h.uip) in
    let n : ℕ = length c - 1 in
    let n_is : n ≡ length h.low = omega arith in
    let last : get_or c n 0 ≡ complement_of h.uip = ap (λ (x : List ℕ). get_or x n 0) h.is ∙ get_or_push h.low (complement_of h.uip) 0 n (sym n_is) in
    let choice_mid : IsChoiceAt mid floor = subst (λ (x : List SetLiteral). IsChoiceAt x floor) (sym e1) (choice_in floor lt choice) in
    let k_le : k ≤ floor = b.first floor le2 (omega arith) choice_mid (λ i a. low_at i a) in
    let u2 : IsTrail (take k mid) after place = subst (λ (x : List SetLiteral). IsTrail x after place) e2 u in
    let k_mid : k ≤ length mid = omega arith in
    record {
      follows = h.follows;
      some = omega arith;
      range = λ i a.
          let l : ℕ = get_or c i 0 in
          let f = t.found (complement_of l) (false_in mid F truth place floor c h l (Contains-get_or c i 0 a)) in
          let g : complement_of l < length truth = subst (λ (x : ℕ). x < length truth) f.1 (t.on (get_or place (complement_of l / 2) 0) f.0).0 in
          let e = t.even in omega arith;
      apart = λ w. apart mid truth place t (complement_of w.0) (false_in mid F truth place floor c h w.0 w.1) (false_in mid F truth place floor c h (complement_of w.0) w.2);
      cut = k;
      start_le = b.start_le;
      within = omega arith;
      choice = choice_out k (omega arith) (b.choice (omega arith));
      is = e2 ∙ ap (take k) e1 ∙ take-take k end old (omega arith);
      unset = λ s. apart mid truth place t h.uip h.uip_set (set_back mid truth after place k (complement_of h.uip) t u2 k_mid (subst (λ (x : ℕ). IsSet after x) last s)).0;
      not_false = λ s.
          let s2 : IsSet after h.uip = subst (λ (x : ℕ). IsSet after x) (ap complement_of last ∙ complement_twice h.uip) s in
          let w = (set_back mid truth after place k h.uip t u2 k_mid s2).1 in
          let v = h.uip_above in omega arith;
      others = λ m w ne. elim (Contains-push_cases h.low (complement_of h.uip) m (subst (λ (x : List ℕ). Contains x m) h.is w)) [
        | inr e ↦ absurd (ne (sym e ∙ sym last))
        | inl a ↦
            let same : get_or c a.0 0 ≡ m = ap (λ (x : List ℕ). get_or x a.0 0) h.is ∙ get_or_append_left h.low (complement_of h.uip ∷ []) 0 a.0 a.1 ∙ get_or_default h.low a.0 0 m a.1 ∙ a.2 in
            let p : get_or place (m / 2) 0 < k = subst (λ (x : ℕ). get_or place (x / 2) 0 < k) same (b.low a.0 (omega (arith, a.1))) in
            set_kept mid truth after place k (complement_of m) t u2 k_mid (h.low_false m a) (subst (λ (x : ℕ). get_or place x 0 < k) (sym (complement_variable m)) p)
      ];
    }
  where
    choice_in : (i : ℕ) → i < end → IsChoiceAt old i → IsChoiceAt (take end old) i
    choice_in i lt h = ap (λ (x : SetLiteral). is_choice x.reason) (get_or-take end old i none_step lt) ∙ h

    choice_out : (i : ℕ) → i < end → IsChoiceAt mid i → IsChoiceAt old i
    choice_out i lt h = ap (λ (x : SetLiteral). is_choice x.reason) (sym (get_or-take end old i none_step lt)) ∙ subst (λ (x : List SetLiteral). IsChoiceAt x i) e1 h

    low_at : (i : ℕ) → i + 1 < length c → get_or place (get_or c i 0 / 2) 0 < floor
    low_at i a =
        let len_c : length c ≡ length h.low + 1 = ap length h.is ∙ length_push h.low (complement_of h.uip) in
        let same : get_or c i 0 ≡ get_or h.low i 0 = ap (λ (x : List ℕ). get_or x i 0) h.is ∙ get_or_append_left h.low (complement_of h.uip ∷ []) 0 i (omega arith) in
        subst (λ (x : ℕ). get_or place (x / 2) 0 < floor) (sym same) (h.low_below (get_or h.low i 0) (Contains-get_or h.low i 0 (omega arith)))

pub learnt_range : (F : List (List ℕ)) (steps : List SetLiteral) (truth : List Bool) (place : List ℕ) (floor : ℕ) (c : List ℕ) → IsTrail steps truth place → IsLearnt F truth place floor c → InRange c (length truth)
learnt_range F steps truth place floor c t h i a =
    let l : ℕ = get_or c i 0 in
    let f = t.found (complement_of l) (false_in steps F truth place floor c h l (Contains-get_or c i 0 a)) in
    let g : complement_of l < length truth = subst (λ (x : ℕ). x < length truth) f.1 (t.on (get_or place (complement_of l / 2) 0) f.0).0 in
    let e = t.even in omega arith

pub learnt_low : (F : List (List ℕ)) (truth : List Bool) (place : List ℕ) (floor : ℕ) (c : List ℕ) → IsLearnt F truth place floor c → (i : ℕ) → i + 1 < length c → get_or place (get_or c i 0 / 2) 0 < floor
learnt_low F truth place floor c h i a =
    let len_c : length c ≡ length h.low + 1 = ap length h.is ∙ length_push h.low (complement_of h.uip) in
    let same : get_or c i 0 ≡ get_or h.low i 0 = ap (λ (x : List ℕ). get_or x i 0) h.is ∙ get_or_append_left h.low (complement_of h.uip ∷ []) 0 i (omega arith) in
    subst (λ (x : ℕ). get_or place (x / 2) 0 < floor) (sym same) (h.low_below (get_or h.low i 0) (Contains-get_or h.low i 0 (omega arith)))

-- the site of the analysis, after the cut after the spot's level
pub site_at : (F : List (List ℕ)) (A : List ℕ) (old mid : List SetLiteral) (truth : List Bool) (place : List ℕ) (start n end : ℕ) (s : Spot) (here : List ℕ) → IsTrail mid truth here → AreInRange F (length truth) → IsState F A old start → IsSpot F old place start n s
    → mid ≡ take end old → end ≤ length old → s.top < end → NoChoice old (s.top + 1) end → IsSite F mid truth here start s.floor
site_at F A old mid truth place start n end s here t range st sp e le lt off =
    let len : length mid ≡ end = ap length e ∙ length-take-le end old le in
    let ms : IsState F A mid start = subst (λ (x : List SetLiteral). IsState F A x start) (sym e) (IsState-cut F A old start end st (let a = sp.start_le in let b = sp.floor in omega arith) le) in
    IsSite-from F A mid truth here start s.floor t range ms (λ i a b.
    let same : reason_at mid i ≡ reason_at old i = ap (λ (x : List SetLiteral). reason_at x i) e ∙ ap (λ (x : SetLiteral). x.reason) (get_or-take end old i none_step (omega arith)) in
    ap is_choice same ∙ elim (cases_lt s.top i) [ inl above ↦ off i (omega arith) (omega arith) | inr below ↦ sp.none i (omega arith) (omega arith) ])
