use Rattle.std.proofs.Common.{ℕ, ◌≡◌, ◌≢◌, ◌+◌, ◌*◌, ◌/◌, ◌<◌, ◌≤◌, ◌++◌, inl, inr, List, [], ◌∷◌, map, length, get_or, set, Bool, true, false, None, refl, sym, ap, subst, ◌∙◌, arith}
use Rattle.std.specs.List.{Contains}
use Rattle.std.proofs.lemmas.Bool.{cases_eq, cases_lt, false≢true}
use Rattle.std.proofs.lemmas.List.{length-set, length-map, get_or-map, get_or-set_same, get_or-set_other, get_or_default, set_past}
use Rattle.std.proofs.lemmas.List.Elements.{Contains-push, Contains-append_left, Contains-push_cases, Contains-get_or}
use Rattle.sat_clause.specs.Literals.{complement_of}
use Rattle.sat_clause.specs.Propagation.{clause_at, Derived, given, unit}
use Rattle.sat_clause.proofs.Truths.{complement_twice, complement_variable}
use Rattle.sat_search.proofs.Marks.{set-cases, set-kept}
use Rattle.sat_search.proofs.Derivations.{Derived-wider}
use Rattle.sat_engine.specs.declared.trail.Reason.TheVariants.{Clause}
use Rattle.sat_engine.specs.declared.trail.SetLiteral.{SetLiteral}
use Rattle.sat_engine.specs.Trail.{IsSet, IsTrail, lit_at}
use Rattle.sat_engine.specs.Look.{AreFalse, AreFalseBut}
use Rattle.sat_engine.specs.Grow.{IsImplied}
use Rattle.sat_search.specs.Mark.{IsMarkedAt, IsNext, MarkedAll}
use Rattle.sat_search.specs.Analysis.{IsSite, IsMarked, IsLearnt, IsRedundant}

-- a literal and its complement do not both stand in a trail
pub apart : (steps : List SetLiteral) (truth : List Bool) (place : List ℕ) → IsTrail steps truth place → (l : ℕ) → IsSet truth l → IsSet truth (complement_of l) → ⊥
apart steps truth place t l p q =
    let a = t.found l p in
    let b = t.found (complement_of l) q in
    let e : complement_of l ≡ l = sym b.1 ∙ ap (λ (x : ℕ). lit_at steps (get_or place x 0)) (complement_variable l) ∙ a.1 in
    omega arith

-- two set literals of one variable are one
pub one_of_two : (steps : List SetLiteral) (truth : List Bool) (place : List ℕ) → IsTrail steps truth place → (l m : ℕ) → IsSet truth l → IsSet truth m → l / 2 ≡ m / 2 → l ≡ m
one_of_two steps truth place t l m p q e =
    let a = t.found l p in
    let b = t.found m q in
    sym a.1 ∙ ap (λ (x : ℕ). lit_at steps (get_or place x 0)) e ∙ b.1

pub Contains-map_complement : (c : List ℕ) (l : ℕ) → Contains c (complement_of l) → Contains (map complement_of c) l
Contains-map_complement c l w =
    let e : get_or (map complement_of c) w.0 l ≡ complement_of (get_or c w.0 (complement_of l)) = get_or-map complement_of c w.0 (complement_of l) l w.1 in
    (w.0, omega (arith, length-map c complement_of), e ∙ ap complement_of w.2 ∙ complement_twice l)

-- the literal of a clause at an index, as one in it
at_index : (c : List ℕ) (i : ℕ) → i < length c → Contains c (get_or c i 0)
at_index c i h = Contains-get_or c i 0 h

-- what is set after one was unset was so before
pub was_set : (old : List Bool) (i v : ℕ) → IsSet (set old i false) v → IsSet old v
was_set old i v h = elim (cases_eq v i) [
  | inl e ↦ elim (cases_lt i (length old)) [
    | inl lt ↦ absurd (false≢true (sym (get_or-set_same old i false false lt) ∙ ap (λ (x : ℕ). get_or (set old i false) x false) (sym e) ∙ h))
    | inr ge ↦ subst (λ (x : List Bool). IsSet x v) (set_past old i false ge) h
  ]
  | inr ne ↦ sym (get_or-set_other old i v false false ne) ∙ h
]

-- what marking a clause adds
module _ (F : List (List ℕ)) (steps : List SetLiteral) (truth : List Bool) (place : List ℕ) (start floor : ℕ) (site : IsSite F steps truth place start floor) where
  Facts : (A : List ℕ) (q : ℕ) → IsSet truth q → get_or place (q / 2) 0 < start → Derived F A q
  Facts A q s h = Derived-wider F [] A (λ l w. absurd (omega arith)) q (site.facts q s h)

  -- each literal of the clause but `skip` is derived where what is marked is
  marks_derive : (n skip : ℕ) (old new : List Bool) (low_old low_new : List ℕ) → MarkedAll (clause_at F n) (length (clause_at F n)) place start floor skip old new low_old low_new → AreFalseBut (clause_at F n) truth skip
      → (A : List ℕ) → ((q : ℕ) → IsSet truth q → IsSet new (q / 2) → Derived F A q) → (m : ℕ) → Contains (clause_at F n) m → m ≢ skip → Derived F A (complement_of m)
  marks_derive n skip old new low_old low_new mk others A all m w ne =
      let c : List ℕ = clause_at F n in
      let e : get_or c w.0 0 ≡ m = get_or_default c w.0 0 m w.1 ∙ w.2 in
      let s : IsSet truth (complement_of m) = others m w ne in
      elim (mk.all w.0 w.1 (λ f. ne (sym e ∙ f))) [
        | inl marked ↦ all (complement_of m) s (subst (λ (x : ℕ). IsSet new x) (ap (λ (x : ℕ). x / 2) e ∙ sym (complement_variable m)) marked)
        | inr early ↦ Facts A (complement_of m) s (subst (λ (x : ℕ). get_or place x 0 < start) (ap (λ (x : ℕ). x / 2) e ∙ sym (complement_variable m)) early)
      ]

  pub IsMarked-start : (n skip top : ℕ) (old new : List Bool) (low : List ℕ) → n < length F → AreFalse (clause_at F n) truth → IsSet truth skip → ((v : ℕ) → IsSet old v → ⊥) → length truth ≤ 2 * length old
      → ((m : ℕ) → Contains (clause_at F n) m → get_or place (m / 2) 0 ≤ top)
      → MarkedAll (clause_at F n) (length (clause_at F n)) place start floor skip old new [] low → IsMarked F truth place floor (top + 1) new low
  IsMarked-start n skip top old new low lt is_false skip_set unmarked size until mk =
      let c : List ℕ = clause_at F n in
      let off : (m : ℕ) → Contains c m → m ≢ skip = λ m w e. apart steps truth place site.trail skip skip_set (subst (λ (x : ℕ). IsSet truth (complement_of x)) e (is_false m w)) in
      record {
        refutes = λ A all. record { at = n; within = lt; all_false = λ m w. marks_derive n skip old new [] low mk (λ k v ne. is_false k v) A all m w (off m w) };
        below = λ q s h. elim (mk.only (q / 2) h) [
          | inl a ↦ absurd (unmarked (q / 2) a)
          | inr b ↦ let u : get_or place (get_or c b.0 0 / 2) 0 ≤ top = until (get_or c b.0 0) (at_index c b.0 b.1) in
              let v : get_or place (q / 2) 0 ≤ top = subst (λ (x : ℕ). get_or place x 0 ≤ top) b.3 u in omega arith
        ];
        low_has = λ q s h k. elim (mk.low_has (q / 2) h k) [
          | inl a ↦ absurd (unmarked (q / 2) a)
          | inr b ↦ listed q s (get_or c b.0 0) (is_false (get_or c b.0 0) (at_index c b.0 b.1)) b.3 low b.4
        ];
        low_false = λ l w. elim (mk.low_only l w) [ inl a ↦ absurd (omega arith) | inr b ↦ is_false l (subst (λ (x : ℕ). Contains c x) b.3 (at_index c b.0 b.1)) ];
        low_below = λ l w. elim (mk.low_only l w) [ inl a ↦ absurd (omega arith) | inr b ↦ b.4 ];
        room = let e = mk.size in omega arith;
        only = λ v h. elim (mk.only v h) [
          | inl a ↦ absurd (unmarked v a)
          | inr b ↦ (complement_of (get_or c b.0 0), complement_variable (get_or c b.0 0) ∙ b.3, is_false (get_or c b.0 0) (at_index c b.0 b.1))
        ];
      }
    where
      listed : (q : ℕ) → IsSet truth q → (m : ℕ) → IsSet truth (complement_of m) → m / 2 ≡ q / 2 → (low : List ℕ) → Contains low m → Contains low (complement_of q)
      listed q s m f e low w =
          let same : q ≡ complement_of m = one_of_two steps truth place site.trail q (complement_of m) s f (sym e ∙ sym (complement_variable m)) in
          subst (λ (x : ℕ). Contains low x) (sym (ap complement_of same ∙ complement_twice m)) w

  -- the place of a set literal holds it
  at_place : (q : ℕ) → IsSet truth q → (i : ℕ) → get_or place (q / 2) 0 ≡ i → lit_at steps i ≡ q
  at_place q s i e = ap (lit_at steps) (sym e) ∙ (site.trail.found q s).1

  -- the reason's other literals are false, and were so before
  others_false : (i n : ℕ) → IsImplied F steps i (Clause n) → i < length steps → AreFalseBut (clause_at F n) truth (lit_at steps i)
  others_false i n r lt m w ne = let b = r.2 m w ne in
      subst (λ (x : ℕ). IsSet truth x) b.2 (site.trail.on b.0 (omega arith)).1

  others_before : (i n : ℕ) → IsImplied F steps i (Clause n) → i < length steps → (m : ℕ) → Contains (clause_at F n) m → m ≢ lit_at steps i → get_or place (m / 2) 0 < i
  others_before i n r lt m w ne = let b = r.2 m w ne in
      let e : get_or place (lit_at steps b.0 / 2) 0 ≡ b.0 = (site.trail.on b.0 (omega arith)).2 in
      let f : get_or place (m / 2) 0 ≡ b.0 = subst (λ (x : ℕ). get_or place x 0 ≡ b.0) (ap (λ (x : ℕ). x / 2) b.2 ∙ complement_variable m) e in
      omega arith

  pub IsMarked-resolve : (at n : ℕ) (old new : List Bool) (low_old low_new : List ℕ) → at < length steps → floor < at → IsImplied F steps at (Clause n) → IsMarked F truth place floor (at + 1) old low_old
      → MarkedAll (clause_at F n) (length (clause_at F n)) place start floor (lit_at steps at) (set old (lit_at steps at / 2) false) new low_old low_new → IsMarked F truth place floor at new low_new
  IsMarked-resolve at n old new low_old low_new lt above r m mk =
      let p : ℕ = lit_at steps at in
      let c : List ℕ = clause_at F n in
      let p_set : IsSet truth p = (site.trail.on at lt).1 in
      let p_place : get_or place (p / 2) 0 ≡ at = (site.trail.on at lt).2 in
      let others : AreFalseBut c truth p = others_false at n r lt in
      record {
        refutes = λ A all.
            let derive : (k : ℕ) → Contains c k → k ≢ p → Derived F A (complement_of k) = marks_derive n p (set old (p / 2) false) new low_old low_new mk others A all in
            m.refutes A (λ q s h. elim (cases_eq q p) [
              | inl e ↦ subst (λ (x : ℕ). Derived F A x) (sym e) (unit p n r.0 r.1 derive)
              | inr ne ↦
                  let diff : q / 2 ≢ p / 2 = λ e. ne (one_of_two steps truth place site.trail q p s p_set e) in
                  all q s (mk.kept (q / 2) (get_or-set_other old (p / 2) (q / 2) false false diff ∙ h))
            ]);
        below = λ q s h. elim (mk.only (q / 2) h) [
          | inl a ↦
              let k : get_or place (q / 2) 0 < at + 1 = m.below q s (was_set old (p / 2) (q / 2) a) in
              elim (cases_eq (get_or place (q / 2) 0) at) [
                | inl e ↦ absurd (not_now old p q (subst (λ (x : ℕ). x < length old) refl (var_fits at lt old m.room)) (sym (at_place q s at e)) a)
                | inr ne ↦ omega arith
              ]
          | inr b ↦
              let k : get_or place (get_or c b.0 0 / 2) 0 < at = others_before at n r lt (get_or c b.0 0) (at_index c b.0 b.1) b.2 in
              subst (λ (x : ℕ). get_or place x 0 < at) b.3 k
        ];
        low_has = λ q s h k. elim (mk.low_has (q / 2) h k) [
          | inl a ↦ mk.low_kept (complement_of q) (m.low_has q s (was_set old (p / 2) (q / 2) a) k)
          | inr b ↦
              let f : IsSet truth (complement_of (get_or c b.0 0)) = others (get_or c b.0 0) (at_index c b.0 b.1) b.2 in
              let same : q ≡ complement_of (get_or c b.0 0) = one_of_two steps truth place site.trail q (complement_of (get_or c b.0 0)) s f (sym b.3 ∙ sym (complement_variable (get_or c b.0 0))) in
              subst (λ (x : ℕ). Contains low_new x) (sym (ap complement_of same ∙ complement_twice (get_or c b.0 0))) b.4
        ];
        low_false = λ l w. elim (mk.low_only l w) [
          | inl a ↦ m.low_false l a
          | inr b ↦ subst (λ (x : ℕ). IsSet truth (complement_of x)) b.3 (others (get_or c b.0 0) (at_index c b.0 b.1) b.2)
        ];
        low_below = λ l w. elim (mk.low_only l w) [ inl a ↦ m.low_below l a | inr b ↦ b.4 ];
        room = let e = mk.size in let f = length-set old (p / 2) false in let r = m.room in omega arith;
        only = λ v h. elim (mk.only v h) [
          | inl a ↦ m.only v (was_set old (p / 2) v a)
          | inr b ↦ (complement_of (get_or c b.0 0), complement_variable (get_or c b.0 0) ∙ b.3, others (get_or c b.0 0) (at_index c b.0 b.1) b.2)
        ];
      }
    where
      not_now : (old : List Bool) (p q : ℕ) → p / 2 < length old → q ≡ p → IsSet (set old (p / 2) false) (q / 2) → ⊥
      not_now old p q lt e h = false≢true (sym (get_or-set_same old (p / 2) false false lt) ∙ ap (λ (x : ℕ). get_or (set old (p / 2) false) (x / 2) false) (sym e) ∙ h)

      var_fits : (i : ℕ) → i < length steps → (old : List Bool) → length truth ≤ 2 * length old → lit_at steps i / 2 < length old
      var_fits i lt old room = let a = (site.trail.on i lt).0 in omega arith

  -- up to the next marked place
  pub IsMarked-lower : (at to : ℕ) (marks : List Bool) (low : List ℕ) → IsMarked F truth place floor at marks low → ((i : ℕ) → to < i → i < at → IsMarkedAt steps marks i → ⊥) → at ≤ length steps → IsMarked F truth place floor (to + 1) marks low
  IsMarked-lower at to marks low m none lt = record {
    refutes = m.refutes;
    below = λ q s h.
        let k : get_or place (q / 2) 0 < at = m.below q s h in
        elim (cases_lt to (get_or place (q / 2) 0)) [
          | inl above ↦ absurd (none (get_or place (q / 2) 0) above k (subst (λ (x : ℕ). IsSet marks (x / 2)) (sym (at_place q s (get_or place (q / 2) 0) refl)) h))
          | inr under ↦ omega arith
        ];
    low_has = m.low_has;
    low_false = m.low_false;
    low_below = m.low_below;
    room = m.room;
    only = m.only;
  }

  pub IsLearnt-from : (at : ℕ) (marks : List Bool) (low : List ℕ) → IsMarked F truth place floor (at + 1) marks low → IsNext steps marks floor at None → at < length steps → floor ≤ at → IsLearnt F truth place floor (low ++ complement_of (lit_at steps at) ∷ [])
  IsLearnt-from at marks low m none lt above =
      let p : ℕ = lit_at steps at in
      let c : List ℕ = low ++ complement_of p ∷ [] in
      let p_set : IsSet truth p = (site.trail.on at lt).1 in
      let p_place : get_or place (p / 2) 0 ≡ at = (site.trail.on at lt).2 in
      record {
        follows = inl (m.refutes (map complement_of c) (λ q s h. given q (Contains-map_complement c q (listed q s h))));
        low = low;
        uip = p;
        is = refl;
        uip_set = p_set;
        uip_above = omega arith;
        low_false = m.low_false;
        low_below = m.low_below;
      }
    where
      listed : (q : ℕ) → IsSet truth q → IsSet marks (q / 2) → Contains (low ++ complement_of (lit_at steps at) ∷ []) (complement_of q)
      listed q s h =
          let k : get_or place (q / 2) 0 < at + 1 = m.below q s h in
          elim (cases_eq (get_or place (q / 2) 0) at) [
            | inl e ↦ subst (λ (x : ℕ). Contains (low ++ complement_of (lit_at steps at) ∷ []) (complement_of x)) (at_place q s at e) (Contains-push low (complement_of (lit_at steps at)))
            | inr ne ↦ elim (cases_lt (get_or place (q / 2) 0) floor) [
              | inl under ↦ Contains-append_left low (complement_of (lit_at steps at) ∷ []) (complement_of q) (m.low_has q s h under)
              | inr over ↦ absurd (none (get_or place (q / 2) 0) over (omega arith) (subst (λ (x : ℕ). IsSet marks (x / 2)) (sym (at_place q s (get_or place (q / 2) 0) refl)) h))
            ]
          ]

  -- the witness stays marked
  pub IsMarkedAt-other : (i at : ℕ) (old : List Bool) → i < length steps → at < length steps → i ≢ at → IsMarkedAt steps old i → IsMarkedAt steps (set old (lit_at steps at / 2) false) i
  IsMarkedAt-other i at old lt lt2 ne h =
      let a = (site.trail.on i lt).2 in
      let b = (site.trail.on at lt2).2 in
      let diff : lit_at steps i / 2 ≢ lit_at steps at / 2 = λ e. ne (sym a ∙ ap (λ (x : ℕ). get_or place x 0) e ∙ b) in
      get_or-set_other old (lit_at steps at / 2) (lit_at steps i / 2) false false diff ∙ h

  -- the last literal of the conflict is marked
  pub top_marked : (n top : ℕ) (old new : List Bool) (low_old low_new : List ℕ) → Contains (clause_at F n) (complement_of (lit_at steps top)) → top < length steps → start ≤ top
      → MarkedAll (clause_at F n) (length (clause_at F n)) place start floor (lit_at steps top) old new low_old low_new → IsMarkedAt steps new top
  top_marked n top old new low_old low_new w lt le mk =
      let l : ℕ = lit_at steps top in
      let c : List ℕ = clause_at F n in
      let e : get_or c w.0 0 ≡ complement_of l = get_or_default c w.0 0 (complement_of l) w.1 ∙ w.2 in
      let half : get_or c w.0 0 / 2 ≡ l / 2 = ap (λ (x : ℕ). x / 2) e ∙ complement_variable l in
      elim (mk.all w.0 w.1 (λ f. let g : complement_of l ≡ l = sym e ∙ f in omega arith)) [
        | inl a ↦ subst (λ (x : ℕ). IsSet new x) half a
        | inr b ↦ let g : get_or place (l / 2) 0 < start = subst (λ (x : ℕ). get_or place x 0 < start) half b in
            let h = (site.trail.on top lt).2 in absurd (omega (arith, g, h))
      ]

  -- each marked variable has a literal in the clause
  pub marked_in : (at : ℕ) (marks : List Bool) (low : List ℕ) → IsMarked F truth place floor (at + 1) marks low → IsNext steps marks floor at None → at < length steps → (v : ℕ) → IsSet marks v → (l : ℕ) × (l / 2 ≡ v) × Contains (low ++ complement_of (lit_at steps at) ∷ []) l
  marked_in at marks low m none lt v h =
      let w = m.only v h in
      let q : ℕ = w.0 in
      let hq : IsSet marks (q / 2) = subst (λ (x : ℕ). IsSet marks x) (sym w.1) h in
      let k : get_or place (q / 2) 0 < at + 1 = m.below q w.2 hq in (
        complement_of q,
        complement_variable q ∙ w.1,
        elim (cases_eq (get_or place (q / 2) 0) at) [
          | inl e ↦ subst (λ (x : ℕ). Contains (low ++ complement_of (lit_at steps at) ∷ []) (complement_of x)) (at_place q w.2 at e) (Contains-push low (complement_of (lit_at steps at)))
          | inr ne ↦ elim (cases_lt (get_or place (q / 2) 0) floor) [
            | inl under ↦ Contains-append_left low (complement_of (lit_at steps at) ∷ []) (complement_of q) (m.low_has q w.2 hq under)
            | inr over ↦ absurd (none (get_or place (q / 2) 0) over (omega arith) (subst (λ (x : ℕ). IsSet marks (x / 2)) (sym (at_place q w.2 (get_or place (q / 2) 0) refl)) hq))
          ]
        ],
      )

  -- a literal that follows from what is marked beside it is unmarked
  pub IsMarked-drop : (top at : ℕ) (marks : List Bool) (low : List ℕ) → IsMarked F truth place floor top marks low → at < length steps → IsRedundant F steps place start marks at → IsMarked F truth place floor top (set marks (lit_at steps at / 2) false) low
  IsMarked-drop top at marks low m lt r =
      let p : ℕ = lit_at steps at in
      let n : ℕ = r.0 in
      let c : List ℕ = clause_at F n in
      let p_set : IsSet truth p = (site.trail.on at lt).1 in
      let p_place : get_or place (p / 2) 0 ≡ at = (site.trail.on at lt).2 in
      let still : (v : ℕ) → v ≢ p / 2 → IsSet marks v → IsSet (set marks (p / 2) false) v = λ v ne h. get_or-set_other marks (p / 2) v false false ne ∙ h in
      record {
        refutes = λ A all. m.refutes A (λ q s h. elim (cases_eq q p) [
          | inl e ↦ subst (λ (x : ℕ). Derived F A x) (sym e) (unit p n r.1.0 r.1.1 (λ k w ne.
              let here : get_or c w.0 0 ≡ k = get_or_default c w.0 0 k w.1 ∙ w.2 in
              let half : get_or c w.0 0 / 2 ≡ complement_of k / 2 = ap (λ (x : ℕ). x / 2) here ∙ sym (complement_variable k) in
              let k_set : IsSet truth (complement_of k) = others_false at n r.1 lt k w ne in
              let k_before : get_or place (k / 2) 0 < at = others_before at n r.1 lt k w ne in
              let off : k / 2 ≢ p / 2 = λ f. let z : get_or place (k / 2) 0 ≡ at = ap (λ (x : ℕ). get_or place x 0) f ∙ p_place in omega arith in
              elim (r.2 w.0 w.1 (λ f. ne (sym here ∙ f))) [
                | inl marked ↦ all (complement_of k) k_set (still (complement_of k / 2) (λ f. off (sym (complement_variable k) ∙ f)) (subst (λ (x : ℕ). IsSet marks x) half marked))
                | inr early ↦ Facts A (complement_of k) k_set (subst (λ (x : ℕ). get_or place x 0 < start) half early)
              ]))
          | inr ne ↦ all q s (still (q / 2) (λ e. ne (one_of_two steps truth place site.trail q p s p_set e)) h)
        ]);
        below = λ q s h. m.below q s (was_set marks (p / 2) (q / 2) h);
        low_has = λ q s h k. m.low_has q s (was_set marks (p / 2) (q / 2) h) k;
        low_false = m.low_false;
        low_below = m.low_below;
        room = let f = length-set marks (p / 2) false in let b = m.room in omega arith;
        only = λ v h. m.only v (was_set marks (p / 2) v h);
      }

-- a further literal is marked and listed
pub IsMarked-more : (F : List (List ℕ)) (steps : List SetLiteral) (truth : List Bool) (place : List ℕ) (floor top at : ℕ) (marks : List Bool) (low : List ℕ) → IsTrail steps truth place → IsMarked F truth place floor top marks low → at < length steps → at < floor → floor ≤ top
    → IsMarked F truth place floor top (set marks (lit_at steps at / 2) true) (low ++ complement_of (lit_at steps at) ∷ [])
IsMarked-more F steps truth place floor top at marks low t m lt under le =
    let p : ℕ = lit_at steps at in
    let p_set : IsSet truth p = (t.on at lt).1 in
    let p_place : get_or place (p / 2) 0 ≡ at = (t.on at lt).2 in
    let fits : p / 2 < length marks = let a = (t.on at lt).0 in let b = m.room in omega arith in
    let same : (q : ℕ) → IsSet truth q → p / 2 ≡ q / 2 → p ≡ q = λ q s e. one_of_two steps truth place t p q p_set s e in
    let here : (v : ℕ) → p / 2 ≡ v → get_or place v 0 < floor = λ v e. subst (λ (x : ℕ). get_or place x 0 < floor) e (omega arith) in
    record {
      refutes = λ A all. m.refutes A (λ q s h. all q s (set-kept marks (p / 2) (q / 2) fits h));
      below = λ q s h. elim (set-cases marks (p / 2) (q / 2) h) [ inl a ↦ m.below q s a | inr e ↦ let z = here (q / 2) e in omega arith ];
      low_has = λ q s h k. elim (set-cases marks (p / 2) (q / 2) h) [
        | inl a ↦ Contains-append_left low (complement_of p ∷ []) (complement_of q) (m.low_has q s a k)
        | inr e ↦ subst (λ (x : ℕ). Contains (low ++ complement_of p ∷ []) (complement_of x)) (same q s e) (Contains-push low (complement_of p))
      ];
      low_false = λ l w. elim (Contains-push_cases low (complement_of p) l w) [
        | inl a ↦ m.low_false l a
        | inr e ↦ subst (λ (x : ℕ). IsSet truth (complement_of x)) e (subst (λ (x : ℕ). IsSet truth x) (sym (complement_twice p)) p_set)
      ];
      low_below = λ l w. elim (Contains-push_cases low (complement_of p) l w) [
        | inl a ↦ m.low_below l a
        | inr e ↦ subst (λ (x : ℕ). get_or place (x / 2) 0 < floor) e (here (complement_of p / 2) (sym (complement_variable p)))
      ];
      room = let f = length-set marks (p / 2) true in let b = m.room in omega arith;
      only = λ v h. elim (set-cases marks (p / 2) v h) [ inl a ↦ m.only v a | inr e ↦ (p, e, p_set) ];
    }

-- only the marked ones are listed
pub IsMarked-listed : (F : List (List ℕ)) (truth : List Bool) (place : List ℕ) (floor top : ℕ) (marks : List Bool) (low kept : List ℕ) → IsMarked F truth place floor top marks low
    → ((l : ℕ) → Contains kept l → Contains low l) → ((l : ℕ) → Contains low l → IsSet marks (l / 2) → Contains kept l) → IsMarked F truth place floor top marks kept
IsMarked-listed F truth place floor top marks low kept m only all = record {
  refutes = m.refutes;
  below = m.below;
  low_has = λ q s h k. all (complement_of q) (m.low_has q s h k) (subst (λ (x : ℕ). IsSet marks x) (sym (complement_variable q)) h);
  low_false = λ l w. m.low_false l (only l w);
  low_below = λ l w. m.low_below l (only l w);
  room = m.room;
  only = m.only;
}
