-- A query's list of clauses says the same as its blocks one after another.
use Rattle.std.proofs.Common.{ℕ, zero, suc, ◌≡◌, ◌+◌, ◌-◌, ◌*◌, ◌<◌, ◌++◌, List, [], ◌∷◌, map, Bool, true, ◌||◌, refl, sym, ap, subst, ◌∙◌, arith, add-one, inl, inr}
use Rattle.std.specs.List.{list_all}
use Rattle.std.proofs.lemmas.Bool.{cases_eq}
use Rattle.sat_clause.specs.Literals.{is_true, clause_holds, all_hold, complement_of, moved, MeetsAll, AreTrue, later, units}
use Rattle.kv_clause.specs.Blocks.{stride, literal_in, block_of}
use Rattle.kv_clause.specs.Queries.{blocks_of, arrivals, lits_of, bounds_at, bounds_before, breaks_last, leaves_set, query}
use Rattle.kv_clause.specs.Chains.{MeetsArrivals, MeetsBreak, MeetsBreakUnder, MeetsLeaving}
use Rattle.kv_clause.specs.declared.template.Template.{Template}
use Rattle.kv_clause.specs.declared.bound.Bound.{Bound}
use Rattle.kv_clause.specs.declared.query.Query.TheVariants.{Base, Forward, Step, First, Induct}
use Rattle.sat_clause.proofs.Truths.{met_at, met_left, met_right, met_both, units_hold, true_left, true_right, true_both, literal_moved, literals_moved}
use Rattle.kv_clause.proofs.Queries.{next_part, one_true, true_one, query_parts, query-from_parts, block_met, blocks_at, blocks-from_each, arrivals_at, arrivals-from_each, block_behind, literal_behind, blocks_behind, arrivals_behind}

module _ (T : Template) where
  -- the first block is over the assignment itself
  start_part : (A : ℕ → Bool) → later (0 * stride T) A ≡ A
  start_part A = λ j v. ap A (none v (stride T)) j
    where
      none : (v s : ℕ) → v + 0 * s ≡ v
      none v s = grind arith

  first_block : (A : ℕ → Bool) → all_hold A (block_of T 0) ≡ all_hold A T.clauses
  first_block A = block_met T A 0 ∙ ap (λ (B : ℕ → Bool). all_hold B T.clauses) (start_part A)

  first_literal : (A : ℕ → Bool) (l : ℕ) → is_true A (literal_in T 0 l) ≡ is_true A l
  first_literal A l = literal_moved A (0 * stride T) l ∙ ap (λ (B : ℕ → Bool). is_true B l) (start_part A)

  blocks_first : (A : ℕ → Bool) (k : ℕ) → MeetsAll A (blocks_of T (suc k)) → MeetsAll A T.clauses
  blocks_first A k m = sym (first_block A) ∙ blocks_at T A (suc k) m 0 (omega arith)

  blocks_rest : (A : ℕ → Bool) (k : ℕ) → MeetsAll A (blocks_of T (suc k)) → MeetsAll (later (stride T) A) (blocks_of T k)
  blocks_rest A k m = blocks_behind T A k (subst (λ (n : ℕ). MeetsAll A (blocks_of T n)) (sym (add-one k)) m)

  before : (i : ℕ) → 0 < i → i - 1 + 1 ≡ i
  before i h = omega arith

  blocks_joined : (A : ℕ → Bool) (k : ℕ) → MeetsAll A T.clauses → MeetsAll (later (stride T) A) (blocks_of T k) → MeetsAll A (blocks_of T (suc k))
  blocks_joined A k m rest = blocks-from_each T A (suc k) each
    where
      each : (i : ℕ) → i < suc k → MeetsAll A (block_of T i)
      each zero h = first_block A ∙ m
      each (suc i) h = subst (λ (j : ℕ). MeetsAll A (block_of T j)) (add-one i) (sym (block_behind T A i) ∙ blocks_at T (later (stride T) A) k rest i (omega arith))

  arrivals_first : (A : ℕ → Bool) (k : ℕ) → AreTrue A (arrivals T (suc k)) → is_true A T.next ≡ true
  arrivals_first A k m = sym (first_literal A T.next) ∙ arrivals_at T A (suc k) m 0 (omega arith)

  arrivals_rest : (A : ℕ → Bool) (k : ℕ) → AreTrue A (arrivals T (suc k)) → AreTrue (later (stride T) A) (arrivals T k)
  arrivals_rest A k m = arrivals_behind T A k (subst (λ (n : ℕ). AreTrue A (arrivals T n)) (sym (add-one k)) m)

  arrivals_joined : (A : ℕ → Bool) (k : ℕ) → is_true A T.next ≡ true → AreTrue (later (stride T) A) (arrivals T k) → AreTrue A (arrivals T (suc k))
  arrivals_joined A k m rest = arrivals-from_each T A (suc k) each
    where
      each : (i : ℕ) → i < suc k → is_true A (literal_in T i T.next) ≡ true
      each zero h = first_literal A T.next ∙ m
      each (suc i) h = subst (λ (j : ℕ). is_true A (literal_in T j T.next) ≡ true) (add-one i) (sym (literal_behind T A i T.next) ∙ arrivals_at T (later (stride T) A) k rest i (omega arith))

  -- k blocks arrive
  pub arrivals_so : (k : ℕ) (A : ℕ → Bool) → MeetsAll A (blocks_of T k) → AreTrue A (arrivals T k) → MeetsArrivals T k A
  arrivals_so zero A m n = tt
  arrivals_so (suc k) A m n = (blocks_first A k m, arrivals_first A k n, arrivals_so k (later (stride T) A) (blocks_rest A k m) (arrivals_rest A k n))

  pub arrivals-from_so : (k : ℕ) (A : ℕ → Bool) → MeetsArrivals T k A → MeetsAll A (blocks_of T k) × AreTrue A (arrivals T k)
  arrivals-from_so zero A m = (refl, refl)
  arrivals-from_so (suc k) A m =
      let rest = arrivals-from_so k (later (stride T) A) m.2 in
      (blocks_joined A k m.0 rest.0, arrivals_joined A k m.1 rest.1)

  -- k blocks arrive and the next breaks
  pub break_so : (k : ℕ) (A : ℕ → Bool) → MeetsAll A (blocks_of T (suc k)) → AreTrue A (arrivals T k) → is_true A (literal_in T k T.broken) ≡ true → MeetsBreak T k A
  break_so zero A m n b = (blocks_first A zero m, sym (first_literal A T.broken) ∙ b)
  break_so (suc k) A m n b = (
    blocks_first A (suc k) m,
    arrivals_first A k n,
    break_so k (later (stride T) A) (blocks_rest A (suc k) m) (arrivals_rest A k n) (literal_behind T A k T.broken ∙ subst (λ (j : ℕ). is_true A (literal_in T j T.broken) ≡ true) (sym (add-one k)) b),
  )

  pub break-from_so : (k : ℕ) (A : ℕ → Bool) → MeetsBreak T k A → MeetsAll A (blocks_of T (suc k)) × AreTrue A (arrivals T k) × (is_true A (literal_in T k T.broken) ≡ true)
  break-from_so zero A m = (blocks_joined A zero m.0 refl, refl, first_literal A T.broken ∙ m.1)
  break-from_so (suc k) A m =
      let rest = break-from_so k (later (stride T) A) m.2 in
      (blocks_joined A (suc k) m.0 rest.0, arrivals_joined A k m.1 rest.1, subst (λ (j : ℕ). is_true A (literal_in T j T.broken) ≡ true) (add-one k) (sym (literal_behind T A k T.broken) ∙ rest.2))

  -- the bounds at the beginning of a block
  bounds_are : (A : ℕ → Bool) (bs : List Bound) (i : ℕ) → list_all (is_true A) (bounds_at T bs i) ≡ list_all (is_true (later (i * stride T) A)) (lits_of T.bounds bs)
  bounds_are A bs i = literals_moved A (i * stride T) (lits_of T.bounds bs)

  bounds_first : (A : ℕ → Bool) (bs : List Bound) → list_all (is_true A) (bounds_at T bs 0) ≡ list_all (is_true A) (lits_of T.bounds bs)
  bounds_first A bs = bounds_are A bs 0 ∙ ap (λ (B : ℕ → Bool). list_all (is_true B) (lits_of T.bounds bs)) (start_part A)

  bounds_behind : (A : ℕ → Bool) (bs : List Bound) (i : ℕ) → list_all (is_true (later (stride T) A)) (bounds_at T bs i) ≡ list_all (is_true A) (bounds_at T bs (i + 1))
  bounds_behind A bs i = bounds_are (later (stride T) A) bs i ∙ (ap (λ (B : ℕ → Bool). list_all (is_true B) (lits_of T.bounds bs)) (sym (next_part T A i)) ∙ sym (bounds_are A bs (i + 1)))

  each_bounds : (A : ℕ → Bool) (bs : List Bound) (k : ℕ) → AreTrue A (bounds_before T bs k) → (i : ℕ) → i < k → AreTrue A (bounds_at T bs i)
  each_bounds A bs zero m i h = absurd (omega arith)
  each_bounds A bs (suc k) m i h = elim (cases_eq i k) [
    | inl e ↦ subst (λ (j : ℕ). AreTrue A (bounds_at T bs j)) (sym e) (true_right A (bounds_before T bs k) (bounds_at T bs k) m)
    | inr ne ↦ each_bounds A bs k (true_left A (bounds_before T bs k) (bounds_at T bs k) m) i (omega arith)
  ]

  bounds-from_each : (A : ℕ → Bool) (bs : List Bound) (k : ℕ) → ((i : ℕ) → i < k → AreTrue A (bounds_at T bs i)) → AreTrue A (bounds_before T bs k)
  bounds-from_each A bs zero each = refl
  bounds-from_each A bs (suc k) each = true_both A (bounds_before T bs k) (bounds_at T bs k) (bounds-from_each A bs k (λ i h. each i (omega arith))) (each k (omega arith))

  bounds_rest : (A : ℕ → Bool) (bs : List Bound) (k : ℕ) → AreTrue A (bounds_before T bs (suc k)) → AreTrue (later (stride T) A) (bounds_before T bs k)
  bounds_rest A bs k m = bounds-from_each (later (stride T) A) bs k (λ i h. bounds_behind A bs i ∙ each_bounds A bs (suc k) m (i + 1) (omega arith))

  bounds_joined : (A : ℕ → Bool) (bs : List Bound) (k : ℕ) → AreTrue A (lits_of T.bounds bs) → AreTrue (later (stride T) A) (bounds_before T bs k) → AreTrue A (bounds_before T bs (suc k))
  bounds_joined A bs k m rest = bounds-from_each A bs (suc k) each
    where
      each : (i : ℕ) → i < suc k → AreTrue A (bounds_at T bs i)
      each zero h = bounds_first A bs ∙ m
      each (suc i) h = subst (λ (j : ℕ). AreTrue A (bounds_at T bs j)) (add-one i) (sym (bounds_behind A bs i) ∙ each_bounds (later (stride T) A) bs k rest i (omega arith))

  -- k blocks arrive and the next breaks, under the bounds
  pub under_so : (bs : List Bound) (k : ℕ) (A : ℕ → Bool) → MeetsAll A (blocks_of T (suc k)) → AreTrue A (bounds_before T bs (suc k)) → AreTrue A (arrivals T k) → is_true A (literal_in T k T.broken) ≡ true → MeetsBreakUnder T bs k A
  under_so bs zero A m u n b = (blocks_first A zero m, sym (bounds_first A bs) ∙ each_bounds A bs 1 u 0 (omega arith), sym (first_literal A T.broken) ∙ b)
  under_so bs (suc k) A m u n b = (
    blocks_first A (suc k) m,
    sym (bounds_first A bs) ∙ each_bounds A bs (suc (suc k)) u 0 (omega arith),
    arrivals_first A k n,
    under_so bs k (later (stride T) A) (blocks_rest A (suc k) m) (bounds_rest A bs (suc k) u) (arrivals_rest A k n) (literal_behind T A k T.broken ∙ subst (λ (j : ℕ). is_true A (literal_in T j T.broken) ≡ true) (sym (add-one k)) b),
  )

  pub under-from_so : (bs : List Bound) (k : ℕ) (A : ℕ → Bool) → MeetsBreakUnder T bs k A → MeetsAll A (blocks_of T (suc k)) × AreTrue A (bounds_before T bs (suc k)) × AreTrue A (arrivals T k) × (is_true A (literal_in T k T.broken) ≡ true)
  under-from_so bs zero A m = (blocks_joined A zero m.0 refl, bounds_joined A bs zero m.1 refl, refl, first_literal A T.broken ∙ m.2)
  under-from_so bs (suc k) A m =
      let rest = under-from_so bs k (later (stride T) A) m.3 in
      (blocks_joined A (suc k) m.0 rest.0, bounds_joined A bs (suc k) m.1 rest.1, arrivals_joined A k m.2 rest.2, subst (λ (j : ℕ). is_true A (literal_in T j T.broken) ≡ true) (add-one k) (sym (literal_behind T A k T.broken) ∙ rest.3))

  back : (k : ℕ) → suc k - 1 ≡ k
  back k = omega arith

  broken_of : (A : ℕ → Bool) (k : ℕ) → AreTrue A (breaks_last T (suc k)) → AreTrue A (arrivals T k) × (is_true A (literal_in T k T.broken) ≡ true)
  broken_of A k m =
      let n : AreTrue A (arrivals T k ++ literal_in T k T.broken ∷ []) = subst (λ (j : ℕ). AreTrue A (arrivals T j ++ literal_in T j T.broken ∷ [])) (back k) m in
      (true_left A (arrivals T k) (literal_in T k T.broken ∷ []) n, one_true T A (literal_in T k T.broken) (true_right A (arrivals T k) (literal_in T k T.broken ∷ []) n))

  broken-from : (A : ℕ → Bool) (k : ℕ) → AreTrue A (arrivals T k) → is_true A (literal_in T k T.broken) ≡ true → AreTrue A (breaks_last T (suc k))
  broken-from A k m b = subst (λ (j : ℕ). AreTrue A (arrivals T j ++ literal_in T j T.broken ∷ [])) (sym (back k)) (true_both A (arrivals T k) (literal_in T k T.broken ∷ []) m (true_one T A (literal_in T k T.broken) b))

  -- each query over k + 1 blocks, or over one block more than it names
  pub base_so : (k : ℕ) (A : ℕ → Bool) → MeetsAll A (query T (Base (suc k))) → MeetsAll A T.start × MeetsBreak T k A
  base_so k A m =
      let parts = query_parts A T (Base (suc k)) m in
      let front = met_left A (T.start ++ blocks_of T (suc k)) [] parts.0 in
      let asked_ = broken_of A k parts.1 in
      (met_left A T.start (blocks_of T (suc k)) front, break_so k A (met_right A T.start (blocks_of T (suc k)) front) asked_.0 asked_.1)

  pub base-from_so : (k : ℕ) (A : ℕ → Bool) → MeetsAll A T.start → MeetsBreak T k A → MeetsAll A (query T (Base (suc k)))
  base-from_so k A s m =
      let w = break-from_so k A m in
      query-from_parts A T (Base (suc k)) (met_both A (T.start ++ blocks_of T (suc k)) [] (met_both A T.start (blocks_of T (suc k)) s w.0) refl) (broken-from A k w.1 w.2)

  pub forward_so : (k : ℕ) (A : ℕ → Bool) → MeetsAll A (query T (Forward k)) → MeetsAll A T.start × MeetsArrivals T k A
  forward_so k A m =
      let parts = query_parts A T (Forward k) m in
      let front = met_left A (T.start ++ blocks_of T k) [] parts.0 in
      (met_left A T.start (blocks_of T k) front, arrivals_so k A (met_right A T.start (blocks_of T k) front) parts.1)

  pub forward-from_so : (k : ℕ) (A : ℕ → Bool) → MeetsAll A T.start → MeetsArrivals T k A → MeetsAll A (query T (Forward k))
  forward-from_so k A s m =
      let w = arrivals-from_so k A m in
      query-from_parts A T (Forward k) (met_both A (T.start ++ blocks_of T k) [] (met_both A T.start (blocks_of T k) s w.0) refl) w.1

  pub step_so : (k : ℕ) (bs : List Bound) (A : ℕ → Bool) → MeetsAll A (query T (Step (suc k) bs)) → MeetsAll A T.head × MeetsBreakUnder T bs k A
  step_so k bs A m =
      let parts = query_parts A T (Step (suc k) bs) m in
      let front = met_left A (T.head ++ blocks_of T (suc k)) [] parts.0 in
      let asked_ = broken_of A k (true_right A (bounds_before T bs (suc k)) (breaks_last T (suc k)) parts.1) in
      (met_left A T.head (blocks_of T (suc k)) front, under_so bs k A (met_right A T.head (blocks_of T (suc k)) front) (true_left A (bounds_before T bs (suc k)) (breaks_last T (suc k)) parts.1) asked_.0 asked_.1)

  pub step-from_so : (k : ℕ) (bs : List Bound) (A : ℕ → Bool) → MeetsAll A T.head → MeetsBreakUnder T bs k A → MeetsAll A (query T (Step (suc k) bs))
  step-from_so k bs A s m =
      let w = under-from_so bs k A m in
      query-from_parts A T (Step (suc k) bs) (met_both A (T.head ++ blocks_of T (suc k)) [] (met_both A T.head (blocks_of T (suc k)) s w.0) refl)
      (true_both A (bounds_before T bs (suc k)) (breaks_last T (suc k)) w.1 (broken-from A k w.2 w.3))

  complement_moved : (n l : ℕ) → complement_of (moved n l) ≡ moved n (complement_of l)
  complement_moved n l = omega arith

  complements_moved : (n : ℕ) (A : ℕ → Bool) (ls : List ℕ) → clause_holds A (map complement_of (map (moved n) ls)) ≡ clause_holds (later n A) (map complement_of ls)
  complements_moved n A [] = refl
  complements_moved n A (l ∷ ls) =
      let here : is_true A (complement_of (moved n l)) ≡ is_true (later n A) (complement_of l) = ap (is_true A) (complement_moved n l) ∙ literal_moved A n (complement_of l) in
      ap (λ z. z || clause_holds A (map complement_of (map (moved n) ls))) here ∙ ap (λ z. is_true (later n A) (complement_of l) || z) (complements_moved n A ls)

  second_part : (A : ℕ → Bool) → later (1 * stride T) A ≡ later (stride T) A
  second_part A = λ j v. ap (λ (s : ℕ). A (v + s)) (one (stride T)) j
    where
      one : (s : ℕ) → 1 * s ≡ s
      one s = grind arith

  leaves_so : (bs : List Bound) (A : ℕ → Bool) → clause_holds A (map complement_of (bounds_at T bs 1)) ≡ clause_holds (later (stride T) A) (map complement_of (lits_of T.bounds bs))
  leaves_so bs A = complements_moved (1 * stride T) A (lits_of T.bounds bs) ∙ ap (λ (B : ℕ → Bool). clause_holds B (map complement_of (lits_of T.bounds bs))) (second_part A)

  one_clause : (A : ℕ → Bool) (c : List ℕ) → MeetsAll A (c ∷ []) → clause_holds A c ≡ true
  one_clause A c m = met_at A (c ∷ []) m 0 (omega arith)

  clause_one : (A : ℕ → Bool) (c : List ℕ) → clause_holds A c ≡ true → MeetsAll A (c ∷ [])
  clause_one A c m = simp m

  leaving_so : (bs : List Bound) (A : ℕ → Bool) → MeetsAll A (blocks_of T 2) → MeetsAll A (leaves_set T bs) → MeetsLeaving T bs A
  leaving_so bs A m n =
      let next_ : AreTrue A (arrivals T 1) = sym (units_hold A (arrivals T 1)) ∙ met_left A (units (arrivals T 1)) (map complement_of (bounds_at T bs 1) ∷ []) n in
      let off = one_clause A (map complement_of (bounds_at T bs 1)) (met_right A (units (arrivals T 1)) (map complement_of (bounds_at T bs 1) ∷ []) n) in
      (blocks_first A 1 m, arrivals_first A 0 next_, blocks_first (later (stride T) A) 0 (blocks_rest A 1 m), sym (leaves_so bs A) ∙ off)

  leaving-from_so : (bs : List Bound) (A : ℕ → Bool) → MeetsLeaving T bs A → MeetsAll A (blocks_of T 2) × MeetsAll A (leaves_set T bs)
  leaving-from_so bs A w = (
    blocks_joined A 1 w.0 (blocks_joined (later (stride T) A) 0 w.2 refl),
    met_both A (units (arrivals T 1)) (map complement_of (bounds_at T bs 1) ∷ []) (units_hold A (arrivals T 1) ∙ arrivals_joined A 0 w.1 refl)
        (clause_one A (map complement_of (bounds_at T bs 1)) (leaves_so bs A ∙ w.3)),
  )

  pub first_so : (round : ℕ) (bs : List Bound) (A : ℕ → Bool) → MeetsAll A (query T (First round bs)) → MeetsAll A T.start × MeetsLeaving T bs A
  first_so round bs A m =
      let parts = query_parts A T (First round bs) m in
      let front = met_left A (T.start ++ blocks_of T 2) (leaves_set T bs) parts.0 in
      (met_left A T.start (blocks_of T 2) front, leaving_so bs A (met_right A T.start (blocks_of T 2) front) (met_right A (T.start ++ blocks_of T 2) (leaves_set T bs) parts.0))

  pub first-from_so : (round : ℕ) (bs : List Bound) (A : ℕ → Bool) → MeetsAll A T.start → MeetsLeaving T bs A → MeetsAll A (query T (First round bs))
  first-from_so round bs A s m =
      let w = leaving-from_so bs A m in
      query-from_parts A T (First round bs) (met_both A (T.start ++ blocks_of T 2) (leaves_set T bs) (met_both A T.start (blocks_of T 2) s w.0) w.1) refl

  pub induct_so : (round : ℕ) (bs : List Bound) (A : ℕ → Bool) → MeetsAll A (query T (Induct round bs)) → MeetsAll A T.head × AreTrue A (lits_of T.bounds bs) × MeetsLeaving T bs A
  induct_so round bs A m =
      let parts = query_parts A T (Induct round bs) m in
      let front = met_left A (T.head ++ blocks_of T 2) (units (bounds_at T bs 0) ++ leaves_set T bs) parts.0 in
      let rest = met_right A (T.head ++ blocks_of T 2) (units (bounds_at T bs 0) ++ leaves_set T bs) parts.0 in (
        met_left A T.head (blocks_of T 2) front,
        sym (bounds_first A bs) ∙ (sym (units_hold A (bounds_at T bs 0)) ∙ met_left A (units (bounds_at T bs 0)) (leaves_set T bs) rest),
        leaving_so bs A (met_right A T.head (blocks_of T 2) front) (met_right A (units (bounds_at T bs 0)) (leaves_set T bs) rest),
      )

  pub induct-from_so : (round : ℕ) (bs : List Bound) (A : ℕ → Bool) → MeetsAll A T.head → AreTrue A (lits_of T.bounds bs) → MeetsLeaving T bs A → MeetsAll A (query T (Induct round bs))
  induct-from_so round bs A s u m =
      let w = leaving-from_so bs A m in
      query-from_parts A T (Induct round bs)
      (met_both A (T.head ++ blocks_of T 2) (units (bounds_at T bs 0) ++ leaves_set T bs) (met_both A T.head (blocks_of T 2) s w.0)
      (met_both A (units (bounds_at T bs 0)) (leaves_set T bs) (units_hold A (bounds_at T bs 0) ∙ (bounds_first A bs ∙ u)) w.1)) refl
