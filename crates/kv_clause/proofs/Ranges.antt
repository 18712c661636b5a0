-- The literals of a query are over the variables of its blocks.
use Rattle.std.proofs.Common.{ℕ, zero, suc, ◌≡◌, ◌+◌, ◌-◌, ◌*◌, ◌<◌, ◌≤◌, ◌++◌, List, [], ◌∷◌, map, subst, arith, add-one}
use Rattle.std.specs.List.{All, filter}
use Rattle.std.proofs.lemmas.List.Elements.{All-nil, All-cons, All-append, All-push, All-map, All-filter, All-weaker}
use Rattle.sat_clause.specs.Literals.{variable_of, complement_of, AreBelow, ClausesAreBelow, units}
use Rattle.kv_clause.specs.Blocks.{stride, literal_in}
use Rattle.kv_clause.specs.Queries.{blocks_of, blocks_in, vars_of, arrivals, has_bound, lits_of, bounds_at, bounds_before, breaks_last, leaves_set, beginning_of, further_of, fixed, asked, query}
use Rattle.kv_clause.specs.declared.template.Template.{Template}
use Rattle.kv_clause.specs.declared.bound.Bound.{Bound}
use Rattle.kv_clause.specs.declared.bound.BoundLit.{BoundLit}
use Rattle.kv_clause.specs.declared.query.Query.{Query}
use Rattle.kv_clause.specs.declared.query.Query.TheVariants.{Base, Forward, Step, First, Induct, Closing}
use Rattle.sat_clause.proofs.Truths.{complement_variable}
use Rattle.kv_clause.proofs.Queries.{literal_below, literals_below, more_below, blocks_below}

pub below_more : (m n : ℕ) (ls : List ℕ) → m ≤ n → AreBelow m ls → AreBelow n ls
below_more m n ls h b = All-weaker (λ l. variable_of l < m) (λ l. variable_of l < n) (λ l v. omega arith) ls b

units_below : (n : ℕ) (ls : List ℕ) → AreBelow n ls → ClausesAreBelow n (units ls)
units_below n ls h = All-map (AreBelow n) (λ l. l ∷ []) ls (All-weaker (λ l. variable_of l < n) (λ l. AreBelow n (l ∷ [])) (λ l b. All-cons (λ m. variable_of m < n) l [] b (All-nil (λ m. variable_of m < n))) ls h)

one_below : (n : ℕ) (c : List ℕ) → AreBelow n c → ClausesAreBelow n (c ∷ [])
one_below n c h = All-cons (AreBelow n) c [] h (All-nil (AreBelow n))

complements_below : (n : ℕ) (ls : List ℕ) → AreBelow n ls → AreBelow n (map complement_of ls)
complements_below n ls h = All-map (λ l. variable_of l < n) complement_of ls
    (All-weaker (λ l. variable_of l < n) (λ l. variable_of (complement_of l) < n) (λ l b. omega (arith, complement_variable l)) ls h)

both_below : (n : ℕ) (F G : List (List ℕ)) → ClausesAreBelow n F → ClausesAreBelow n G → ClausesAreBelow n (F ++ G)
both_below n F G h k = All-append (AreBelow n) F G h k

lits_both : (n : ℕ) (ks ls : List ℕ) → AreBelow n ks → AreBelow n ls → AreBelow n (ks ++ ls)
lits_both n ks ls h k = All-append (λ l. variable_of l < n) ks ls h k

pub lits_below : (n : ℕ) (cs : List BoundLit) (bs : List Bound) → All (λ c. variable_of c.lit < n) cs → AreBelow n (lits_of cs bs)
lits_below n cs bs h = All-map (λ l. variable_of l < n) (λ (c : BoundLit). c.lit) (filter (λ c. has_bound bs c.bound) cs)
    (All-filter (λ c. has_bound bs c.bound) (λ (c : BoundLit). variable_of c.lit < n) cs h)

times_more : (k n s : ℕ) → k ≤ n → k * s ≤ n * s
times_more k n s h = grind arith

module _ (T : Template) where
  pub vars_more : (k n : ℕ) → k ≤ n → vars_of T k ≤ vars_of T n
  vars_more k n h = omega (arith, times_more k n (stride T) h)

  arrivals_below : (k : ℕ) → AreBelow (vars_of T k) (arrivals T k)
  arrivals_below zero = All-nil (λ l. variable_of l < vars_of T zero)
  arrivals_below (suc k) = subst (λ (n : ℕ). AreBelow (vars_of T n) (arrivals T k ++ literal_in T k T.next ∷ [])) (add-one k)
      (All-push (λ l. variable_of l < vars_of T (k + 1)) (arrivals T k) (literal_in T k T.next) (below_more (vars_of T k) (vars_of T (k + 1)) (arrivals T k) (vars_more k (k + 1) (omega arith)) (arrivals_below k)) (literal_below T k T.next T.next_below))

  bounds_at_below : (bs : List Bound) (i : ℕ) → AreBelow (vars_of T (i + 1)) (bounds_at T bs i)
  bounds_at_below bs i = literals_below T i (lits_of T.bounds bs) (lits_below T.vars T.bounds bs T.bounds_below)

  bounds_before_below : (bs : List Bound) (k : ℕ) → AreBelow (vars_of T k) (bounds_before T bs k)
  bounds_before_below bs zero = All-nil (λ l. variable_of l < vars_of T zero)
  bounds_before_below bs (suc k) = subst (λ (n : ℕ). AreBelow (vars_of T n) (bounds_before T bs k ++ bounds_at T bs k)) (add-one k)
      (lits_both (vars_of T (k + 1)) (bounds_before T bs k) (bounds_at T bs k) (below_more (vars_of T k) (vars_of T (k + 1)) (bounds_before T bs k) (vars_more k (k + 1) (omega arith)) (bounds_before_below bs k)) (bounds_at_below bs k))

  breaks_below : (k : ℕ) → 1 ≤ k → AreBelow (vars_of T k) (breaks_last T k)
  breaks_below k h = let back : k - 1 + 1 ≡ k = omega arith in subst (λ (n : ℕ). AreBelow (vars_of T n) (breaks_last T k)) back
      (All-push (λ l. variable_of l < vars_of T (k - 1 + 1)) (arrivals T (k - 1)) (literal_in T (k - 1) T.broken) (below_more (vars_of T (k - 1)) (vars_of T (k - 1 + 1)) (arrivals T (k - 1)) (vars_more (k - 1) (k - 1 + 1) (omega arith)) (arrivals_below (k - 1))) (literal_below T (k - 1) T.broken T.broken_below))

  leaves_below : (bs : List Bound) → ClausesAreBelow (vars_of T 2) (leaves_set T bs)
  leaves_below bs = both_below (vars_of T 2) (units (arrivals T 1)) (map complement_of (bounds_at T bs 1) ∷ [])
      (units_below (vars_of T 2) (arrivals T 1) (below_more (vars_of T 1) (vars_of T 2) (arrivals T 1) (vars_more 1 2 (omega arith)) (arrivals_below 1)))
      (one_below (vars_of T 2) (map complement_of (bounds_at T bs 1)) (complements_below (vars_of T 2) (bounds_at T bs 1) (bounds_at_below bs 1)))

  -- one block has the template's variables, and more blocks have more
  pub first_below : (k : ℕ) (F : List (List ℕ)) → 1 ≤ k → ClausesAreBelow T.vars F → ClausesAreBelow (vars_of T k) F
  first_below k F some h = let room = T.room in let more = vars_more 1 k some in more_below T T.vars (vars_of T k) F (omega arith) h

  beginning_below : (q : Query) → ClausesAreBelow T.vars (beginning_of T q)
  beginning_below (Base k) = T.start_below
  beginning_below (Forward k) = T.start_below
  beginning_below (Step k under) = T.head_below
  beginning_below (First round bs) = T.start_below
  beginning_below (Induct round bs) = T.head_below
  beginning_below (Closing k under) = T.head_below

  further_below : (q : Query) → ClausesAreBelow (vars_of T (blocks_in q)) (further_of T q)
  further_below (Base k) = All-nil (AreBelow (vars_of T k))
  further_below (Forward k) = All-nil (AreBelow (vars_of T k))
  further_below (Step k under) = All-nil (AreBelow (vars_of T k))
  further_below (First round bs) = leaves_below bs
  further_below (Induct round bs) = both_below (vars_of T 2) (units (bounds_at T bs 0)) (leaves_set T bs)
      (units_below (vars_of T 2) (bounds_at T bs 0) (below_more (vars_of T 1) (vars_of T 2) (bounds_at T bs 0) (vars_more 1 2 (omega arith)) (bounds_at_below bs 0)))
      (leaves_below bs)
  further_below (Closing k under) = All-nil (AreBelow (vars_of T k))

  pub fixed_below : (q : Query) → 1 ≤ blocks_in q → ClausesAreBelow (vars_of T (blocks_in q)) (fixed T q)
  fixed_below q some =
      let n : ℕ = vars_of T (blocks_in q) in
      both_below n (beginning_of T q ++ blocks_of T (blocks_in q)) (further_of T q)
      (both_below n (beginning_of T q) (blocks_of T (blocks_in q)) (first_below (blocks_in q) (beginning_of T q) some (beginning_below q)) (blocks_below T (blocks_in q)))
      (further_below q)

  under_below : (bs : List Bound) (k : ℕ) → 1 ≤ k → AreBelow (vars_of T k) (bounds_before T bs k ++ breaks_last T k)
  under_below bs k h = lits_both (vars_of T k) (bounds_before T bs k) (breaks_last T k) (bounds_before_below bs k) (breaks_below k h)

  pub asked_below : (q : Query) → 1 ≤ blocks_in q → AreBelow (vars_of T (blocks_in q)) (asked T q)
  asked_below (Base k) h = breaks_below k h
  asked_below (Forward k) h = arrivals_below k
  asked_below (Step k under) h = under_below under k h
  asked_below (First round bs) h = All-nil (λ l. variable_of l < vars_of T 2)
  asked_below (Induct round bs) h = All-nil (λ l. variable_of l < vars_of T 2)
  asked_below (Closing k under) h = under_below under k h

  pub query_below : (q : Query) → 1 ≤ blocks_in q → ClausesAreBelow (vars_of T (blocks_in q)) (query T q)
  query_below q h = both_below (vars_of T (blocks_in q)) (fixed T q) (units (asked T q)) (fixed_below q h) (units_below (vars_of T (blocks_in q)) (asked T q) (asked_below q h))
