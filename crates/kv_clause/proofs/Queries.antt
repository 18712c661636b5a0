-- Laws of blocks and queries.
use Rattle.std.proofs.Common.{ℕ, zero, suc, ◌≡◌, ◌+◌, ◌-◌, ◌*◌, ◌/◌, ◌<◌, ◌≤◌, ◌++◌, List, [], ◌∷◌, map, Bool, true, false, ◌&&◌, refl, sym, ap, subst, ◌∙◌, arith, inl, inr, take, add-one}
use Rattle.std.proofs.lemmas.Bool.{cases_eq}
use Rattle.std.proofs.lemmas.List.Elements.{All-nil, All-append, All-map, All-weaker}
use Rattle.sat_clause.specs.Literals.{variable_of, is_true, all_hold, MeetsAll, AreTrue, AreBelow, ClausesAreBelow, later, truths, units}
use Rattle.kv_clause.specs.Blocks.{stride, literal_in, variable_in, block_of}
use Rattle.kv_clause.specs.Queries.{blocks_of, vars_of, arrivals, fixed, asked, query}
use Rattle.kv_clause.specs.declared.template.Template.{Template}
use Rattle.kv_clause.specs.declared.query.Query.{Query}
use Rattle.sat_clause.proofs.Truths.{met_left, met_right, met_both, true_left, true_right, true_both, units_hold, all_moved, literal_moved, all_local, truths_cut}

-- an assignment meets a query where it meets the fixed clauses and the asked literals are true
pub query_parts : (A : ℕ → Bool) (T : Template) (q : Query) → MeetsAll A (query T q) → MeetsAll A (fixed T q) × AreTrue A (asked T q)
query_parts A T q m = (met_left A (fixed T q) (units (asked T q)) m, sym (units_hold A (asked T q)) ∙ met_right A (fixed T q) (units (asked T q)) m)

pub query-from_parts : (A : ℕ → Bool) (T : Template) (q : Query) → MeetsAll A (fixed T q) → AreTrue A (asked T q) → MeetsAll A (query T q)
query-from_parts A T q m n = met_both A (fixed T q) (units (asked T q)) m (units_hold A (asked T q) ∙ n)

module _ (T : Template) where
  -- a block's clauses are met where the template's are by the block's own part of the assignment
  pub block_met : (A : ℕ → Bool) (i : ℕ) → all_hold A (block_of T i) ≡ all_hold (later (i * stride T) A) T.clauses
  block_met A i = all_moved A (i * stride T) T.clauses

  pub blocks_at : (A : ℕ → Bool) (k : ℕ) → MeetsAll A (blocks_of T k) → (i : ℕ) → i < k → MeetsAll A (block_of T i)
  blocks_at A zero m i h = absurd (omega arith)
  blocks_at A (suc k) m i h = elim (cases_eq i k) [
    | inl e ↦ subst (λ (j : ℕ). MeetsAll A (block_of T j)) (sym e) (met_right A (blocks_of T k) (block_of T k) m)
    | inr ne ↦ blocks_at A k (met_left A (blocks_of T k) (block_of T k) m) i (omega arith)
  ]

  pub blocks-from_each : (A : ℕ → Bool) (k : ℕ) → ((i : ℕ) → i < k → MeetsAll A (block_of T i)) → MeetsAll A (blocks_of T k)
  blocks-from_each A zero each = refl
  blocks-from_each A (suc k) each = met_both A (blocks_of T k) (block_of T k) (blocks-from_each A k (λ i h. each i (omega arith))) (each k (omega arith))

  -- fewer blocks are met where more are
  pub blocks_fewer : (A : ℕ → Bool) (k n : ℕ) → k ≤ n → MeetsAll A (blocks_of T n) → MeetsAll A (blocks_of T k)
  blocks_fewer A k n h m = blocks-from_each A k (λ i lt. blocks_at A n m i (omega arith))

  and_true : (b : Bool) → (b && true) ≡ b
  and_true true = refl
  and_true false = refl

  pub one_true : (A : ℕ → Bool) (l : ℕ) → AreTrue A (l ∷ []) → is_true A l ≡ true
  one_true A l m = sym (and_true (is_true A l)) ∙ m

  pub true_one : (A : ℕ → Bool) (l : ℕ) → is_true A l ≡ true → AreTrue A (l ∷ [])
  true_one A l m = and_true (is_true A l) ∙ m

  pub arrivals_at : (A : ℕ → Bool) (k : ℕ) → AreTrue A (arrivals T k) → (i : ℕ) → i < k → is_true A (literal_in T i T.next) ≡ true
  arrivals_at A zero m i h = absurd (omega arith)
  arrivals_at A (suc k) m i h = elim (cases_eq i k) [
    | inl e ↦ subst (λ (j : ℕ). is_true A (literal_in T j T.next) ≡ true) (sym e) (one_true A (literal_in T k T.next) (true_right A (arrivals T k) (literal_in T k T.next ∷ []) m))
    | inr ne ↦ arrivals_at A k (true_left A (arrivals T k) (literal_in T k T.next ∷ []) m) i (omega arith)
  ]

  pub arrivals-from_each : (A : ℕ → Bool) (k : ℕ) → ((i : ℕ) → i < k → is_true A (literal_in T i T.next) ≡ true) → AreTrue A (arrivals T k)
  arrivals-from_each A zero each = refl
  arrivals-from_each A (suc k) each = true_both A (arrivals T k) (literal_in T k T.next ∷ []) (arrivals-from_each A k (λ i h. each i (omega arith))) (true_one A (literal_in T k T.next) (each k (omega arith)))

  pub arrivals_fewer : (A : ℕ → Bool) (k n : ℕ) → k ≤ n → AreTrue A (arrivals T n) → AreTrue A (arrivals T k)
  arrivals_fewer A k n h m = arrivals-from_each A k (λ i lt. arrivals_at A n m i (omega arith))

  -- block i of what is left after the first block is block i + 1 of the whole
  pub next_part : (A : ℕ → Bool) (i : ℕ) → later ((i + 1) * stride T) A ≡ later (i * stride T) (later (stride T) A)
  next_part A i = λ j v. ap A (further v (stride T)) j
    where
      further : (v s : ℕ) → v + (i + 1) * s ≡ v + i * s + s
      further v s = grind arith

  pub block_behind : (A : ℕ → Bool) (i : ℕ) → all_hold (later (stride T) A) (block_of T i) ≡ all_hold A (block_of T (i + 1))
  block_behind A i = block_met (later (stride T) A) i ∙ (ap (λ (B : ℕ → Bool). all_hold B T.clauses) (sym (next_part A i)) ∙ sym (block_met A (i + 1)))

  pub literal_behind : (A : ℕ → Bool) (i l : ℕ) → is_true (later (stride T) A) (literal_in T i l) ≡ is_true A (literal_in T (i + 1) l)
  literal_behind A i l = literal_moved (later (stride T) A) (i * stride T) l ∙ (ap (λ (B : ℕ → Bool). is_true B l) (sym (next_part A i)) ∙ sym (literal_moved A ((i + 1) * stride T) l))

  -- the part of an assignment after the first block meets one block less
  pub blocks_behind : (A : ℕ → Bool) (k : ℕ) → MeetsAll A (blocks_of T (k + 1)) → MeetsAll (later (stride T) A) (blocks_of T k)
  blocks_behind A k m = blocks-from_each (later (stride T) A) k (λ i h. block_behind A i ∙ blocks_at A (k + 1) m (i + 1) (omega arith))

  pub arrivals_behind : (A : ℕ → Bool) (k : ℕ) → AreTrue A (arrivals T (k + 1)) → AreTrue (later (stride T) A) (arrivals T k)
  arrivals_behind A k m = arrivals-from_each (later (stride T) A) k (λ i h. literal_behind A i T.next ∙ arrivals_at A (k + 1) m (i + 1) (omega arith))

  -- the end of a block is the beginning of the next
  pub end_is_beginning : (i j : ℕ) → variable_in T i (T.vars - T.state + j) ≡ variable_in T (i + 1) j
  end_is_beginning i j = further (stride T) j
    where
      further : (s j : ℕ) → s + j + i * s ≡ j + (i + 1) * s
      further s j = grind arith

  further_below : (vars state i l : ℕ) → state ≤ vars → l / 2 < vars → (l + 2 * (i * (vars - state))) / 2 < state + (i + 1) * (vars - state)
  further_below vars state i l h k = grind arith

  -- what a literal of the template is in block i is over the variables of i + 1 blocks
  pub literal_below : (i l : ℕ) → variable_of l < T.vars → variable_of (literal_in T i l) < vars_of T (i + 1)
  literal_below i l h = let room = T.room in further_below T.vars T.state i l (omega arith) h

  pub literals_below : (i : ℕ) (ls : List ℕ) → AreBelow T.vars ls → AreBelow (vars_of T (i + 1)) (map (literal_in T i) ls)
  literals_below i ls h = All-map (λ l. variable_of l < vars_of T (i + 1)) (literal_in T i) ls
      (All-weaker (λ l. variable_of l < T.vars) (λ l. variable_of (literal_in T i l) < vars_of T (i + 1)) (λ l b. literal_below i l b) ls h)

  pub block_below : (i : ℕ) → ClausesAreBelow (vars_of T (i + 1)) (block_of T i)
  block_below i = All-map (AreBelow (vars_of T (i + 1))) (λ c. map (literal_in T i) c) T.clauses
      (All-weaker (AreBelow T.vars) (λ c. AreBelow (vars_of T (i + 1)) (map (literal_in T i) c)) (λ c h. literals_below i c h) T.clauses T.clauses_below)

  pub more_below : (m n : ℕ) (F : List (List ℕ)) → m ≤ n → ClausesAreBelow m F → ClausesAreBelow n F
  more_below m n F h below = All-weaker (AreBelow m) (AreBelow n) (λ c b. All-weaker (λ l. variable_of l < m) (λ l. variable_of l < n) (λ l v. omega arith) c b) F below

  further_vars : (state k s : ℕ) → state + k * s ≤ state + (k + 1) * s
  further_vars state k s = grind arith

  -- the clauses of k blocks are over the variables of k blocks
  pub blocks_below : (k : ℕ) → ClausesAreBelow (vars_of T k) (blocks_of T k)
  blocks_below zero = All-nil (AreBelow (vars_of T zero))
  blocks_below (suc k) = subst (λ (n : ℕ). ClausesAreBelow (vars_of T n) (blocks_of T k ++ block_of T k)) (add-one k)
      (All-append (AreBelow (vars_of T (k + 1))) (blocks_of T k) (block_of T k) (more_below (vars_of T k) (vars_of T (k + 1)) (blocks_of T k) (further_vars T.state k (stride T)) (blocks_below k)) (block_below k))

  -- an assignment of more blocks, cut to the variables of fewer, meets their clauses
  pub blocks_cut : (a : List Bool) (k n : ℕ) → k ≤ n → MeetsAll (truths a) (blocks_of T n) → MeetsAll (truths (take (vars_of T k) a)) (blocks_of T k)
  blocks_cut a k n h m = all_local (vars_of T k) (truths (take (vars_of T k) a)) (truths a) (truths_cut (vars_of T k) a) (blocks_of T k) (blocks_below k) ∙ blocks_fewer (truths a) k n h m
