-- What a kept solver holds, as blocks are added and clauses learnt.
use Rattle.std.proofs.Common.{ℕ, ◌≡◌, ◌+◌, ◌-◌, ◌<◌, ◌≤◌, ◌++◌, inl, inr, List, [], length, take, drop, append_assoc, Bool, true, false, refl, sym, ap, subst, ◌∙◌, arith, add-one}
use Rattle.std.proofs.lemmas.Bool.{cases_lt}
use Rattle.std.proofs.lemmas.List.{append-nil, length-append, take-append-le, get_or_append_left, get_or-append_right}
use Rattle.std.proofs.Math.Seq.{take-append-add, take-append_seam}
use Rattle.sat_clause.specs.Literals.{ClausesAreBelow}
use Rattle.sat_clause.specs.Propagation.{clause_at, Follows, IsProper, Spent}
use Rattle.sat_clause.specs.Sets.{SameClauses}
use Rattle.sat_clause.proofs.Propagation.{Follows-more, HasAll-append}
use Rattle.sat_clause.proofs.Sets.{SameClauses-refl, SameClauses-append, SameClauses-swap, SameClauses-trans, IncludesNone-fewer, IsProper-wider, Spent-more}
use Rattle.kv_clause.specs.declared.template.Template.{Template}
use Rattle.kv_clause.specs.Blocks.{block_of}
use Rattle.kv_clause.specs.Queries.{blocks_of, vars_of}
use Rattle.kv_clause.proofs.Queries.{more_below, block_below}
use Rattle.kv_clause.proofs.Ranges.{vars_more, first_below}
use Rattle.sat_core.specs.Held.{Held}
use Rattle.sat_core.specs.Solving.{IsNew, IsLearnt}
use Rattle.sat_query.specs.KeepingBlocks.{first_of, held_of, HoldsBlocks, IsEmpty}
use Rattle.sat_query.proofs.Logs.{new_at, whole, log_length}

-- a solver that had nothing has the start or head clauses
module _ (T : Template) (from_start : Bool) where
  first_clauses_below : (b : Bool) → ClausesAreBelow T.vars (first_of T b)
  first_clauses_below true = T.start_below
  first_clauses_below false = T.head_below

  empty_log : (n : ℕ) (F L : List (List ℕ)) → L ≡ [] → Spent n F 0 L
  empty_log n F L none = record {
    enough = omega arith;
    proper = λ i lt. absurd (omega (arith, ap length none));
    follows = λ i lt. absurd (omega (arith, ap length none));
    fresh = λ i lt late. absurd (omega (arith, ap length none));
  }

  pub HoldsBlocks-first : (old new : Held) → IsEmpty old → new.clauses ≡ old.clauses ++ first_of T from_start → new.log ≡ old.log → ((n : ℕ) → old.vars ≤ n → ClausesAreBelow n (first_of T from_start) → new.vars ≤ n) → HoldsBlocks T from_start 0 new
  HoldsBlocks-first old new none e log least =
      let F : List (List ℕ) = first_of T from_start in
      let no_log : new.log ≡ [] = log ∙ none.log in
      let is : new.clauses ≡ F = e ∙ ap (λ (x : List (List ℕ)). x ++ F) none.clauses in
      record {
        clauses = subst (λ (x : List (List ℕ)). SameClauses x (F ++ [] ++ new.log)) (sym is) (subst (λ (x : List (List ℕ)). SameClauses F (F ++ [] ++ x)) (sym no_log) (same F));
        log = λ n some le. empty_log (vars_of T n) (held_of T from_start 0) new.log no_log;
        vars = λ n some le. least (vars_of T n) (let v = none.vars in omega arith) (first_below T n F some (first_clauses_below from_start));
      }
    where
      same : (F : List (List ℕ)) → SameClauses F (F ++ [] ++ [])
      same F = simp (append-nil, append-nil) (SameClauses-refl F)

  -- with block i it has the first i + 1 blocks
  pub HoldsBlocks-more : (i : ℕ) (old new : Held) → HoldsBlocks T from_start i old → new.clauses ≡ old.clauses ++ block_of T i → new.log ≡ old.log → ((n : ℕ) → old.vars ≤ n → ClausesAreBelow n (block_of T i) → new.vars ≤ n) → HoldsBlocks T from_start (i + 1) new
  HoldsBlocks-more i old new h e log least =
      let X : List (List ℕ) = held_of T from_start i in
      let Y : List (List ℕ) = block_of T i in
      let all : held_of T from_start (i + 1) ≡ X ++ Y = longer i in
      record {
        clauses = subst (λ (x : List (List ℕ)). SameClauses x (held_of T from_start (i + 1) ++ new.log)) (sym e)
            (subst (λ (x : List (List ℕ)). SameClauses (old.clauses ++ Y) (x ++ new.log)) (sym all)
            (subst (λ (x : List (List ℕ)). SameClauses (old.clauses ++ Y) (X ++ Y ++ x)) (sym log)
            (SameClauses-trans (old.clauses ++ Y) (X ++ old.log ++ Y) (X ++ Y ++ old.log) (SameClauses-append old.clauses (X ++ old.log) Y h.clauses) (SameClauses-swap X old.log Y))));
        log = λ n some le.
            subst (λ (x : List (List ℕ)). Spent (vars_of T n) x 0 new.log) (sym all)
            (subst (λ (x : List (List ℕ)). Spent (vars_of T n) (X ++ Y) 0 x) (sym log)
            (Spent-more (vars_of T n) (vars_of T n) X (X ++ Y) old.log (omega arith) (HasAll-append X Y) (h.log n some (omega arith))));
        vars = λ n some le. least (vars_of T n) (h.vars n some (omega arith)) (more_below T (vars_of T (i + 1)) (vars_of T n) Y (vars_more T (i + 1) n le) (block_below T i));
      }
    where
      longer : (i : ℕ) → held_of T from_start (i + 1) ≡ held_of T from_start i ++ block_of T i
      longer i = ap (λ (k : ℕ). held_of T from_start k) (add-one i) ∙ sym (append_assoc (first_of T from_start) (blocks_of T i) (block_of T i))

-- What a question to a solver leaves, where its clauses K are those of F and its log `before`, in some order, and it
-- learnt of them: its log `after` has what was learnt at its end, each clause of it new among F and those before it.
module _ (F K G before after : List (List ℕ)) (same : SameClauses K (F ++ before)) (log : after ≡ before ++ drop (length K) G) where
  abbrev learnt_part : List (List ℕ)
  learnt_part = drop (length K) G

  all_is : F ++ after ≡ F ++ before ++ learnt_part
  all_is = ap (λ (x : List (List ℕ)). F ++ x) log ∙ sym (append_assoc F before learnt_part)

  module _ (m : ℕ) (l : IsLearnt m K G) where
    pub same_after : SameClauses G (F ++ after)
    same_after =
        let D : List (List ℕ) = learnt_part in
        subst (λ (x : List (List ℕ)). SameClauses G x) (sym all_is)
        (subst (λ (x : List (List ℕ)). SameClauses x (F ++ before ++ D)) (sym (whole m K G D l refl)) (SameClauses-append K (F ++ before) D same))

    pub grown : length after ≡ length before + (length G - length K)
    grown = omega (arith, ap length log, length-append before learnt_part, log_length m K G learnt_part l refl)

    new_wider : (n : ℕ) (H I : List (List ℕ)) (c : List ℕ) → m ≤ n → SameClauses H I → IsNew m H c → IsNew n I c
    new_wider n H I c le s w = record {
      proper = IsProper-wider m n c le w.proper;
      follows = Follows-more H I c s.second w.follows;
      fresh = IncludesNone-fewer I H c s.first w.fresh;
    }

    pub learnt_after : (n : ℕ) → m ≤ n → IsLearnt n (F ++ before) (F ++ after)
    learnt_after n le =
        let D : List (List ℕ) = learnt_part in
        let H : List (List ℕ) = F ++ before in
        subst (λ (x : List (List ℕ)). IsLearnt n H x) (sym all_is) (record {
          longer = omega (arith, length-append H D);
          front = take-append_seam H D;
          new = λ i lo hi.
              let j : ℕ = i - length H in
              let lt : j < length D = omega (arith, length-append H D) in
              let at : length H + j ≡ i = omega arith in
              let front : take i (H ++ D) ≡ H ++ take j D = ap (λ (k : ℕ). take k (H ++ D)) (sym at) ∙ take-append-add H D j in
              let here : clause_at (H ++ D) i ≡ clause_at D j = get_or-append_right H D (length H) i [] refl lo in
              let is_new : IsNew n (H ++ take j D) (clause_at D j) = new_wider n (K ++ take j D) (H ++ take j D) (clause_at D j) le (SameClauses-append K H (take j D) same) (new_at m K G D l refl j lt) in
              subst (λ (x : List (List ℕ)). IsNew n x (clause_at (H ++ D) i)) (sym front) (subst (λ (x : List ℕ). IsNew n (H ++ take j D) x) (sym here) is_new);
        })

-- a log to which new clauses were put at the end, no fewer than the budget
pub Spent-learnt : (n budget : ℕ) (F before after D : List (List ℕ)) → after ≡ before ++ D → Spent n F 0 before → IsLearnt n (F ++ before) (F ++ after) → length before + budget ≤ length after → Spent n F budget after
Spent-learnt n budget F before after D log s l enough = record {
  enough = omega arith;
  proper = λ i lt. elim (cases_lt i (length before)) [
    | inl old ↦ subst (IsProper n) (sym (at_old i old)) (s.proper i old)
    | inr new ↦ (new_one i new lt).proper
  ];
  follows = λ i lt. elim (cases_lt i (length before)) [
    | inl old ↦ subst (λ (x : List (List ℕ)). Follows (F ++ x) (clause_at after i)) (sym (take_old i old)) (subst (Follows (F ++ take i before)) (sym (at_old i old)) (s.follows i old))
    | inr new ↦ (new_one i new lt).follows
  ];
  fresh = λ i lt late. (new_one i (omega arith) lt).fresh;
}
  where
    at_old : (i : ℕ) → i < length before → clause_at after i ≡ clause_at before i
    at_old i h = ap (λ (x : List (List ℕ)). clause_at x i) log ∙ get_or_append_left before D [] i h

    take_old : (i : ℕ) → i < length before → take i after ≡ take i before
    take_old i h = ap (take i) log ∙ take-append-le i before D (omega arith)

    new_one : (i : ℕ) → length before ≤ i → i < length after → IsNew n (F ++ take i after) (clause_at after i)
    new_one i lo hi =
        let k : ℕ = length F + i in
        let front : take k (F ++ after) ≡ F ++ take i after = take-append-add F after i in
        let back : k - length F ≡ i = omega arith in
        let here : clause_at (F ++ after) k ≡ clause_at after i = get_or-append_right F after (length F) k [] refl (omega arith) ∙ ap (clause_at after) back in
        subst (λ (x : List (List ℕ)). IsNew n x (clause_at after i)) front
        (subst (λ (x : List ℕ). IsNew n (take k (F ++ after)) x) here
        (l.new k (omega (arith, length-append F before)) (omega (arith, length-append F after))))
