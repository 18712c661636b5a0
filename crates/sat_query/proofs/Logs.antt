-- What a solver learnt of clauses, as a log.
use Rattle.std.proofs.Common.{ℕ, ◌≡◌, ◌≢◌, ◌+◌, ◌<◌, ◌≤◌, ◌++◌, inl, inr, List, [], ◌∷◌, length, take, drop, Bool, refl, sym, ap, subst, ◌∙◌, arith}
use Rattle.std.proofs.lemmas.List.{length-append, length_push, take-append-drop, take-append-le, take_all, get_or_append_left, get_or_push}
use Rattle.std.proofs.lemmas.List.Elements.{All-take}
use Rattle.std.proofs.Math.Seq.{take-append-add, get_or-append_right}
use Rattle.sat_clause.specs.Literals.{AreBelow, ClausesAreBelow, MeetsAll}
use Rattle.sat_clause.specs.Propagation.{clause_at, Follows, Refuted, Spent}
use Rattle.sat_clause.proofs.Truths.{met_left}
use Rattle.sat_clause.proofs.Sets.{IsProper-wider}
use Rattle.proof_checker.specs.Checking.{IsRefutation, IsLearnt as IsLearntLog}
use Rattle.sat_core.specs.Solving.{IsNew, IsLearnt}

module _ (n : ℕ) (F G L : List (List ℕ)) (l : IsLearnt n F G) (log : L ≡ drop (length F) G) where
  pub whole : G ≡ F ++ L
  whole = sym (take-append-drop (length F) G) ∙ ap (λ (x : List (List ℕ)). x ++ drop (length F) G) l.front ∙ ap (λ (x : List (List ℕ)). F ++ x) (sym log)

  size : length G ≡ length F + length L
  size = ap length whole ∙ length-append F L

  -- clause j of the log is new
  pub new_at : (j : ℕ) → j < length L → IsNew n (F ++ take j L) (clause_at L j)
  new_at j h =
      let s = size in
      let k : ℕ = length F + j in
      let front : take k G ≡ F ++ take j L = ap (take k) whole ∙ take-append-add F L j in
      let here : clause_at G k ≡ clause_at L j = ap (λ (x : List (List ℕ)). clause_at x k) whole ∙ get_or-append_right F L k [] (omega arith) ∙ ap (clause_at L) (omega arith) in
      subst (λ (x : List ℕ). IsNew n (F ++ take j L) x) here
      (subst (λ (x : List (List ℕ)). IsNew n x (clause_at G k)) front (l.new k (omega arith) (omega arith)))

  nonempty_at : (j : ℕ) → j < length L → clause_at L j ≢ []
  nonempty_at j h = (new_at j h).proper.nonempty

  -- the log with the empty clause, where the clauses are refuted
  pub refutation : Refuted G [] → IsRefutation F (L ++ [] ∷ [])
  refutation r =
      let ended : List (List ℕ) = L ++ [] ∷ [] in
      let k : ℕ = length L in
      let last : clause_at ended k ≡ [] = get_or_push L [] [] k refl in
      let all : take k ended ≡ L = take-append-le k L ([] ∷ []) (omega arith) ∙ take_all k L (omega arith) in
      let here : (j : ℕ) → j < k → clause_at ended j ≡ clause_at L j = λ j h. get_or_append_left L ([] ∷ []) [] j h in
      record {
        at = k;
        within = omega (arith, length_push L []);
        empty = last;
        first = λ j h e. nonempty_at j h (sym (here j h) ∙ e);
        before = λ j h.
            let follows : Follows (F ++ take j L) (clause_at L j) = (new_at j h).follows in
            let front : take j ended ≡ take j L = take-append-le j L ([] ∷ []) (omega arith) in
            subst (λ (x : List (List ℕ)). Follows (F ++ x) (clause_at ended j)) (sym front) (subst (λ (x : List ℕ). Follows (F ++ take j L) x) (sym (here j h)) follows);
        follows =
            subst (λ (x : List (List ℕ)). Follows (F ++ x) (clause_at ended k)) (sym all)
            (subst (λ (x : List ℕ). Follows (F ++ L) x) (sym last) (subst (λ (x : List (List ℕ)). Follows x []) whole (from_refuted r)));
      }
    where
      from_refuted : Refuted G [] → Follows G []
      from_refuted (inl c) = inl c
      from_refuted (inr h) = absurd (omega (arith, h.1.1))

  -- the log as a check sees it
  pub learnt_log : (budget : ℕ) → length L ≡ budget → IsLearntLog F L budget
  learnt_log budget e = record {
    whole = sym e;
    follow = λ j h. (new_at j (omega arith)).follows;
    nonempty = λ j h. nonempty_at j (omega arith);
  }

  -- a budget that is spent
  pub spent : (m budget : ℕ) → n ≤ m → length L ≡ budget → Spent m F budget L
  spent m budget le e = record {
    enough = omega arith;
    proper = λ j h. IsProper-wider n m (clause_at L j) le (new_at j h).proper;
    follows = λ j h. (new_at j h).follows;
    fresh = λ j h late. (new_at j h).fresh;
  }

-- what is met with all that was learnt is met without it
pub met_front : (n : ℕ) (F G : List (List ℕ)) → IsLearnt n F G → (A : ℕ → Bool) → MeetsAll A G → MeetsAll A F
met_front n F G l A m = met_left A F (drop (length F) G) (subst (MeetsAll A) (whole n F G (drop (length F) G) l refl) m)

-- and the clauses are over as many variables
pub below_front : (n : ℕ) (F G : List (List ℕ)) → IsLearnt n F G → (m : ℕ) → ClausesAreBelow m G → ClausesAreBelow m F
below_front n F G l m b = subst (ClausesAreBelow m) l.front (All-take (AreBelow m) (length F) G b)

pub log_length : (n : ℕ) (F G L : List (List ℕ)) → IsLearnt n F G → L ≡ drop (length F) G → length G ≡ length F + length L
log_length n F G L l e = size n F G L l e
