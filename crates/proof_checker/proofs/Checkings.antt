-- What the answers of a check say of one another, and of the clauses.
use Rattle.std.proofs.Common.{ℕ, zero, suc, ◌≡◌, ◌+◌, ◌-◌, ◌<◌, ◌≤◌, ◌++◌, inl, inr, List, [], ◌∷◌, length, get_or, take, Bool, true, false, refl, sym, ap, subst, ◌∙◌, append_assoc, below_more, arith}
use Rattle.std.proofs.lemmas.Bool.{cases_lt, false≢true}
use Rattle.std.proofs.lemmas.List.{get_or-take, take_more, get_or_default, get_or_append_left, get_or-append_right, length-append, length-take-le}
use Rattle.sat_clause.specs.Literals.{MeetsAll, clause_holds}
use Rattle.sat_clause.specs.Propagation.{clause_at, Conflict, Follows}
use Rattle.sat_clause.proofs.Truths.{met_at, met-from_each}
use Rattle.sat_clause.proofs.Propagation.{Conflict-more, Follows-sound}
use Rattle.proof_checker.specs.Checking.{StepFollows, FollowsTo, NoneEmptyTo, IsRefutation, IsLearnt, IsFirstBad}

-- the clauses and the first m steps stand in the same places where more steps come after them
same_at : (F L : List (List ℕ)) (m n : ℕ) → m ≤ n → n ≤ length L → (i : ℕ) → i < length (F ++ take m L) → clause_at (F ++ take n L) i ≡ clause_at (F ++ take m L) i
same_at F L m n le within i lt = elim (cases_lt i (length F)) [
  | inl below ↦ get_or_append_left F (take n L) [] i below ∙ sym (get_or_append_left F (take m L) [] i below)
  | inr above ↦
      let k : i - length F < m = omega (arith, length-append F (take m L), length-take-le m L (omega arith)) in
      get_or-append_right F (take n L) (length F) i [] refl above ∙ get_or-take n L (i - length F) [] (omega arith)
      ∙ sym (get_or-append_right F (take m L) (length F) i [] refl above ∙ get_or-take m L (i - length F) [] k)
]

has_all : (F L : List (List ℕ)) (m n : ℕ) → m ≤ n → n ≤ length L → (i : ℕ) → i < length (F ++ take m L) → (j : ℕ) × (j < length (F ++ take n L)) × (clause_at (F ++ take n L) j ≡ clause_at (F ++ take m L) i)
has_all F L m n le within i lt =
    (i, omega (arith, lt, length-append F (take m L), length-append F (take n L), length-take-le m L (omega arith), length-take-le n L within), same_at F L m n le within i lt)

-- the empty clause follows only from clauses that are in conflict by themselves
empty_conflict : (F : List (List ℕ)) (c : List ℕ) → c ≡ [] → Follows F c → Conflict F []
empty_conflict F c e f = elim (subst (Follows F) e f) [
  | inl k ↦ k
  | inr h ↦ absurd (omega (arith, h.1.1))
]

-- after an empty step that follows, all follow
all_behind : (F L : List (List ℕ)) (m n : ℕ) → m ≤ n → n ≤ length L → clause_at L m ≡ [] → StepFollows F L m → StepFollows F L n
all_behind F L m n le within e f =
    inl (Conflict-more (F ++ take m L) (F ++ take n L) [] _ (has_all F L m n le within) (λ l h. absurd (omega (arith, h.1))) (empty_conflict (F ++ take m L) (clause_at L m) e f))

pub refutes_not_bad : (F L : List (List ℕ)) (n : ℕ) → IsRefutation F L → IsFirstBad F L n → ⊥
refutes_not_bad F L n r b = elim (cases_lt r.at n) [
  | inl below ↦ let w = b.within in b.fails (all_behind F L r.at n (omega arith) (omega arith) r.empty r.follows)
  | inr above ↦ elim (cases_lt n r.at) [
    | inl less ↦ b.fails (r.before n less)
    | inr more ↦ let e : r.at ≡ n = omega arith in b.fails (subst (StepFollows F L) e r.follows)
  ]
]

pub refutes_not_learns : (F L : List (List ℕ)) (n : ℕ) → IsRefutation F L → IsLearnt F L n → ⊥
refutes_not_learns F L n r w = let a = r.within in let e = w.whole in w.nonempty r.at (omega arith) r.empty

pub learns_not_bad : (F L : List (List ℕ)) (m n : ℕ) → IsLearnt F L m → IsFirstBad F L n → ⊥
learns_not_bad F L m n w b = let a = b.within in let e = w.whole in b.fails (w.follow n (omega arith))

-- where the clauses are true, so is each step that follows
steps_true : (A : ℕ → Bool) (F L : List (List ℕ)) (n : ℕ) → n ≤ length L → MeetsAll A F → FollowsTo F L n → MeetsAll A (F ++ take n L)
steps_true A F L zero within all follow = met-from_each A (F ++ take 0 L) (λ i lt.
    let b : i < length F = omega (arith, lt, length-append F (take 0 L), length-take-le 0 L (omega arith)) in
    subst (λ (c : List ℕ). clause_holds A c ≡ true) (sym (get_or_append_left F (take 0 L) [] i b)) (met_at A F all i b))
steps_true A F L (suc n) within all follow =
    let ih : MeetsAll A (F ++ take n L) = steps_true A F L n (omega arith) all (λ i lt. follow i (omega arith)) in
    let a : length (F ++ take n L) ≡ length F + n = omega (arith, length-append F (take n L), length-take-le n L (omega arith)) in
    let b : length (F ++ take (suc n) L) ≡ length F + suc n = omega (arith, length-append F (take (suc n) L), length-take-le (suc n) L within) in
    met-from_each A (F ++ take (suc n) L) (λ i lt. elim (cases_lt i (length F + n)) [
      | inl below ↦
          let h : i < length (F ++ take n L) = omega arith in
          subst (λ (c : List ℕ). clause_holds A c ≡ true) (sym (same_at F L n (suc n) (omega arith) within i h)) (met_at A (F ++ take n L) ih i h)
      | inr above ↦
          let k : i - length F ≡ n = omega arith in
          let e : clause_at (F ++ take (suc n) L) i ≡ clause_at L n =
          get_or-append_right F (take (suc n) L) (length F) i [] refl (omega arith) ∙ get_or-take (suc n) L (i - length F) [] (omega arith) ∙ ap (λ (x : ℕ). clause_at L x) k in
          subst (λ (c : List ℕ). clause_holds A c ≡ true) (sym e) (Follows-sound A (F ++ take n L) (clause_at L n) ih (follow n (omega arith)))
    ])

pub refuted_has_none : (F L : List (List ℕ)) → IsRefutation F L → (A : ℕ → Bool) → MeetsAll A F → ⊥
refuted_has_none F L r A all =
    let w = r.within in
    let met : MeetsAll A (F ++ take r.at L) = steps_true A F L r.at (omega arith) all r.before in
    let t : clause_holds A (clause_at L r.at) ≡ true = Follows-sound A (F ++ take r.at L) (clause_at L r.at) met r.follows in
    false≢true (subst (λ (c : List ℕ). clause_holds A c ≡ true) r.empty t)

-- one step of a check, where the clauses K are F and the steps before n
to_step : (F L K : List (List ℕ)) (c : List ℕ) (n : ℕ) → K ≡ F ++ take n L → clause_at L n ≡ c → Follows K c → StepFollows F L n
to_step F L K c n k e f = subst (λ (x : List (List ℕ)). Follows x (clause_at L n)) k (subst (λ (x : List ℕ). Follows K x) (sym e) f)

from_step : (F L K : List (List ℕ)) (c : List ℕ) (n : ℕ) → K ≡ F ++ take n L → clause_at L n ≡ c → StepFollows F L n → Follows K c
from_step F L K c n k e f = subst (λ (x : List ℕ). Follows K x) e (subst (λ (x : List (List ℕ)). Follows x (clause_at L n)) (sym k) f)

pub first_bad : (F L K : List (List ℕ)) (c : List ℕ) (n : ℕ) (b : Bool) → K ≡ F ++ take n L → n < length L → clause_at L n ≡ c → FollowsTo F L n → ((b ≡ true → Follows K c) × (Follows K c → b ≡ true)) → b ≡ false → IsFirstBad F L n
first_bad F L K c n b k lt e before exact off = record {
  within = lt;
  before = before;
  fails = λ f. false≢true (sym off ∙ exact.1 (from_step F L K c n k e f));
}

pub onward : (F L K : List (List ℕ)) (c : List ℕ) (n : ℕ) (b : Bool) → K ≡ F ++ take n L → clause_at L n ≡ c → FollowsTo F L n → ((b ≡ true → Follows K c) × (Follows K c → b ≡ true)) → b ≡ true → FollowsTo F L (n + 1)
onward F L K c n b k e before exact on = below_more (StepFollows F L) n before (to_step F L K c n k e (exact.0 on))

pub refutation : (F L K : List (List ℕ)) (c : List ℕ) (n : ℕ) (b : Bool) → K ≡ F ++ take n L → n < length L → clause_at L n ≡ c → FollowsTo F L n → NoneEmptyTo L n → ((b ≡ true → Follows K c) × (Follows K c → b ≡ true)) → b ≡ true → c ≡ [] → IsRefutation F L
refutation F L K c n b k lt e before first exact on none = record {
  at = n;
  within = lt;
  empty = e ∙ none;
  first = first;
  before = before;
  follows = to_step F L K c n k e (exact.0 on);
}

pub taken : (F L K : List (List ℕ)) (c : List ℕ) (n : ℕ) → K ≡ F ++ take n L → n < length L → c ≡ get_or L n c → K ++ c ∷ [] ≡ F ++ take (n + 1) L
taken F L K c n k lt is =
    ap (λ (x : List (List ℕ)). x ++ c ∷ []) k ∙ append_assoc F (take n L) (c ∷ [])
    ∙ ap (λ (x : List (List ℕ)). F ++ x) (sym (take_more L n c lt ∙ ap (λ (y : List ℕ). take n L ++ y ∷ []) (sym is)))

pub element_at : (L : List (List ℕ)) (c : List ℕ) (n : ℕ) → n < length L → c ≡ get_or L n c → clause_at L n ≡ c
element_at L c n lt is = get_or_default L n [] c lt ∙ sym is
