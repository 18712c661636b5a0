-- Laws of unit propagation.
use Rattle.std.proofs.Common.{ℕ, ◌≡◌, ◌≢◌, ◌<◌, ◌++◌, inl, inr, List, [], map, length, get_or, Bool, true, false, not, refl, sym, ap, subst, ◌∙◌, arith}
use Rattle.std.specs.List.{Contains}
use Rattle.std.proofs.lemmas.Bool.{cases_eq, cases_Bool}
use Rattle.std.proofs.lemmas.List.{length-append, length-map, get_or_append_left, get_or_default, get_or-map}
use Rattle.sat_clause.specs.Literals.{complement_of, is_true, clause_holds, MeetsAll}
use Rattle.sat_clause.specs.Propagation.{clause_at, Derived, given, unit, Conflict, Refuted, Follows}
use Rattle.sat_clause.specs.Sets.{HasAll}
use Rattle.sat_clause.proofs.Truths.{complement_twice, both_true, is_true-complement, true_literal, holds-from_literal, met_at}

abbrev AllTrue : (ℕ → Bool) → List ℕ → Type 0
AllTrue A ls = (l : ℕ) → Contains ls l → is_true A l ≡ true

-- what propagation sets true is true wherever the clauses and the given literals are
pub Derived-sound : (A : ℕ → Bool) (F : List (List ℕ)) (ls : List ℕ) → MeetsAll A F → AllTrue A ls → (l : ℕ) → Derived F ls l → is_true A l ≡ true
Derived-sound A F ls all asm _ (given l h) = asm l h
Derived-sound A F ls all asm _ (unit l i lt has others) =
    let w = true_literal A (clause_at F i) (met_at A F all i lt) in
    elim (cases_eq w.0 l) [
      | inl e ↦ subst (λ (x : ℕ). is_true A x ≡ true) e w.2
      | inr ne ↦ absurd (both_true A w.0 w.2 (Derived-sound A F ls all asm (complement_of w.0) (others w.0 w.1 ne)))
    ]

pub Conflict-sound : (A : ℕ → Bool) (F : List (List ℕ)) (ls : List ℕ) → MeetsAll A F → AllTrue A ls → Conflict F ls → ⊥
Conflict-sound A F ls all asm c =
    let w = true_literal A (clause_at F c.at) (met_at A F all c.at c.within) in
    both_true A w.0 w.2 (Derived-sound A F ls all asm (complement_of w.0) (c.all_false w.0 w.1))

-- refuted literals are not all true where the clauses are
pub Refuted-sound : (A : ℕ → Bool) (F : List (List ℕ)) (ls : List ℕ) → MeetsAll A F → AllTrue A ls → Refuted F ls → ⊥
Refuted-sound A F ls all asm (inl c) = Conflict-sound A F ls all asm c
Refuted-sound A F ls all asm (inr h) = both_true A h.0 (asm h.0 h.1) (asm (complement_of h.0) h.2)

from_map : (f : ℕ → ℕ) (xs : List ℕ) (y : ℕ) → Contains (map f xs) y → (x : ℕ) × Contains xs x × (f x ≡ y)
from_map f xs y w =
    let lt : w.0 < length xs = omega (arith, length-map xs f) in
    let x : ℕ = get_or xs w.0 0 in
    (x, (w.0, lt, get_or_default xs w.0 x 0 lt), sym (get_or-map f xs w.0 0 y lt) ∙ w.2)

-- a clause that follows is true where the clauses are
pub Follows-sound : (A : ℕ → Bool) (F : List (List ℕ)) (c : List ℕ) → MeetsAll A F → Follows F c → clause_holds A c ≡ true
Follows-sound A F c all f = elim (cases_Bool (clause_holds A c)) [
  | inl on ↦ on
  | inr off ↦ absurd (refused off f)
]
  where
    not_both : (b : Bool) → b ≡ true → b ≡ false → ⊥
    not_both b p q = cc

    all_off : clause_holds A c ≡ false → (l : ℕ) → Contains c l → is_true A l ≡ false
    all_off off l h = elim (cases_Bool (is_true A l)) [
      | inl on ↦ absurd (not_both (clause_holds A c) (holds-from_literal A c l h on) off)
      | inr e ↦ e
    ]

    complements : clause_holds A c ≡ false → (l : ℕ) → (m : ℕ) × Contains c m × (complement_of m ≡ l) → is_true A l ≡ true
    complements off l w = subst (λ (x : ℕ). is_true A x ≡ true) w.2 (is_true-complement A w.0 ∙ ap not (all_off off w.0 w.1))

    refused : clause_holds A c ≡ false → Follows F c → ⊥
    refused off (inl d) = Conflict-sound A F (map complement_of c) all (λ l h. complements off l (from_map complement_of c l h)) d
    refused off (inr h) = not_both (is_true A (complement_of h.0)) (is_true-complement A h.0 ∙ ap not (all_off off h.0 h.1)) (all_off off (complement_of h.0) h.2)

-- more clauses, and more literals, keep what propagation sets true
pub Derived-more : (F G : List (List ℕ)) (ks ls : List ℕ) → HasAll G F → ((l : ℕ) → Contains ks l → Contains ls l) → (l : ℕ) → Derived F ks l → Derived G ls l
Derived-more F G ks ls sup sub _ (given l h) = given l (sub l h)
Derived-more F G ks ls sup sub _ (unit l i lt has others) =
    let w = sup i lt in
    unit l w.0 w.1 (subst (λ (c : List ℕ). Contains c l) (sym w.2) has)
    (λ m h ne. Derived-more F G ks ls sup sub (complement_of m) (others m (subst (λ (c : List ℕ). Contains c m) w.2 h) ne))

pub Conflict-more : (F G : List (List ℕ)) (ks ls : List ℕ) → HasAll G F → ((l : ℕ) → Contains ks l → Contains ls l) → Conflict F ks → Conflict G ls
Conflict-more F G ks ls sup sub c =
    let w = sup c.at c.within in
    record { at = w.0; within = w.1; all_false = λ m h. Derived-more F G ks ls sup sub (complement_of m) (c.all_false m (subst (λ (d : List ℕ). Contains d m) w.2 h)) }

pub Refuted-more : (F G : List (List ℕ)) (ks ls : List ℕ) → HasAll G F → ((l : ℕ) → Contains ks l → Contains ls l) → Refuted F ks → Refuted G ls
Refuted-more F G ks ls sup sub (inl c) = inl (Conflict-more F G ks ls sup sub c)
Refuted-more F G ks ls sup sub (inr h) = inr (h.0, sub h.0 h.1, sub (complement_of h.0) h.2)

pub Follows-more : (F G : List (List ℕ)) (c : List ℕ) → HasAll G F → Follows F c → Follows G c
Follows-more F G c sup (inl d) = inl (Conflict-more F G (map complement_of c) (map complement_of c) sup (λ l h. h) d)
Follows-more F G c sup (inr h) = inr h

pub HasAll-append : (F G : List (List ℕ)) → HasAll (F ++ G) F
HasAll-append F G i lt = (i, omega (arith, length-append F G), get_or_append_left F G [] i lt)

-- where a literal and its complement are both set true, propagation fails
pub Refuted-both : (F : List (List ℕ)) (ls : List ℕ) (l : ℕ) → Derived F ls l → Derived F ls (complement_of l) → Refuted F ls
Refuted-both F ls l p q = both l p (complement_of l) refl q
  where
    by_unit : (l : ℕ) (i : ℕ) → i < length F → ((m : ℕ) → Contains (clause_at F i) m → m ≢ l → Derived F ls (complement_of m)) → Derived F ls (complement_of l) → Refuted F ls
    by_unit l i lt others q = inl (record { at = i; within = lt; all_false = λ m h. elim (cases_eq m l) [ inl e ↦ subst (λ (x : ℕ). Derived F ls (complement_of x)) (sym e) q | inr ne ↦ others m h ne ] })

    second : (l : ℕ) → Contains ls l → (n : ℕ) → n ≡ complement_of l → Derived F ls n → Refuted F ls
    second l h _ e (given n g) = inr (l, h, subst (λ (x : ℕ). Contains ls x) e g)
    second l h _ e (unit n i lt has others) = by_unit n i lt others (subst (λ (x : ℕ). Derived F ls x) (sym (complement_twice l) ∙ ap complement_of (sym e)) (given l h))

    both : (l : ℕ) → Derived F ls l → (n : ℕ) → n ≡ complement_of l → Derived F ls n → Refuted F ls
    both _ (given l h) n e q = second l h n e q
    both _ (unit l i lt has others) n e q = by_unit l i lt others (subst (λ (x : ℕ). Derived F ls x) e q)

-- a set of literals that is closed under propagation holds all that propagation sets true
pub record IsClosed (F : List (List ℕ)) (V : ℕ → Type 0) : Type 0 where
  pub no_unit : (i : ℕ) → i < length F → (l : ℕ) → Contains (clause_at F i) l → ((m : ℕ) → Contains (clause_at F i) m → m ≢ l → V (complement_of m)) → V l
  pub no_false : (i : ℕ) → i < length F → ((m : ℕ) → Contains (clause_at F i) m → V (complement_of m)) → ⊥

pub Derived-closed : (F : List (List ℕ)) (ls : List ℕ) (V : ℕ → Type 0) → IsClosed F V → ((l : ℕ) → Contains ls l → V l) → (l : ℕ) → Derived F ls l → V l
Derived-closed F ls V closed asm _ (given l h) = asm l h
Derived-closed F ls V closed asm _ (unit l i lt has others) =
    closed.no_unit i lt l has (λ m h ne. Derived-closed F ls V closed asm (complement_of m) (others m h ne))

-- so, where it holds no two complements, propagation doesn't fail
pub Refuted-closed : (F : List (List ℕ)) (ls : List ℕ) (V : ℕ → Type 0) → IsClosed F V → ((l : ℕ) → V l → V (complement_of l) → ⊥) → ((l : ℕ) → Contains ls l → V l) → Refuted F ls → ⊥
Refuted-closed F ls V closed apart asm (inl c) = closed.no_false c.at c.within (λ m h. Derived-closed F ls V closed asm (complement_of m) (c.all_false m h))
Refuted-closed F ls V closed apart asm (inr h) = apart h.0 (asm h.0 h.1) (asm (complement_of h.0) h.2)
