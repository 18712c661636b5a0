-- Each step keeps the rule of the word.
use Rattle.std.proofs.Common.{◌≡◌, ◌≢◌, ◌⊎◌, ℕ, zero, suc, ◌+◌, ◌<◌, ◌≤◌, ◌^◌, eqb, eq-eqb, ne_eqb, Bool, true, false, cond, not, ◌||◌, true≢false, List, [], ◌∷◌, ◌++◌, length, set, get_or, inl, inr, refl, sym, ap, ◌∙◌, subst, ⊎_elim, arith, length-set, get_or-set_same}
use mathlib.Core.Option.{none, some, some-ne-none, some-injective}
use mathlib.Core.Logic.{dite}
use native.Mathlib.Decide.{ℕ_discrete}
use lib.ListN.{get_elem?}
use prog.Atomic.{either}
use Rattle.atomic_table.specs.Table.{State, Me, step, keeps, stepped, Allows, Splits, Joins, Final, Seen}
use Rattle.atomic_table.proofs.Lists.{at_set, set_here, set_else, at_longer}
use Rattle.cancel_word.specs.declared.view.View.{View}
use Rattle.cancel_word.specs.Word.{has, without, below, first_view, loaded, won, lost, kept_back, given, united, spent_view, AreSmall, Sees, IsKept, Holds, Loads, Stops}

or_elim : (a b : Bool) → (a || b) ≡ true → (a ≡ true) ⊎ (b ≡ true)
or_elim true b e = inl refl
or_elim false b e = inr e

or_left : (a b : Bool) → a ≡ true → (a || b) ≡ true
or_left true b e = refl
or_left false b e = absurd (true≢false (sym e))

or_right : (a b : Bool) → b ≡ true → (a || b) ≡ true
or_right true b e = refl
or_right false b e = e

or_false : (a b : Bool) → a ≡ false → b ≡ false → (a || b) ≡ false
or_false true b e f = e
or_false false b e f = f

off : {b : Bool} → b ≡ false → b ≡ true → ⊥
off e t = true≢false (sym t ∙ e)

same_number : (m n : ℕ) → eqb m n ≡ true → m ≡ n
same_number m n e = dite (ℕ_discrete m n) (λ is. is) (λ ne. absurd (off (ne_eqb m n ne) e))

pub has-append : (n : ℕ) (xs ys : List ℕ) → has n (xs ++ ys) ≡ true → (has n xs ≡ true) ⊎ (has n ys ≡ true)
has-append n [] ys e = inr e
has-append n (x ∷ xs) ys e = ⊎_elim (λ h. inl (or_left (eqb x n) (has n xs) h)) (λ t. ⊎_elim (λ h. inl (or_right (eqb x n) (has n xs) h)) (λ h. inr h) (has-append n xs ys t)) (or_elim (eqb x n) (has n (xs ++ ys)) e)

pub has-left : (n : ℕ) (xs ys : List ℕ) → has n xs ≡ true → has n (xs ++ ys) ≡ true
has-left n [] ys e = absurd (true≢false (sym e))
has-left n (x ∷ xs) ys e = ⊎_elim (λ h. or_left (eqb x n) (has n (xs ++ ys)) h) (λ t. or_right (eqb x n) (has n (xs ++ ys)) (has-left n xs ys t)) (or_elim (eqb x n) (has n xs) e)

pub has-right : (n : ℕ) (xs ys : List ℕ) → has n ys ≡ true → has n (xs ++ ys) ≡ true
has-right n [] ys e = e
has-right n (x ∷ xs) ys e = or_right (eqb x n) (has n (xs ++ ys)) (has-right n xs ys e)

-- what is left of a list had been in it, and is not the number taken
pub has-without : (k n : ℕ) (xs : List ℕ) → has k (without n xs) ≡ true → (has k xs ≡ true) × (k ≢ n)
has-without k n [] e = absurd (true≢false (sym e))
has-without k n (x ∷ xs) e = dite (ℕ_discrete x n)
    (λ is. let r = has-without k n xs (subst (λ (b : Bool). has k (cond b (without n xs) (x ∷ without n xs)) ≡ true) (eq-eqb x n is) e) in (or_right (eqb x k) (has k xs) r.0, r.1))
    (λ ne. ⊎_elim
    (λ h. (or_left (eqb x k) (has k xs) h, λ is. ne (same_number x k h ∙ is)))
    (λ t. let r = has-without k n xs t in (or_right (eqb x k) (has k xs) r.0, r.1))
    (or_elim (eqb x k) (has k (without n xs)) (subst (λ (b : Bool). has k (cond b (without n xs) (x ∷ without n xs)) ≡ true) (ne_eqb x n ne) e)))

pub without-keeps : (k n : ℕ) (xs : List ℕ) → has k xs ≡ true → k ≢ n → has k (without n xs) ≡ true
without-keeps k n [] e ne = e
without-keeps k n (x ∷ xs) e apart = dite (ℕ_discrete x n)
    (λ is. subst (λ (b : Bool). has k (cond b (without n xs) (x ∷ without n xs)) ≡ true) (sym (eq-eqb x n is)) (⊎_elim (λ h. absurd (apart (sym (same_number x k h) ∙ is))) (λ t. without-keeps k n xs t apart) (or_elim (eqb x k) (has k xs) e)))
    (λ ne. subst (λ (b : Bool). has k (cond b (without n xs) (x ∷ without n xs)) ≡ true) (sym (ne_eqb x n ne)) (⊎_elim (λ h. or_left (eqb x k) (has k (without n xs)) h) (λ t. or_right (eqb x k) (has k (without n xs)) (without-keeps k n xs t apart)) (or_elim (eqb x k) (has k xs) e)))

pub has_one : (k n : ℕ) → has k (n ∷ []) ≡ true → n ≡ k
has_one k n e = ⊎_elim (λ h. same_number n k h) (λ h. absurd (true≢false (sym h))) (or_elim (eqb n k) false e)

pub has_it : (n : ℕ) (xs : List ℕ) → has n (n ∷ xs) ≡ true
has_it n xs = or_left (eqb n n) (has n xs) (eq-eqb n n refl)

-- a list that has a number isn't empty
is_some : (n : ℕ) (xs : List ℕ) → has n xs ≡ true → xs ≡ [] → ⊥
is_some n xs h e = true≢false (sym h ∙ ap (has n) e)

-- the last of a list with one more is at its old length
at_push : {A : Type 0} (l : List A) (a b : A) (j : ℕ) → get_elem? (l ++ a ∷ []) j ≡ some b → (get_elem? l j ≡ some b) ⊎ ((j ≡ length l) × (a ≡ b))
at_push [] a b zero e = inr (refl, some-injective a b e)
at_push [] a b (suc j) e = absurd (some-ne-none b (sym e))
at_push (x ∷ xs) a b zero e = inl e
at_push (x ∷ xs) a b (suc j) e = ⊎_elim (λ t. inl t) (λ t. inr (ap suc t.0, t.1)) (at_push xs a b j e)

at_bound : {A : Type 0} (l : List A) (b : A) (j : ℕ) → get_elem? l j ≡ some b → j < length l
at_bound [] b j e = absurd (some-ne-none b (sym e))
at_bound (x ∷ xs) b zero e = omega arith
at_bound (x ∷ xs) b (suc j) e = let r = at_bound xs b j e in omega arith

-- a seat of the views after a change of one
abbrev Came : List View → ℕ → View → ℕ → View → Type 0
Came views id w j u = ((j ≡ id) × (w ≡ u)) ⊎ ((j ≢ id) × Sees views j u)

came : (views : List View) (id : ℕ) (w : View) (j : ℕ) (u : View) → Sees (set views id w) j u → Came views id w j u
came views id w j u e = at_set views id j w u e

-- where no number is added, whoever holds one held it
held : (views : List View) (id : ℕ) (v w : View) → Sees views id v → ((n : ℕ) → has n w.numbers ≡ true → has n v.numbers ≡ true)
    → (n j : ℕ) (u : View) → Sees (set views id w) j u → has n u.numbers ≡ true → (t : View) × Sees views j t × (has n t.numbers ≡ true)
held views id v w at fewer n j u e h = ⊎_elim
    (λ c. (v, subst (λ (i : ℕ). Sees views i v) (sym c.0) at, fewer n (subst (λ (x : View). has n x.numbers ≡ true) (sym c.1) h)))
    (λ c. (u, c.1, h))
    (came views id w j u e)

apart_set : {most : ℕ} (word : ℕ) (views : List View) (id : ℕ) (v w : View) → IsKept most word views → Sees views id v → ((n : ℕ) → has n w.numbers ≡ true → has n v.numbers ≡ true)
    → (n one two : ℕ) (x y : View) → Sees (set views id w) one x → Sees (set views id w) two y → has n x.numbers ≡ true → has n y.numbers ≡ true → one ≡ two
apart_set word views id v w k at fewer n one two x y ex ey hx hy =
    let a = held views id v w at fewer n one x ex hx in
    let b = held views id v w at fewer n two y ey hy in
    k.apart n one two a.0 b.0 a.1 b.1 a.2 b.2

bounded_set : {most : ℕ} (word : ℕ) (views : List View) (id : ℕ) (v w : View) → IsKept most word views → Sees views id v → ((n : ℕ) → has n w.numbers ≡ true → has n v.numbers ≡ true)
    → (n j : ℕ) (u : View) → Sees (set views id w) j u → has n u.numbers ≡ true → n < most
bounded_set word views id v w k at fewer n j u e h = let r = held views id v w at fewer n j u e h in k.bounded n j r.0 r.1 r.2

known : (views : List View) (id : ℕ) (v : View) → Sees views id v → (w : View) → Sees (set views id w) id w
known views id v at w = set_here views id w (at_bound views v id at)

-- the word stays, and the seat keeps its numbers and whether it has decided
pub stays : {most : ℕ} (word : ℕ) (views : List View) (id own : ℕ) (v w : View) → IsKept most word views → Sees views id v → has own v.numbers ≡ true → w.numbers ≡ v.numbers → w.decided ≡ v.decided → (w.seen ≡ true → word ≢ 0) → IsKept most word (set views id w)
stays word views id own v w k at mine numbers decided sees = record {
  seen = λ j u e s. ⊎_elim (λ c. sees (ap (λ (x : View). x.seen) c.1 ∙ s)) (λ c. k.seen j u c.1 s) (came views id w j u e);
  named = λ n is. let t = k.named n is in dite (ℕ_discrete t.0 id)
      (λ here. let same : t.1 ≡ v = some-injective t.1 v (sym t.2 ∙ ap (get_elem? views) here ∙ at) in (
        id,
        w,
        known views id v at w,
        ap (has n) numbers ∙ ap (λ (x : View). has n x.numbers) (sym same) ∙ t.3,
        decided ∙ ap (λ (x : View). x.decided) (sym same) ∙ t.4,
      ))
      (λ away. (t.0, t.1, set_else views id t.0 w away ∙ t.2, t.3, t.4));
  undecided = λ none j u e. ⊎_elim (λ c. sym (ap (λ (x : View). x.decided) c.1) ∙ decided ∙ k.undecided none id v at) (λ c. k.undecided none j u c.1) (came views id w j u e);
  apart = apart_set word views id v w k at (λ n h. ap (has n) (sym numbers) ∙ h);
  bounded = bounded_set word views id v w k at (λ n h. ap (has n) (sym numbers) ∙ h);
  spent = λ j u e none. ⊎_elim (λ c. absurd (is_some own v.numbers mine (sym numbers ∙ ap (λ (x : View). x.numbers) c.1 ∙ none))) (λ c. k.spent j u c.1 none) (came views id w j u e);
}

pub wins : {most : ℕ} (views : List View) (id own : ℕ) (v : View) → IsKept most 0 views → Sees views id v → has own v.numbers ≡ true → IsKept most (own + 1) (set views id (won v))
wins views id own v k at mine = record {
  seen = λ j u e s. omega arith;
  named = λ n is. let same : own ≡ n = omega arith in (id, won v, known views id v at (won v), subst (λ (m : ℕ). has m v.numbers ≡ true) same mine, refl);
  undecided = λ none. absurd (omega arith);
  apart = apart_set 0 views id v (won v) k at (λ n h. h);
  bounded = bounded_set 0 views id v (won v) k at (λ n h. h);
  spent = λ j u e none. ⊎_elim (λ c. absurd (is_some own v.numbers mine (ap (λ (x : View). x.numbers) c.1 ∙ none))) (λ c. k.spent j u c.1 none) (came views id (won v) j u e);
}

-- a number goes to a new seat
pub splits : {most : ℕ} (word : ℕ) (views : List View) (id own n : ℕ) (v : View) → IsKept most word views → Sees views id v → has own v.numbers ≡ true → own ≢ n → has n v.numbers ≡ true → v.decided ≡ false → IsKept most word (set views id (kept_back n v) ++ given n v ∷ [])
splits {most} word views id own n v k at keeps_own other mine free = record {
  seen = λ j u e s. ⊎_elim
      (λ old. ⊎_elim (λ c. k.seen id v at (ap (λ (x : View). x.seen) c.1 ∙ s)) (λ c. k.seen j u c.1 s) (came views id left j u old))
      (λ new. k.seen id v at (ap (λ (x : View). x.seen) new.1 ∙ s))
      (at_push (set views id left) right u j e);
  named = λ m is. let t = k.named m is in dite (ℕ_discrete t.0 id)
      (λ here. let same : t.1 ≡ v = some-injective t.1 v (sym t.2 ∙ ap (get_elem? views) here ∙ at) in absurd (off free (ap (λ (x : View). x.decided) (sym same) ∙ t.4)))
      (λ away. (t.0, t.1, at_longer (set views id left) (right ∷ []) t.0 t.1 (set_else views id t.0 left away ∙ t.2), t.3, t.4));
  undecided = λ none j u e. ⊎_elim
      (λ old. ⊎_elim (λ c. sym (ap (λ (x : View). x.decided) c.1) ∙ free) (λ c. k.undecided none j u c.1) (came views id left j u old))
      (λ new. sym (ap (λ (x : View). x.decided) new.1))
      (at_push (set views id left) right u j e);
  apart = λ m one two x y ex ey hx hy. ⊎_elim
      (λ old. ⊎_elim
      (λ also. apart_set word views id v left k at fewer m one two x y old also hx hy)
      (λ new. absurd (alone m one x old hx (has_one m n (subst (λ (z : View). has m z.numbers ≡ true) (sym new.1) hy))))
      (at_push (set views id left) right y two ey))
      (λ new. ⊎_elim
      (λ also. absurd (alone m two y also hy (has_one m n (subst (λ (z : View). has m z.numbers ≡ true) (sym new.1) hx))))
      (λ second. new.0 ∙ sym second.0)
      (at_push (set views id left) right y two ey))
      (at_push (set views id left) right x one ex);
  bounded = λ m j u e h. ⊎_elim
      (λ old. bounded_set word views id v left k at fewer m j u old h)
      (λ new. subst (λ (z : ℕ). z < most) (has_one m n (ap (λ (x : View). has m x.numbers) new.1 ∙ h)) (k.bounded n id v at mine))
      (at_push (set views id left) right u j e);
  spent = λ j u e none. ⊎_elim
      (λ old. ⊎_elim
      (λ c. absurd (is_some own left.numbers (without-keeps own n v.numbers keeps_own other) (ap (λ (x : View). x.numbers) c.1 ∙ none)))
      (λ c. k.spent j u c.1 none)
      (came views id left j u old))
      (λ new. absurd (is_some n right.numbers (has_it n []) (ap (λ (x : View). x.numbers) new.1 ∙ none)))
      (at_push (set views id left) right u j e);
}
  where
    left : View
    left = kept_back n v

    right : View
    right = given n v

    fewer : (m : ℕ) → has m left.numbers ≡ true → has m v.numbers ≡ true
    fewer m h = (has-without m n v.numbers h).0

    -- no seat of before holds the number any more
    alone : (m j : ℕ) (u : View) → Sees (set views id left) j u → has m u.numbers ≡ true → n ≡ m → ⊥
    alone m j u e h is = ⊎_elim
        (λ c. (has-without m n v.numbers (subst (λ (z : View). has m z.numbers ≡ true) (sym c.1) h)).1 (sym is))
        (λ c. c.0 (k.apart m j id u v c.1 at h (subst (λ (z : ℕ). has z v.numbers ≡ true) is mine)))
        (came views id left j u e)

-- the other seat's numbers and what it knows go to the first
pub joins : {most : ℕ} (word : ℕ) (views : List View) (id own other : ℕ) (v w : View) → IsKept most word views → Sees views id v → has own v.numbers ≡ true → (other ≢ id) → Sees (set views id (united v w)) other w
    → IsKept most word (set (set views id (united v w)) other spent_view)
joins word views id own other v w k at mine apart there = record {
  seen = λ j u e s. ⊎_elim
      (λ c. absurd (true≢false (sym (ap (λ (x : View). x.seen) c.1 ∙ s))))
      (λ c. ⊎_elim
      (λ d. ⊎_elim (λ h. k.seen id v at h) (λ h. k.seen other w their h) (or_elim v.seen w.seen (ap (λ (x : View). x.seen) d.1 ∙ s)))
      (λ d. k.seen j u d.1 s)
      (came views id both j u c.1))
      (came (set views id both) other spent_view j u e);
  named = λ n is. let t = k.named n is in dite (ℕ_discrete t.0 id)
      (λ here. let same : t.1 ≡ v = some-injective t.1 v (sym t.2 ∙ ap (get_elem? views) here ∙ at) in
      first n (has-left n v.numbers w.numbers (ap (λ (x : View). has n x.numbers) (sym same) ∙ t.3)) (or_left v.decided w.decided (ap (λ (x : View). x.decided) (sym same) ∙ t.4)))
      (λ away. dite (ℕ_discrete t.0 other)
      (λ theirs. let same : t.1 ≡ w = some-injective t.1 w (sym t.2 ∙ ap (get_elem? views) theirs ∙ their) in
      first n (has-right n v.numbers w.numbers (ap (λ (x : View). has n x.numbers) (sym same) ∙ t.3)) (or_right v.decided w.decided (ap (λ (x : View). x.decided) (sym same) ∙ t.4)))
      (λ off_it. (t.0, t.1, set_else (set views id both) other t.0 spent_view off_it ∙ set_else views id t.0 both away ∙ t.2, t.3, t.4)));
  undecided = λ none j u e. ⊎_elim
      (λ c. sym (ap (λ (x : View). x.decided) c.1))
      (λ c. ⊎_elim
      (λ d. sym (ap (λ (x : View). x.decided) d.1) ∙ or_false v.decided w.decided (k.undecided none id v at) (k.undecided none other w their))
      (λ d. k.undecided none j u d.1)
      (came views id both j u c.1))
      (came (set views id both) other spent_view j u e);
  apart = λ n one two x y ex ey hx hy. let a = owner n one x ex hx in let b = owner n two y ey hy in ⊎_elim
      (λ i. ⊎_elim (λ j. i.0 ∙ sym j.0) (λ j. absurd (clash n i.1 two y j hy)) b)
      (λ i. ⊎_elim (λ j. absurd (clash n j.1 one x i hx)) (λ j. k.apart n one two x y i.2 j.2 hx hy) b)
      a;
  bounded = λ n j u e h. ⊎_elim
      (λ i. ⊎_elim (k.bounded n id v at) (k.bounded n other w their) (has-append n v.numbers w.numbers i.1))
      (λ i. k.bounded n j u i.2 h)
      (owner n j u e h);
  spent = λ j u e none. ⊎_elim
      (λ c. sym c.1)
      (λ c. ⊎_elim
      (λ d. absurd (is_some own both.numbers (has-left own v.numbers w.numbers mine) (ap (λ (x : View). x.numbers) d.1 ∙ none)))
      (λ d. k.spent j u d.1 none)
      (came views id both j u c.1))
      (came (set views id both) other spent_view j u e);
}
  where
    both : View
    both = united v w

    their : Sees views other w
    their = sym (set_else views id other both apart) ∙ there

    first : (n : ℕ) → has n both.numbers ≡ true → both.decided ≡ true → (seat : ℕ) × (u : View) × Sees (set (set views id both) other spent_view) seat u × (has n u.numbers ≡ true) × (u.decided ≡ true)
    first n h d = (id, both, set_else (set views id both) other id spent_view (λ e. apart (sym e)) ∙ known views id v at both, h, d)

    -- whoever holds a number is the first seat, or one that is neither of the two
    owner : (n j : ℕ) (u : View) → Sees (set (set views id both) other spent_view) j u → has n u.numbers ≡ true → ((j ≡ id) × (has n both.numbers ≡ true)) ⊎ ((j ≢ id) × (j ≢ other) × Sees views j u)
    owner n j u e h = ⊎_elim
        (λ c. absurd (true≢false (sym (ap (λ (x : View). has n x.numbers) c.1 ∙ h))))
        (λ c. ⊎_elim (λ d. inl (d.0, ap (λ (x : View). has n x.numbers) d.1 ∙ h)) (λ d. inr (d.0, c.0, d.1)) (came views id both j u c.1))
        (came (set views id both) other spent_view j u e)

    clash : (n : ℕ) → has n both.numbers ≡ true → (j : ℕ) (u : View) → (j ≢ id) × (j ≢ other) × Sees views j u → has n u.numbers ≡ true → ⊥
    clash n h j u t hu = ⊎_elim
        (λ mine. t.0 (k.apart n j id u v t.2 at hu mine))
        (λ theirs. t.1 (k.apart n j other u w t.2 their hu theirs))
        (has-append n v.numbers w.numbers h)

unseen : (b : Bool) → b ≢ true → b ≡ false
unseen true never = absurd (never refl)
unseen false never = refl

abbrev St : Type 0
St = State (Unit {0}) View

placed : {most : ℕ} (s : St) (h : Holds most s) (n id : ℕ) (c : List (ℕ × Unit {0})) (w : View) → IsKept most n (set s.views id w) → Holds most (stepped s 0 n id c w keeps)
placed {most} s h n id c w k = let wide = h.0 in (length-set s.words 0 n ∙ wide, subst (λ (z : ℕ). IsKept most z (set s.views id w)) (sym (get_or-set_same s.words 0 n 0 (omega arith))) k)

set_is : (found : ℕ) → not (eqb found 0) ≡ true → found ≢ 0
set_is found e is = off (ap not (eq-eqb found 0 is)) e

-- where the word is 0, the seat has neither seen it set nor decided
nothing_yet : {most : ℕ} (word : ℕ) (views : List View) (id : ℕ) (v : View) → IsKept most word views → Sees views id v → word ≡ 0 → (v.seen ≡ false) × (v.decided ≡ false)
nothing_yet word views id v k at zeroed = (unseen v.seen (λ saw. k.seen id v at saw zeroed), k.undecided zeroed id v at)

pub looks : (most slots id own : ℕ) (me : Me (Unit {0}) View) → has own me.0.numbers ≡ true → Allows (Holds most) slots id me 0 (λ n. n) (Loads (step slots 0 0 0 none) me)
looks most slots id own me mine s h _ at _ =
    let word : ℕ = get_or s.words 0 0 in
    let w : View = loaded (not (eqb word 0)) me.0 in (
      w,
      keeps,
      tt,
      placed s h word id me.1 w (stays word s.views id own me.0 w h.1 at mine refl refl (λ e. set_is word e)),
      (
        refl,
        refl,
        (λ saw. ne_eqb word 0 (h.1.seen id me.0 at saw)),
        (λ did. ne_eqb word 0 (λ none. off (nothing_yet word s.views id me.0 h.1 at none).1 did)),
      ),
    )

pub decides : (most slots id own : ℕ) (me : Me (Unit {0}) View) → has own me.0.numbers ≡ true → Allows (Holds most) slots id me 0 (λ n. either (eqb n 0) (own + 1) n) (Stops (step slots 0 0 (own + 1) none) me)
decides most slots id own me mine s h _ at _ =
    let word : ℕ = get_or s.words 0 0 in
    let saw_it : me.0.seen ≡ true → eqb word 0 ≡ false = λ saw. ne_eqb word 0 (h.1.seen id me.0 at saw) in
    let did_it : me.0.decided ≡ true → eqb word 0 ≡ false = λ did. ne_eqb word 0 (λ none. off (nothing_yet word s.views id me.0 h.1 at none).1 did) in
    dite (ℕ_discrete word 0)
    (λ none. (
      won me.0,
      keeps,
      tt,
      subst (λ (b : Bool). Holds most (stepped s 0 (either b (own + 1) word) id me.1 (won me.0) keeps)) (sym (eq-eqb word 0 none))
          (placed s h (own + 1) id me.1 (won me.0) (wins s.views id own me.0 (subst (λ (z : ℕ). IsKept most z s.views) none h.1) at mine)),
      (subst (λ (b : Bool). won me.0 ≡ cond b (won me.0) (lost me.0)) (sym (eq-eqb word 0 none)) refl, refl, saw_it, did_it),
    ))
    (λ some_set. (
      lost me.0,
      keeps,
      tt,
      subst (λ (b : Bool). Holds most (stepped s 0 (either b (own + 1) word) id me.1 (lost me.0) keeps)) (sym (ne_eqb word 0 some_set))
          (placed s h word id me.1 (lost me.0) (stays word s.views id own me.0 (lost me.0) h.1 at mine refl refl (λ _. some_set))),
      (subst (λ (b : Bool). lost me.0 ≡ cond b (won me.0) (lost me.0)) (sym (ne_eqb word 0 some_set)) refl, refl, saw_it, did_it),
    ))

pub cuts : (most id own n : ℕ) (v : View) → has own v.numbers ≡ true → own ≢ n → has n v.numbers ≡ true → v.decided ≡ false → Splits (Holds most) id v (kept_back n v) (given n v)
cuts most id own n v keeps_own other mine free s h at = (h.0, splits (get_or s.words 0 0) s.views id own n v h.1 at keeps_own other mine free)

pub unites : (most id own other : ℕ) (v w : View) → has own v.numbers ≡ true → Joins (Holds most) id v other w (united v w) spent_view
unites most id own other v w mine s h at apart there = (h.0, joins (get_or s.words 0 0) s.views id own other v w h.1 at mine apart there)

-- a number below m is less than m
pub has-below : (m n : ℕ) → has n (below m) ≡ true → n < m
has-below zero n e = absurd (true≢false (sym e))
has-below (suc m) n e = ⊎_elim
    (λ h. let is = same_number m n h in omega arith)
    (λ h. let r = has-below m n h in omega arith)
    (or_elim (eqb m n) (has n (below m)) e)

-- the first seat has a number, so its view isn't a spent one
pub begins : (numbers : ℕ) → 1 ≤ numbers → IsKept numbers 0 (first_view numbers ∷ [])
begins numbers some_of = record {
  seen = λ j u e s. absurd (true≢false (sym (ap (λ (x : View). x.seen) (only j u e).1 ∙ s)));
  named = λ n is. absurd (omega arith);
  undecided = λ _ j u e. sym (ap (λ (x : View). x.decided) (only j u e).1);
  apart = λ n one two x y ex ey hx hy. (only one x ex).0 ∙ sym (only two y ey).0;
  bounded = λ n j u e h. has-below numbers n (ap (λ (x : View). has n x.numbers) (only j u e).1 ∙ h);
  spent = λ j u e none. absurd (has_numbers numbers some_of (ap (λ (x : View). x.numbers) (only j u e).1 ∙ none));
}
  where
    only : (j : ℕ) (u : View) → Sees (first_view numbers ∷ []) j u → (j ≡ 0) × (first_view numbers ≡ u)
    only zero u e = (refl, some-injective _ _ e)
    only (suc j) u e = absurd (some-ne-none u (sym e))

    has_numbers : (n : ℕ) → 1 ≤ n → below n ≡ [] → ⊥
    has_numbers zero h e = omega arith
    has_numbers (suc n) h e = is_some n (below (suc n)) (has_it n (below n)) e

pub in_below : (m n : ℕ) → n < m → has n (below m) ≡ true
in_below zero n h = absurd (omega arith)
in_below (suc m) n h = dite (ℕ_discrete m n)
    (λ is. or_left (eqb m n) (has n (below m)) (eq-eqb m n is))
    (λ apart. or_right (eqb m n) (has n (below m)) (in_below m n (omega arith)))

pub small-append : (xs ys : List ℕ) → AreSmall xs → AreSmall ys → AreSmall (xs ++ ys)
small-append xs ys left right n h = ⊎_elim (left n) (right n) (has-append n xs ys h)

pub small-without : (k : ℕ) (xs : List ℕ) → AreSmall xs → AreSmall (without k xs)
small-without k xs small n h = small n (has-without n k xs h).0

pub small-one : (k : ℕ) (xs : List ℕ) → AreSmall xs → has k xs ≡ true → AreSmall (k ∷ [])
small-one k xs small h n e = subst (λ (m : ℕ). m < 2 ^ 32) (has_one n k e) (small k h)

first_word : (ws : List ℕ) (w : ℕ) → get_elem? ws 0 ≡ some w → get_or ws 0 0 ≡ w
first_word [] w e = absurd (some-ne-none w (sym e))
first_word (x ∷ xs) w e = some-injective x w e

pub ends_at_zero : (most : ℕ) (words : List ℕ) (slots : List (Unit {0})) (id : ℕ) (v : View) (word : ℕ) → get_elem? words 0 ≡ some word → Final (Seen (Holds most) id v) words slots → word ≡ 0 → (v.decided ≡ false) × (v.seen ≡ false)
ends_at_zero most words slots id v word at final zeroed =
    let s = final.0 in
    let k = final.1.0.1 in
    let is : get_or s.words 0 0 ≡ 0 = ap (λ (ws : List ℕ). get_or ws 0 0) final.2 ∙ first_word words word at ∙ zeroed in
    let n = nothing_yet (get_or s.words 0 0) s.views id v k final.1.1 is in (n.1, n.0)

pub ends_named : (most : ℕ) (words : List ℕ) (slots : List (Unit {0})) (id : ℕ) (v : View) (word : ℕ) → get_elem? words 0 ≡ some word → Final (Seen (Holds most) id v) words slots → (n : ℕ) → word ≡ n + 1 → has n v.numbers ≡ true → v.decided ≡ true
ends_named most words slots id v word at final n is mine =
    let s = final.0 in
    let k = final.1.0.1 in
    let t = k.named n (ap (λ (ws : List ℕ). get_or ws 0 0) final.2 ∙ first_word words word at ∙ is) in
    let here : t.0 ≡ id = k.apart n t.0 id t.1 v t.2 final.1.1 t.3 mine in
    let same : t.1 ≡ v = some-injective t.1 v (sym t.2 ∙ ap (get_elem? s.views) here ∙ final.1.1) in
    ap (λ (x : View). x.decided) (sym same) ∙ t.4

-- what is found at the end is 0, or 1 plus a number that some view holds
pub ends_bounded : (most : ℕ) (words : List ℕ) (slots : List (Unit {0})) (id : ℕ) (v : View) (word : ℕ) → get_elem? words 0 ≡ some word → Final (Seen (Holds most) id v) words slots → word ≤ most
ends_bounded most words slots id v zero at final = omega arith
ends_bounded most words slots id v (suc n) at final =
    let s = final.0 in
    let k = final.1.0.1 in
    let t = k.named n (ap (λ (ws : List ℕ). get_or ws 0 0) final.2 ∙ first_word words (suc n) at ∙ omega arith) in
    let r = k.bounded n t.0 t.1 t.2 t.3 in
    omega arith
