-- Words in parts.
use Rattle.std.proofs.Common.{ℕ, zero, suc, ◌≡◌, ◌<◌, ◌≤◌, ◌+◌, ◌-◌, ◌*◌, ◌^◌, ◌==◌, Bool, true, false, not, ◌||◌, List, [], ◌∷◌, ◌++◌, length, take, drop, get_or, refl, sym, ap, ◌∙◌, arith, length-take, length-drop, drop-cons}
use Rattle.std.proofs.Math.ListN.{replicate}
use Rattle.std.proofs.Math.Seq.{take-length}
use Rattle.std.proofs.lemmas.Nat.{pow_pos}
use Rattle.std.proofs.lemmas.List.{take-append-drop, drop_all}
use Rattle.std.proofs.lemmas.Bool.{ne_eqb}
use Rattle.sat_clause.specs.Literals.{is_true}
use Rattle.word_sums.specs.Words.{bit, number}
use Rattle.word_sums.proofs.Numbers.{number-take, pow_next}

-- ---- words in two parts

module _ (A : ℕ → Bool) where
  pub number-append : (xs ys : List ℕ) → number A (xs ++ ys) ≡ number A xs + 2 ^ length xs * number A ys
  number-append [] ys = omega arith
  number-append (x ∷ xs) ys =
      let e : 2 ^ suc (length xs) ≡ 2 * 2 ^ length xs = ap (λ k. 2 ^ k) (by (length xs)) ∙ pow_next (length xs) in
      let f : 2 ^ suc (length xs) * number A ys ≡ 2 * 2 ^ length xs * number A ys = ap (λ z. z * number A ys) e in
      let h = number-append xs ys in
      omega arith
    where
      by : (n : ℕ) → suc n ≡ n + 1
      by n = omega arith

  -- a word by its lowest bits and the rest
  pub number-split : (k : ℕ) (w : List ℕ) → k ≤ length w → number A w ≡ number A (take k w) + 2 ^ k * number A (drop k w)
  number-split k w h =
      let l : length (take k w) ≡ k = omega (arith, length-take k w) in
      ap (number A) (sym (take-append-drop k w)) ∙ (number-append (take k w) (drop k w) ∙ ap (λ z. number A (take k w) + 2 ^ z * number A (drop k w)) l)

  pub number-copies : (n l : ℕ) → number A (replicate n l) + bit (is_true A l) ≡ 2 ^ n * bit (is_true A l)
  number-copies zero l = omega arith
  number-copies (suc n) l =
      let e : 2 ^ suc n ≡ 2 * 2 ^ n = ap (λ k. 2 ^ k) (by n) ∙ pow_next n in
      let f : 2 ^ suc n * bit (is_true A l) ≡ 2 * 2 ^ n * bit (is_true A l) = ap (λ z. z * bit (is_true A l)) e in
      let h = number-copies n l in
      omega arith
    where
      by : (n : ℕ) → suc n ≡ n + 1
      by n = omega arith

  -- the bits above a bound of the number are not set
  pub number-short : (k s : ℕ) (w : List ℕ) → k ≤ length w → number A w < s → s ≤ 2 ^ k → number A (take k w) ≡ number A w
  number-short k s w h b e = by (number A (take k w)) (2 ^ k) (number A (drop k w)) (number A w) s (number-split k w h) b e
    where
      by : (t p d n s : ℕ) → n ≡ t + p * d → n < s → s ≤ p → t ≡ n
      by t p zero n s e h k = omega arith
      by t p (suc d) n s e h k = absurd (omega arith)

pub nonzero : (n : ℕ) → (suc n == 0) ≡ false
nonzero n = ne_eqb (suc n) 0 (λ (e : suc n ≡ 0). omega arith)

-- the rest of a word from a place on, as it is read
pub rest_is : (k : ℕ) (w : List ℕ) → k ≤ length w → take (length w - k) (drop k w) ≡ drop k w
rest_is k w h = ap (λ n. take n (drop k w)) (sym (length-drop k w)) ∙ take-length (drop k w)

pub top_same : (a : List ℕ) (n x y : ℕ) → n < length a → get_or a n x ≡ get_or a n y
top_same [] n x y h = absurd (omega arith)
top_same (l ∷ ls) zero x y h = refl
top_same (l ∷ ls) (suc n) x y h = top_same ls n x y (omega arith)

-- ---- a word from its top

pub number-drop : (A : ℕ → Bool) (w : List ℕ) (i j k x : ℕ) → i < length w → j ≡ length w - 1 - i → k ≡ length w - i → x ≡ get_or w j x → number A (drop j w) ≡ bit (is_true A x) + 2 * number A (drop k w)
number-drop A w i j k x h ej ek is =
    let lt : j < length w = omega arith in
    let e : suc j ≡ k = omega arith in
    ap (number A) (drop-cons w j x lt) ∙ (ap (λ z. bit (is_true A z) + 2 * number A (drop (suc j) w)) (sym is) ∙ ap (λ z. bit (is_true A x) + 2 * number A (drop z w)) e)

some_above : (s x : Bool) (d n : ℕ) → n ≡ bit x + 2 * d → s ≡ not (d == 0) → (s || x) ≡ not (n == 0)
some_above s true d n e f = or_true s ∙ ap not (sym (by n d e))
  where
    or_true : (b : Bool) → (b || true) ≡ true
    or_true true = refl
    or_true false = refl

    by : (n d : ℕ) → n ≡ 1 + 2 * d → (n == 0) ≡ false
    by zero d e = absurd (omega arith)
    by (suc n) d e = nonzero n
some_above s false zero n e f = or_false s ∙ (f ∙ ap (λ z. not (z == 0)) (sym (by n e)))
  where
    or_false : (b : Bool) → (b || false) ≡ b
    or_false true = refl
    or_false false = refl

    by : (n : ℕ) → n ≡ 0 + 2 * zero → n ≡ 0
    by n e = omega arith
some_above s false (suc d) n e f = or_false s ∙ (f ∙ (ap not (nonzero d) ∙ sym (ap not (by n d e))))
  where
    or_false : (b : Bool) → (b || false) ≡ b
    or_false true = refl
    or_false false = refl

    by : (n d : ℕ) → n ≡ 0 + 2 * suc d → (n == 0) ≡ false
    by zero d e = absurd (omega arith)
    by (suc n) d e = nonzero n

pub number-drop_next : (A : ℕ → Bool) (w : List ℕ) (i x : ℕ) → i < length w → x ≡ get_or w (length w - 1 - i) x → number A (drop (length w - (i + 1)) w) ≡ bit (is_true A x) + 2 * number A (drop (length w - i) w)
number-drop_next A w i x h is =
    let e : length w - (i + 1) ≡ length w - 1 - i = omega arith in
    ap (λ k. number A (drop k w)) e ∙ number-drop A w i (length w - 1 - i) (length w - i) x h refl refl is

-- whether a literal is true: none so far, and all
pub any_none : (A : ℕ → Bool) (w : List ℕ) (s : Bool) → s ≡ false → s ≡ not (number A (drop (length w - 0) w) == 0)
any_none A w s e =
    let h : length w ≤ length w - 0 = omega arith in
    e ∙ sym (ap (λ l. not (number A l == 0)) (drop_all (length w - 0) w h))

pub any_whole : (A : ℕ → Bool) (w : List ℕ) (i : ℕ) (s : Bool) → length w ≤ i → s ≡ not (number A (drop (length w - i) w) == 0) → s ≡ not (number A w == 0)
any_whole A w i s h e =
    let z : length w - i ≡ 0 = omega arith in
    e ∙ ap (λ k. not (number A (drop k w) == 0)) z

-- whether a literal is true, one more from the top
pub any_above : (A : ℕ → Bool) (w : List ℕ) (i x s o : ℕ) → i < length w → x ≡ get_or w (length w - 1 - i) x → is_true A s ≡ not (number A (drop (length w - i) w) == 0) → is_true A o ≡ (is_true A s || is_true A x) → is_true A o ≡ not (number A (drop (length w - (i + 1)) w) == 0)
any_above A w i x s o h is before step = step ∙ some_above (is_true A s) (is_true A x) (number A (drop (length w - i) w)) (number A (drop (length w - (i + 1)) w)) (number-drop_next A w i x h is) before

-- whether a literal so far is true
set_more : (p n n2 : ℕ) (s x : Bool) → 0 < p → n2 ≡ n + p * bit x → s ≡ not (n == 0) → (s || x) ≡ not (n2 == 0)
set_more p n n2 s true h e f =
    let apart : n2 ≡ 0 → ⊥ = λ (z : n2 ≡ 0). omega arith in
    by s ∙ ap not (sym (ne_eqb n2 0 apart))
  where
    by : (b : Bool) → (b || true) ≡ true
    by true = refl
    by false = refl
set_more p n n2 s false h e f =
    let g : n2 ≡ n = omega arith in
    by s ∙ (f ∙ ap (λ z. not (z == 0)) (sym g))
  where
    by : (b : Bool) → (b || false) ≡ b
    by true = refl
    by false = refl

pub any_next : (A : ℕ → Bool) (i : ℕ) (a : List ℕ) (x s : ℕ) → i < length a → x ≡ get_or a i x → is_true A s ≡ not (number A (take i a) == 0) → (is_true A s || is_true A x) ≡ not (number A (take (i + 1) a) == 0)
any_next A i a x s h q before = set_more (2 ^ i) (number A (take i a)) (number A (take (i + 1) a)) (is_true A s) (is_true A x) (pow_pos i) (number-take A i a x h q) before
