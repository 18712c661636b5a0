-- Words moved up and down.
use Rattle.std.proofs.Common.{ℕ, zero, suc, ◌≡◌, ◌<◌, ◌≤◌, ◌+◌, ◌-◌, ◌*◌, ◌/◌, ◌%◌, ◌^◌, ◌==◌, nat_lt, Bool, true, false, not, ◌&&◌, ◌||◌, List, ◌++◌, length, take, drop, get_or, ℤ, pos, negsuc, ◌+ℤ◌, ◌-ℤ◌, ◌*ℤ◌, ◌≤ℤ◌, ◌<ℤ◌, IsTrue, ◌↔◌, if◌then◌else◌, refl, sym, ap, subst, ◌∙◌, arith, inl, inr, ◌⊎◌, true≢false, length-take, length-append, length-drop}
use Rattle.std.proofs.Math.ListN.{replicate}
use Rattle.std.proofs.Math.Nat.{div-one}
use Rattle.std.proofs.lemmas.Int.{ints}
use Rattle.std.proofs.lemmas.Nat.{pow_pos, pow-add, mul-mod_first, mod-mul-add, div-mul-add, div-add-mod', shr_le, pow_below}
use Rattle.std.proofs.lemmas.List.{length-replicate}
use Rattle.std.proofs.lemmas.Bool.{cases_lt, lt-ltb, le-ltb}
use Rattle.kv_num.specs.Shift.{left_of, right_of}
use Rattle.kv_num.proofs.Powers.{right_of-right_of}
use Rattle.kv_num.specs.Shape.{below_at, InShape, wrap_at}
use Rattle.kv_num.proofs.Shapes.{wrap_at-congruent, wrap_at-mul_left, wrap_at_unique, range-wrap_at}
use Rattle.sat_clause.specs.Literals.{is_true, complement_of}
use Rattle.sat_clause.proofs.Truths.{is_true-complement}
use Rattle.word_sums.specs.Words.{bit, number, word_value, continued_value}
use Rattle.word_sums.proofs.Numbers.{below_less, number-bound, pow_next, word_value-unsigned, word_value-signed, number_top, half, full, low_bound}
use Rattle.word_sums.proofs.Pieces.{number-append, number-split, number-copies, nonzero, top_same}

-- ---- up

module _ (x s q y : ℕ) (whole : x + s * q ≡ y) (small : x < s) where
  pub low_part : x ≡ y % s
  low_part = sym (mod-mul-add q s x small) ∙ ap (λ z. z % s) (omega arith)

  pub high_part : not (q == 0) ≡ not (nat_lt y s)
  high_part = by q whole
    where
      by : (q : ℕ) → x + s * q ≡ y → not (q == 0) ≡ not (nat_lt y s)
      by zero e = ap not (sym (lt-ltb y s (omega arith)))
      by (suc q) e = ap not (nonzero q ∙ sym (le-ltb y s (omega arith)))

raised_sum : (t h m p k n z : ℕ) → n ≡ t + k * h → z + 0 ≡ p * 0 → m ≡ z + p * t → m + (p * k) * h ≡ n * p
raised_sum t h m p k n z e f g =
    let u : n * p ≡ (t + k * h) * p = ap (λ x. x * p) e in
    omega arith

module _ (A : ℕ → Bool) (word moved : List ℕ) (places kept fill : ℕ) (room : places ≤ length word) (rest : kept ≡ length word - places) (made : moved ≡ replicate places fill ++ take kept word) (never : is_true A fill ≡ false) where
  kept_room : kept ≤ length word
  kept_room = omega arith

  raised_parts : number A moved + 2 ^ length word * number A (drop kept word) ≡ number A word * 2 ^ places
  raised_parts =
      let z = number A (replicate places fill) in
      let e : number A moved ≡ z + 2 ^ places * number A (take kept word) =
      ap (number A) made ∙ (number-append A (replicate places fill) (take kept word) ∙ ap (λ k. z + 2 ^ k * number A (take kept word)) (length-replicate places fill)) in
      let f : 2 ^ length word ≡ 2 ^ places * 2 ^ kept = ap (λ k. 2 ^ k) (omega arith) ∙ pow-add 2 places kept in
      let c : z + bit (is_true A fill) ≡ 2 ^ places * bit (is_true A fill) = number-copies A places fill in
      ap (λ k. number A moved + k * number A (drop kept word)) f
      ∙ raised_sum (number A (take kept word)) (number A (drop kept word)) (number A moved) (2 ^ places) (2 ^ kept) (number A word) z (number-split A kept word kept_room) (subst (λ b. z + bit b ≡ 2 ^ places * bit b) never c) e

  moved_length : length moved ≡ length word
  moved_length = ap length made ∙ omega (arith, length-append (replicate places fill) (take kept word), length-replicate places fill, length-take kept word)

  moved_bound : number A moved < 2 ^ length word
  moved_bound = subst (λ k. number A moved < 2 ^ k) moved_length (number-bound A moved)

  pub raised_value : number A moved ≡ number A word * 2 ^ places % 2 ^ length word
  raised_value = low_part (number A moved) (2 ^ length word) (number A (drop kept word)) (number A word * 2 ^ places) raised_parts moved_bound

  pub raised_past : not (number A (drop kept word) == 0) ≡ not (nat_lt (number A word * 2 ^ places) (2 ^ length word))
  raised_past = high_part (number A moved) (2 ^ length word) (number A (drop kept word)) (number A word * 2 ^ places) raised_parts moved_bound

-- one more bit of a distance
later_power : (t : Bool) (d e i p n : ℕ) → e ≡ d + 2 ^ i * bit t → p ≡ 2 ^ i → n * 2 ^ e ≡ (if t then n * 2 ^ d * 2 ^ p else n * 2 ^ d)
later_power true d e i p n f g = ap (λ k. n * 2 ^ k) (omega arith) ∙ (ap (λ k. n * k) (pow-add 2 d p) ∙ omega arith)
later_power false d e i p n f g = ap (λ k. n * 2 ^ k) (omega arith)

pub raised_more : (t : Bool) (d e i p n s word new : ℕ) → e ≡ d + 2 ^ i * bit t → p ≡ 2 ^ i → word ≡ n * 2 ^ d % s → new ≡ (if t then word * 2 ^ p % s else word) → new ≡ n * 2 ^ e % s
raised_more true d e i p n s word new f g before step = step ∙ (ap (λ z. z * 2 ^ p % s) before ∙ (mul-mod_first (n * 2 ^ d) (2 ^ p) s ∙ ap (λ z. z % s) (sym (later_power true d e i p n f g))))
raised_more false d e i p n s word new f g before step = step ∙ (before ∙ ap (λ z. z % s) (sym (later_power false d e i p n f g)))

pub lost_more : (t : Bool) (d e i p n s word : ℕ) (lost new : Bool) → 0 < s → e ≡ d + 2 ^ i * bit t → p ≡ 2 ^ i → word ≡ n * 2 ^ d % s → lost ≡ not (nat_lt (n * 2 ^ d) s) → new ≡ (lost || (t && not (nat_lt (word * 2 ^ p) s))) → new ≡ not (nat_lt (n * 2 ^ e) s)
lost_more true d e i p n s word lost new some f g before was step = by (cases_lt (n * 2 ^ d) s)
  where
    y : ℕ
    y = n * 2 ^ d

    small : y < s → word ≡ y
    small h = before ∙ (ap (λ z. z % s) (omega arith) ∙ mod-mul-add 0 s y h)

    grown : s ≤ y → s ≤ y * 2 ^ p
    grown h = let z = pow_pos p in more y (2 ^ p) s h z
      where
        more : (y m s : ℕ) → s ≤ y → 0 < m → s ≤ y * m
        more y zero s h z = absurd (omega arith)
        more y (suc m) s h z = omega arith

    or_true : (b : Bool) → (true || b) ≡ true
    or_true b = refl

    by : (y < s) ⊎ (s ≤ y) → new ≡ not (nat_lt (n * 2 ^ e) s)
    by (inl h) =
        let l : lost ≡ false = was ∙ ap not (lt-ltb y s h) in
        step ∙ (ap (λ z. z || not (nat_lt (word * 2 ^ p) s)) l ∙ (ap (λ z. not (nat_lt (z * 2 ^ p) s)) (small h) ∙ ap (λ z. not (nat_lt z s)) (sym (later_power true d e i p n f g))))
    by (inr h) =
        let l : lost ≡ true = was ∙ ap not (le-ltb y s h) in
        step ∙ (ap (λ z. z || not (nat_lt (word * 2 ^ p) s)) l ∙ (sym (ap not (le-ltb (y * 2 ^ p) s (grown h))) ∙ ap (λ z. not (nat_lt z s)) (sym (later_power true d e i p n f g))))
lost_more false d e i p n s word lost new some f g before was step = step ∙ (or_false lost ∙ (was ∙ ap (λ z. not (nat_lt z s)) (sym (later_power false d e i p n f g))))
  where
    or_false : (b : Bool) → (b || false) ≡ b
    or_false true = refl
    or_false false = refl

left_multiple : (n m s : ℕ) → pos (n * m) ≡ pos (n * m % s) +ℤ (pos (n * m / s) *ℤ pos s)
left_multiple n m s = by (n * m) (n * m % s) (n * m / s) s (div-add-mod' (n * m) s)
  where
    by : (y r q s : ℕ) → q * s + r ≡ y → pos y ≡ pos r +ℤ (pos q *ℤ pos s)
    by y r q s e = omega (arith, ints)

module _ (A : ℕ → Bool) (a r : List ℕ) (d : ℕ) (len : length r ≡ length a) (moved : number A r ≡ number A a * 2 ^ d % 2 ^ length a) where
  pub left_value : (signed : Bool) → word_value A signed r ≡ wrap_at (length a) signed (left_of (word_value A signed a) d)
  unfolding word_value
  left_value signed =
      let n = number A a in
      let w = length a in
      ap (λ k. wrap_at k signed (pos (number A r))) len
      ∙ (ap (λ k. wrap_at w signed (pos k)) moved
      ∙ (sym (wrap_at-congruent w signed (pos (n * 2 ^ d)) (pos (n * 2 ^ d % 2 ^ w)) (pos (n * 2 ^ d / 2 ^ w)) (left_multiple n (2 ^ d) (2 ^ w)))
      ∙ sym (wrap_at-mul_left w signed (pos n) (pos (2 ^ d)))))

abbrev Within : ℤ → ℕ → ℕ → Type 0
Within n b s = (pos 0 ≤ℤ (n +ℤ pos b)) × ((n +ℤ pos b) <ℤ pos s)

-- a fact on the sign and the shape, from one on the bounds
as_shifted : (w : ℕ) (signed : Bool) (n : ℤ) (v : ℤ) (m : ℤ) (f g : Bool) → v ≡ n → g ≡ f → (IsTrue f → (pos 0 ≤ℤ n) × Within (n *ℤ m) (below_at w signed) (2 ^ w)) × ((pos 0 ≤ℤ n) → Within (n *ℤ m) (below_at w signed) (2 ^ w) → IsTrue f) → IsTrue g ↔ ((pos 0 ≤ℤ v) × InShape w signed (v *ℤ m))
as_shifted w signed n v m f g e t is =
    let P : ℤ → Type 0 = λ z. (pos 0 ≤ℤ z) × InShape w signed (z *ℤ m) in (
      λ h. subst P (sym e) (let r = is.0 (sym t ∙ h) in (r.0, record { least = r.1.0; most = r.1.1 })),
      λ i. let j = subst P e i in t ∙ is.1 j.0 (j.1.least, j.1.most),
    )

at_least : (n m : ℕ) → 0 < m → n ≤ n * m
at_least n zero h = absurd (omega arith)
at_least n (suc m) h = omega arith

not_lost : (y s : ℕ) (l : Bool) → l ≡ not (nat_lt y s) → l ≡ false → y < s
not_lost y s l e f = by (cases_lt y s)
  where
    by : (y < s) ⊎ (s ≤ y) → y < s
    by (inl h) = h
    by (inr h) = absurd (true≢false (sym (e ∙ ap not (le-ltb y s h)) ∙ f))

is_lost : (y s : ℕ) (l : Bool) → l ≡ not (nat_lt y s) → l ≡ true → s ≤ y
is_lost y s l e f = by (cases_lt y s)
  where
    by : (y < s) ⊎ (s ≤ y) → s ≤ y
    by (inl h) = absurd (true≢false (sym f ∙ (e ∙ ap not (lt-ltb y s h))))
    by (inr h) = h

unsigned_left : (l : Bool) (n m s : ℕ) → l ≡ not (nat_lt (n * m) s) → (IsTrue (not (l || false)) → (pos 0 ≤ℤ pos n) × Within (pos n *ℤ pos m) 0 s) × ((pos 0 ≤ℤ pos n) → Within (pos n *ℤ pos m) 0 s → IsTrue (not (l || false)))
unsigned_left true n m s e =
    let h = is_lost (n * m) s true e refl in
    (λ t. absurd (true≢false (sym t)), λ z r. absurd (by (n * m) s h r.1))
  where
    by : (y s : ℕ) → s ≤ y → (pos y +ℤ pos 0) <ℤ pos s → ⊥
    by y s h k = omega (arith, ints)
unsigned_left false n m s e =
    let h = not_lost (n * m) s false e refl in
    (λ t. (omega (arith, ints), by (n * m) s h), λ z r. refl)
  where
    by : (y s : ℕ) → y < s → Within (pos y) 0 s
    by y s h = (omega (arith, ints), omega (arith, ints))

-- with a sign: the top bits of the number and of the result
signed_left : (l ta tr : Bool) (la lr p m s b n r : ℕ) → b ≡ p → s ≡ 2 * p → la < p → lr < p → 0 < m → n ≡ la + p * bit ta → r ≡ lr + p * bit tr → l ≡ not (nat_lt (n * m) s) → r ≡ n * m % s
    → (IsTrue (not (l || tr)) → (pos 0 ≤ℤ (pos la -ℤ pos (p * bit ta))) × Within ((pos la -ℤ pos (p * bit ta)) *ℤ pos m) b s) × ((pos 0 ≤ℤ (pos la -ℤ pos (p * bit ta))) → Within ((pos la -ℤ pos (p * bit ta)) *ℤ pos m) b s → IsTrue (not (l || tr)))
signed_left true true tr la lr p m s b n r eb es ha hr hm en er el em = (λ t. absurd (true≢false (sym t)), λ z w. absurd (by la p ha z))
  where
    by : (la p : ℕ) → la < p → pos 0 ≤ℤ (pos la -ℤ pos (p * 1)) → ⊥
    by la p h z = omega (arith, ints)
signed_left true false tr la lr p m s b n r eb es ha hr hm en er el em =
    let h = is_lost (n * m) s true el refl in
    let e : n ≡ la = omega arith in
    (λ t. absurd (true≢false (sym t)), λ z w. absurd (by (la * m) s b (subst (λ k. s ≤ k * m) e h) (subst (λ (k : ℤ). (k *ℤ pos m +ℤ pos b) <ℤ pos s) (plain la p) w.1)))
  where
    plain : (la p : ℕ) → pos la -ℤ pos (p * 0) ≡ pos la
    plain la p = omega (arith, ints)

    by : (y s b : ℕ) → s ≤ y → (pos y +ℤ pos b) <ℤ pos s → ⊥
    by y s b h k = omega (arith, ints)
signed_left false true tr la lr p m s b n r eb es ha hr hm en er el em =
    let y = n * m in
    let h : n * m < s = not_lost y s false el refl in
    let e : r ≡ n * m = em ∙ (ap (λ z. z % s) (omega arith) ∙ mod-mul-add 0 s y h) in
    let k : n ≤ n * m = at_least n m hm in
    let t : tr ≡ true = top tr r lr p hr er (omega arith) in
    (λ f. absurd (true≢false (sym f ∙ ap not t)), λ z w. absurd (by la p ha z))
  where
    by : (la p : ℕ) → la < p → pos 0 ≤ℤ (pos la -ℤ pos (p * 1)) → ⊥
    by la p h z = omega (arith, ints)

    top : (t : Bool) (r lr p : ℕ) → lr < p → r ≡ lr + p * bit t → p ≤ r → t ≡ true
    top true r lr p h e k = refl
    top false r lr p h e k = absurd (omega arith)
signed_left false false tr la lr p m s b n r eb es ha hr hm en er el em =
    let y = n * m in
    let h : n * m < s = not_lost y s false el refl in
    let e : r ≡ n * m = em ∙ (ap (λ z. z % s) (omega arith) ∙ mod-mul-add 0 s y h) in
    let q : n ≡ la = omega arith in
    let q2 : lr + p * bit tr ≡ la * m = sym er ∙ (e ∙ ap (λ z. z * m) q) in
    let P : ℤ → Type 0 = λ k. (IsTrue (not tr) → (pos 0 ≤ℤ k) × Within (k *ℤ pos m) b s) × ((pos 0 ≤ℤ k) → Within (k *ℤ pos m) b s → IsTrue (not tr)) in
    subst P (sym (plain la p)) (by tr (la * m) lr p b s eb es hr q2)
  where
    plain : (la p : ℕ) → pos la -ℤ pos (p * 0) ≡ pos la
    plain la p = omega (arith, ints)

    by : (t : Bool) (y lr p b s : ℕ) → b ≡ p → s ≡ 2 * p → lr < p → lr + p * bit t ≡ y → (IsTrue (not t) → (pos 0 ≤ℤ pos la) × Within (pos y) b s) × ((pos 0 ≤ℤ pos la) → Within (pos y) b s → IsTrue (not t))
    by true y lr p b s eb es h e = (λ f. absurd (true≢false (sym f)), λ z w. absurd (omega (arith, ints, w.1)))
    by false y lr p b s eb es h e = (λ f. (omega (arith, ints), (omega (arith, ints), omega (arith, ints))), λ z w. refl)

module _ (A : ℕ → Bool) (a r : List ℕ) (n z d : ℕ) (l : Bool) (la : length a ≡ n + 1) (lr : length r ≡ n + 1) (rz : z ≡ get_or r n z)
    (moved : number A r ≡ number A a * 2 ^ d % 2 ^ length a) (lost : l ≡ not (nat_lt (number A a * 2 ^ d) (2 ^ length a))) where
  ax : get_or a n 0 ≡ get_or a n (get_or a n 0)
  ax = top_same a n 0 (get_or a n 0) (omega arith)

  pub left_fits : (signed f : Bool) → f ≡ not (l || (signed && is_true A z)) → IsTrue f ↔ ((pos 0 ≤ℤ word_value A signed a) × InShape (length a) signed (left_of (word_value A signed a) d))
  left_fits true f e =
      as_shifted (length a) true (pos (number A (take n a)) -ℤ pos (2 ^ n * bit (is_true A (get_or a n 0)))) (word_value A true a) (pos (2 ^ d)) (not (l || is_true A z)) f (word_value-signed A a n (get_or a n 0) la ax) e
      (signed_left l (is_true A (get_or a n 0)) (is_true A z) (number A (take n a)) (number A (take n r)) (2 ^ n) (2 ^ d) (2 ^ length a) (2 ^ (length a - 1)) (number A a) (number A r) (half A a n (get_or a n 0) la ax) (full A a n (get_or a n 0) la ax)
      (low_bound A a n (get_or a n 0) la ax) (low_bound A r n z lr rz) (pow_pos d) (number_top A a n (get_or a n 0) la ax) (number_top A r n z lr rz) lost moved)
  left_fits false f e =
      as_shifted (length a) false (pos (number A a)) (word_value A false a) (pos (2 ^ d)) (not (l || false)) f (word_value-unsigned A a) e
      (unsigned_left l (number A a) (2 ^ d) (2 ^ length a) lost)

-- ---- down

plain_down : (n t h q : ℕ) → n ≡ t + q * h → t < q → n / q ≡ h
plain_down n t h q e k = ap (λ z. z / q) (omega arith) ∙ div-mul-add h q t k

-- the complement of a number, and that of its upper part
turned_down : (n t h q c s : ℕ) → n ≡ t + q * h → t < q → h < c → s ≡ q * c → (s - 1 - n) / q ≡ c - 1 - h
turned_down n t h q c s e k l f = by (c - 1 - h) (omega arith)
  where
    by : (m : ℕ) → c ≡ m + 1 + h → (s - 1 - n) / q ≡ m
    by m g =
        let u : s ≡ q * (m + 1 + h) = f ∙ ap (λ z. q * z) g in
        ap (λ z. z / q) (rest n t h q m s e k u) ∙ div-mul-add m q (q - 1 - t) (omega arith)
      where
        rest : (n t h q m s : ℕ) → n ≡ t + q * h → t < q → s ≡ q * (m + 1 + h) → s - 1 - n ≡ m * q + (q - 1 - t)
        rest n t h q m s e k u = omega arith

-- a number of a width that is continued by ones
under_top : (n s : ℕ) → n < s → pos n -ℤ pos (s * 1) ≡ negsuc (s - 1 - n)
under_top n s h = omega (arith, ints)

lowered : (f : Bool) (p n t h m c s x : ℕ) → n ≡ t + 2 ^ p * h → t < 2 ^ p → h < c → s ≡ 2 ^ p * c → x + bit f ≡ 2 ^ p * bit f → m ≡ h + c * x → n < s → m < s → pos m -ℤ pos (s * bit f) ≡ right_of (pos n -ℤ pos (s * bit f)) p
lowered true p n t h m c s x en ht hh es ex em hn hm =
    under_top m s hm ∙ (ap negsuc (same (2 ^ p) h m c s x (omega arith) hh es em ∙ sym (turned_down n t h (2 ^ p) c s en ht hh es)) ∙ sym (ap (λ z. right_of z p) (under_top n s hn)))
  where
    same : (q h m c s x : ℕ) → q ≡ x + 1 → h < c → s ≡ q * c → m ≡ h + c * x → s - 1 - m ≡ c - 1 - h
    same q h m c s x e k f g =
        let u : s ≡ (x + 1) * c = f ∙ ap (λ z. z * c) e in
        omega arith
lowered false p n t h m c s x en ht hh es ex em hn hm =
    plain m s ∙ (ap pos (same h m c x (omega arith) em ∙ sym (plain_down n t h (2 ^ p) en ht)) ∙ sym (ap (λ z. right_of z p) (plain n s)))
  where
    plain : (n s : ℕ) → pos n -ℤ pos (s * 0) ≡ pos n
    plain n s = omega (arith, ints)

    same : (h m c x : ℕ) → x ≡ 0 → m ≡ h + c * x → m ≡ h
    same h m c x e f = f ∙ (ap (λ z. h + c * z) e ∙ omega arith)

module _ (A : ℕ → Bool) (word moved : List ℕ) (places fill : ℕ) (room : places ≤ length word) (made : moved ≡ drop places word ++ replicate places fill) where
  pub lowered_length : length moved ≡ length word
  lowered_length = ap length made ∙ omega (arith, length-append (drop places word) (replicate places fill), length-replicate places fill, length-drop places word)

  pub lowered_value : continued_value A fill moved ≡ right_of (continued_value A fill word) places
  lowered_value =
      let h = number A (drop places word) in
      let t = number A (take places word) in
      let f = is_true A fill in
      let c = 2 ^ (length word - places) in
      let x = number A (replicate places fill) in
      let ld : length (drop places word) ≡ length word - places = length-drop places word in
      let lt : length (take places word) ≡ places = omega (arith, length-take places word) in
      let es : 2 ^ length word ≡ 2 ^ places * 2 ^ (length word - places) = ap (λ k. 2 ^ k) (omega arith) ∙ pow-add 2 places (length word - places) in
      let em : number A moved ≡ h + 2 ^ (length word - places) * x = ap (number A) made ∙ (number-append A (drop places word) (replicate places fill) ∙ ap (λ k. h + 2 ^ k * x) ld) in
      ap (λ k. pos (number A moved) -ℤ pos (2 ^ k * bit f)) lowered_length
      ∙ lowered f places (number A word) t h (number A moved) c (2 ^ length word) x (number-split A places word room) (subst (λ k. t < 2 ^ k) lt (number-bound A (take places word))) (subst (λ k. h < 2 ^ k) ld (number-bound A (drop places word))) es
      (number-copies A places fill) em (number-bound A word) (subst (λ k. number A moved < 2 ^ k) lowered_length (number-bound A moved))

pub lowered_none : (v : ℤ) → v ≡ right_of v 0
lowered_none (pos n) = ap pos (sym (div-one n))
lowered_none (negsuc n) = ap negsuc (sym (div-one n))

pub lowered_more : (t : Bool) (d e i p : ℕ) (v old new : ℤ) → e ≡ d + 2 ^ i * bit t → p ≡ 2 ^ i → old ≡ right_of v d → new ≡ (if t then right_of old p else old) → new ≡ right_of v e
lowered_more true d e i p v old new f g before step = step ∙ (ap (λ z. right_of z p) before ∙ (right_of-right_of v d p ∙ ap (right_of v) (omega arith)))
lowered_more false d e i p v old new f g before step = step ∙ (before ∙ ap (right_of v) (omega arith))

nearer : (n m : ℤ) (b s : ℕ) → b < s → pos 0 ≤ℤ m → m ≤ℤ n → Within n b s → Within m b s
nearer n m b s h p q w = (omega (arith, ints, w.0), omega (arith, ints, w.1))

nearer_under : (n m : ℤ) (b s : ℕ) → b < s → m ≤ℤ pos 0 → n ≤ℤ m → Within n b s → Within m b s
nearer_under n m b s h p q w = (omega (arith, ints, w.0), omega (arith, ints, w.1))

right_in_shape : (w : ℕ) (signed : Bool) (n : ℤ) (d : ℕ) → 0 < w → InShape w signed n → InShape w signed (right_of n d)
right_in_shape w signed (pos n) d h is =
    let r = nearer (pos n) (pos (n / 2 ^ d)) (below_at w signed) (2 ^ w) (below_less w signed h) (omega (arith, ints)) (omega (arith, ints, shr_le n d)) (is.least, is.most) in
    record { least = r.0; most = r.1 }
right_in_shape w signed (negsuc n) d h is =
    let r = nearer_under (negsuc n) (negsuc (n / 2 ^ d)) (below_at w signed) (2 ^ w) (below_less w signed h) (omega (arith, ints)) (omega (arith, ints, shr_le n d)) (is.least, is.most) in
    record { least = r.0; most = r.1 }

pub continued_multiple : (n s : ℕ) (f : Bool) → pos n ≡ (pos n -ℤ pos (s * bit f)) +ℤ (pos (bit f) *ℤ pos s)
continued_multiple n s true = omega (arith, ints)
continued_multiple n s false = omega (arith, ints)

pub right_value : (A : ℕ → Bool) (signed : Bool) (a r : List ℕ) (l d : ℕ) → 0 < length a → length r ≡ length a → word_value A signed a ≡ continued_value A l a → continued_value A l r ≡ right_of (continued_value A l a) d → word_value A signed r ≡ right_of (word_value A signed a) d
unfolding word_value
right_value A signed a r l d some len is step =
    let w = length a in
    let v = word_value A signed a in
    let e : continued_value A l r ≡ right_of v d = step ∙ ap (λ z. right_of z d) (sym is) in
    let s = right_in_shape w signed v d some (range-wrap_at w signed (pos (number A a))) in
    let P : ℤ → Type 0 = λ z. InShape w signed z in
    ap (λ k. wrap_at k signed (pos (number A r))) len
    ∙ (sym (wrap_at_unique w signed (pos (number A r)) (continued_value A l r) (pos (bit (is_true A l))) (subst P (sym e) s)
    (continued_multiple (number A r) (2 ^ length r) (is_true A l) ∙ ap (λ k. continued_value A l r +ℤ (pos (bit (is_true A l)) *ℤ pos (2 ^ k))) len)) ∙ e)

-- ---- how many bits of a distance are read

below_power : (k : ℕ) → k < 2 ^ k
below_power zero = omega arith
below_power (suc k) =
    let h = below_power k in
    let e : 2 ^ suc k ≡ 2 * 2 ^ k = ap (λ z. 2 ^ z) (by k) ∙ pow_next k in
    omega arith
  where
    by : (n : ℕ) → suc n ≡ n + 1
    by n = omega arith

pub bits_least : (k w i : ℕ) → 0 < w → 2 ^ k ≤ w - 1 → i < k + 1 → 2 ^ i < w
bits_least k w i h e l = by (cases_lt i k)
  where
    by : (i < k) ⊎ (k ≤ i) → 2 ^ i < w
    by (inl m) = let p = pow_below i k m in omega arith
    by (inr m) = let q : i ≡ k = omega arith in subst (λ z. 2 ^ z < w) (sym q) (omega arith)

pub bits_within : (k w : ℕ) → 0 < w → 2 ^ k ≤ w - 1 → k + 1 ≤ w
bits_within k w h e = let b = below_power k in omega arith

-- a choice that is turned over
pub swapped_choice : (A : ℕ → Bool) (t n x y : ℕ) → n ≡ complement_of t → (if is_true A n then x else y) ≡ (if is_true A t then y else x)
swapped_choice A t n x y e = ap (λ (b : Bool). if b then x else y) (ap (is_true A) e ∙ is_true-complement A t) ∙ by (is_true A t)
  where
    by : (b : Bool) → (if not b then x else y) ≡ (if b then y else x)
    by true = refl
    by false = refl

-- the choice between a word moved down and the word
pub lowered_choice : (A : ℕ → Bool) (t : Bool) (f p : ℕ) (word moved new : List ℕ) → length new ≡ length word → length moved ≡ length word → number A new ≡ (if t then number A moved else number A word) → continued_value A f moved ≡ right_of (continued_value A f word) p → continued_value A f new ≡ (if t then right_of (continued_value A f word) p else continued_value A f word)
lowered_choice A true f p word moved new ln lm step is =
    ap (λ k. pos (number A new) -ℤ pos (2 ^ k * bit (is_true A f))) (ln ∙ sym lm) ∙ (ap (λ k. pos k -ℤ pos (2 ^ length moved * bit (is_true A f))) step ∙ is)
lowered_choice A false f p word moved new ln lm step is =
    ap (λ k. pos (number A new) -ℤ pos (2 ^ k * bit (is_true A f))) ln ∙ ap (λ k. pos k -ℤ pos (2 ^ length word * bit (is_true A f))) step

-- ---- before the first bit of a distance

nothing_more : (n : ℕ) → n * 2 ^ 0 ≡ n
nothing_more n = omega arith

pub raised_none : (A : ℕ → Bool) (a w ds : List ℕ) → w ≡ a → number A w ≡ number A a * 2 ^ number A (take 0 ds) % 2 ^ length a
raised_none A a w ds e =
    ap (number A) e ∙ (sym (mod-mul-add 0 (2 ^ length a) (number A a) (number-bound A a)) ∙ ap (λ z. z % 2 ^ length a) (by (number A a) (2 ^ length a) ∙ sym (nothing_more (number A a))))
  where
    by : (n s : ℕ) → 0 * s + n ≡ n
    by n s = omega arith

pub lost_none : (A : ℕ → Bool) (a ds : List ℕ) (l : Bool) → l ≡ false → l ≡ not (nat_lt (number A a * 2 ^ number A (take 0 ds)) (2 ^ length a))
lost_none A a ds l e = e ∙ sym (ap not (ap (λ z. nat_lt z (2 ^ length a)) (nothing_more (number A a)) ∙ lt-ltb (number A a) (2 ^ length a) (number-bound A a)))
