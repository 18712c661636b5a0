-- Sums of words.
use Rattle.std.proofs.Common.{ℕ, ◌≡◌, ◌<◌, ◌≤◌, ◌+◌, ◌-◌, ◌*◌, ◌^◌, Bool, true, false, not, List, [], ◌∷◌, ◌++◌, length, take, get_or, ℤ, pos, negsuc, neg_ℤ, ◌+ℤ◌, ◌-ℤ◌, ◌*ℤ◌, ◌≤ℤ◌, ◌<ℤ◌, IsTrue, ◌↔◌, if◌then◌else◌, subst, refl, sym, ap, ◌∙◌, arith, length-append, length-take, inl, inr, ◌⊎◌, true≢false}
use Rattle.std.proofs.lemmas.Int.{ints}
use Rattle.std.proofs.lemmas.Bool.{cases_lt}
use Rattle.kv_num.specs.Bits.{differ}
use Rattle.kv_num.specs.Shape.{below_at, InShape, wrap_at}
use Rattle.kv_num.proofs.Ring.{sum_multiple, times-add, times-neg}
use Rattle.kv_num.proofs.Shapes.{wrap_at_congruent, wrap_at-congruent, wrap_at_unique, range-wrap_at}
use Rattle.sat_clause.specs.Literals.{is_true, complement_of}
use Rattle.sat_clause.proofs.Truths.{is_true-complement}
use Rattle.word_sums.specs.Words.{bit, number, word_value}
use Rattle.word_sums.proofs.Numbers.{number-more, number-take, number-bound, pow_next, word_value-unsigned, word_value-signed, number_top, half, full}

digits : (p q w na nb ci d o x y c w2 na2 nb2 : ℕ) → q ≡ 2 * p → w2 ≡ w + p * d → na2 ≡ na + p * x → nb2 ≡ nb + p * y → w + p * c ≡ na + nb + ci → d + 2 * o ≡ x + y + c → w2 + q * o ≡ na2 + nb2 + ci
digits p q w na nb ci d o x y c w2 na2 nb2 e1 e2 e3 e4 e5 e6 =
    let t : p * (d + 2 * o) ≡ p * (x + y + c) = ap (λ z. p * z) e6 in
    let u : q * o ≡ p * (2 * o) = ap (λ z. z * o) e1 ∙ omega arith in
    omega arith

-- one more digit of a sum
pub sum_more : (A : ℕ → Bool) (i ci : ℕ) (a b word new : List ℕ) (x y d carry out : ℕ) → length word ≡ i → i < length a → i < length b → new ≡ word ++ d ∷ [] → x ≡ get_or a i x → y ≡ get_or b i y
    → number A word + 2 ^ i * bit (is_true A carry) ≡ number A (take i a) + number A (take i b) + ci
    → bit (is_true A d) + 2 * bit (is_true A out) ≡ bit (is_true A x) + bit (is_true A y) + bit (is_true A carry)
    → number A new + 2 ^ (i + 1) * bit (is_true A out) ≡ number A (take (i + 1) a) + number A (take (i + 1) b) + ci
sum_more A i ci a b word new x y d carry out len ha hb p q r before digit =
    digits (2 ^ i) (2 ^ (i + 1)) (number A word) (number A (take i a)) (number A (take i b)) ci (bit (is_true A d)) (bit (is_true A out)) (bit (is_true A x)) (bit (is_true A y)) (bit (is_true A carry)) (number A new) (number A (take (i + 1) a)) (number A (take (i + 1) b)) (pow_next i) (number-more A i word new d len p) (number-take A i a x ha q) (number-take A i b y hb r) before digit

-- ---- the sum as a number of the width

shifted : (x y k z : ℤ) → x ≡ y +ℤ k → x +ℤ z ≡ (y +ℤ z) +ℤ k
shifted x y k z e = omega (arith, ints)

carried : (c : Bool) (na nb nr ci s : ℕ) → nr + s * bit c ≡ na + nb + ci → pos nr ≡ ((pos na +ℤ pos nb) +ℤ pos ci) +ℤ ((if c then negsuc 0 else pos 0) *ℤ pos s)
carried true na nb nr ci s e = omega (arith, ints)
carried false na nb nr ci s e = omega (arith, ints)

pub total_value : (A : ℕ → Bool) (signed : Bool) (a b r : List ℕ) (w ci : ℕ) (c : Bool) → length a ≡ w → length b ≡ w → length r ≡ w → number A r + 2 ^ w * bit c ≡ number A a + number A b + ci → word_value A signed r ≡ wrap_at w signed ((word_value A signed a +ℤ word_value A signed b) +ℤ pos ci)
unfolding word_value
total_value A signed a b r w ci c la lb lr e =
    let na = number A a in
    let nb = number A b in
    let nr = number A r in
    let p = wrap_at_congruent w signed (pos na) in
    let q = wrap_at_congruent w signed (pos nb) in
    let one = wrap_at-congruent w signed (pos nr) ((pos na +ℤ pos nb) +ℤ pos ci) (if c then negsuc 0 else pos 0) (carried c na nb nr ci (2 ^ w) e) in
    let two = wrap_at-congruent w signed ((pos na +ℤ pos nb) +ℤ pos ci) ((wrap_at w signed (pos na) +ℤ wrap_at w signed (pos nb)) +ℤ pos ci) (p.0 +ℤ q.0)
    (shifted (pos na +ℤ pos nb) (wrap_at w signed (pos na) +ℤ wrap_at w signed (pos nb)) ((p.0 +ℤ q.0) *ℤ pos (2 ^ w)) (pos ci) (sum_multiple (pos na) (pos nb) (wrap_at w signed (pos na)) (wrap_at w signed (pos nb)) p.0 q.0 (pos (2 ^ w)) p.1 q.1)) in
    ap (λ k. wrap_at k signed (pos nr)) lr ∙ (one ∙ (two ∙ (
    ap (λ k. wrap_at w signed ((wrap_at k signed (pos na) +ℤ wrap_at w signed (pos nb)) +ℤ pos ci)) (sym la)
    ∙ ap (λ k. wrap_at w signed ((wrap_at (length a) signed (pos na) +ℤ wrap_at k signed (pos nb)) +ℤ pos ci)) (sym lb)
    )))

-- ---- whether it fits

abbrev Within : ℤ → ℕ → ℕ → Type 0
Within n b s = (pos 0 ≤ℤ (n +ℤ pos b)) × ((n +ℤ pos b) <ℤ pos s)

unsigned_fits : (c : Bool) (na nb nr ci s : ℕ) → nr < s → nr + s * bit c ≡ na + nb + ci → (IsTrue (not c) → Within ((pos na +ℤ pos nb) +ℤ pos ci) 0 s) × (Within ((pos na +ℤ pos nb) +ℤ pos ci) 0 s → IsTrue (not c))
unsigned_fits true na nb nr ci s h e = (λ f. absurd (cc), λ r. absurd (omega (arith, ints, r.1)))
unsigned_fits false na nb nr ci s h e = (λ f. (omega (arith, ints), omega (arith, ints)), λ r. refl)

signed_fits : (d c : Bool) (p px py pz la lb lr ci b s : ℕ) → b ≡ p → s ≡ 2 * p → lr < p → pz ≤ p → lr + p * bit d ≡ la + lb + ci → pz + 2 * (p * bit c) ≡ px + py + p * bit d
    → (IsTrue (not (differ d c)) → Within (((pos la -ℤ pos px) +ℤ (pos lb -ℤ pos py)) +ℤ pos ci) b s) × (Within (((pos la -ℤ pos px) +ℤ (pos lb -ℤ pos py)) +ℤ pos ci) b s → IsTrue (not (differ d c)))
signed_fits true true p px py pz la lb lr ci b s eb es hl hz e f = (λ t. (omega (arith, ints), omega (arith, ints)), λ r. refl)
signed_fits true false p px py pz la lb lr ci b s eb es hl hz e f = (λ t. absurd (cc), λ r. absurd (omega (arith, ints, r.1)))
signed_fits false true p px py pz la lb lr ci b s eb es hl hz e f = (λ t. absurd (cc), λ r. absurd (omega (arith, ints, r.0)))
signed_fits false false p px py pz la lb lr ci b s eb es hl hz e f = (λ t. (omega (arith, ints), omega (arith, ints)), λ r. refl)

top_digit : (p x y z d c : ℕ) → z + 2 * c ≡ x + y + d → p * z + 2 * (p * c) ≡ p * x + p * y + p * d
top_digit p x y z d c e = let t : p * (z + 2 * c) ≡ p * (x + y + d) = ap (λ k. p * k) e in omega arith

times_bit : (p : ℕ) (b : Bool) → p * bit b ≤ p
times_bit p true = omega arith
times_bit p false = omega arith

-- a fact on the shape, from one on the bounds
pub as_shape : (w : ℕ) (signed : Bool) (n m : ℤ) (f g : Bool) → m ≡ n → g ≡ f → (IsTrue f → Within n (below_at w signed) (2 ^ w)) × (Within n (below_at w signed) (2 ^ w) → IsTrue f) → IsTrue g ↔ InShape w signed m
as_shape w signed n m f g e t is =
    let P : ℤ → Type 0 = λ z. InShape w signed z in (
      λ h. subst P (sym e) (let r = is.0 (sym t ∙ h) in record { least = r.0; most = r.1 }),
      λ i. let j = subst P e i in t ∙ is.1 (j.least, j.most),
    )

-- the digits below the top, the top digit, and what is carried into and out of it
module _ (A : ℕ → Bool) (a b word r : List ℕ) (n ci x y z : ℕ) (d c : Bool) (la : length a ≡ n + 1) (lb : length b ≡ n + 1) (ax : x ≡ get_or a n x) (by : y ≡ get_or b n y) (lw : length word ≡ length (take n a)) (made : r ≡ word ++ z ∷ [])
    (below : number A word + 2 ^ length (take n a) * bit d ≡ number A (take n a) + number A (take n b) + ci)
    (top : bit (is_true A z) + 2 * bit c ≡ bit (is_true A x) + bit (is_true A y) + bit d) where
  low_length : length (take n a) ≡ n
  low_length = omega (arith, length-take n a)

  word_length : length word ≡ n
  word_length = lw ∙ low_length

  below_top : number A word + 2 ^ n * bit d ≡ number A (take n a) + number A (take n b) + ci
  below_top = ap (λ k. number A word + 2 ^ k * bit d) (sym low_length) ∙ below

  pub whole_sum : number A r + 2 ^ (n + 1) * bit c ≡ number A a + number A b + ci
  whole_sum = digits (2 ^ n) (2 ^ (n + 1)) (number A word) (number A (take n a)) (number A (take n b)) ci (bit (is_true A z)) (bit c) (bit (is_true A x)) (bit (is_true A y)) (bit d) (number A r) (number A a) (number A b) (pow_next n) (number-more A n word r z word_length made) (number_top A a n x la ax) (number_top A b n y lb by) below_top top

  pub sum_length : length r ≡ n + 1
  sum_length = let e = word_length in ap length made ∙ omega (arith, length-append word (z ∷ []))

  pub wrapped_total : (signed : Bool) → word_value A signed r ≡ wrap_at (length a) signed ((word_value A signed a +ℤ word_value A signed b) +ℤ pos ci)
  wrapped_total signed = total_value A signed a b r (length a) ci c refl (lb ∙ sym la) (sum_length ∙ sym la) (ap (λ k. number A r + 2 ^ k * bit c) la ∙ whole_sum)

  bound : number A r < 2 ^ length a
  bound = subst (λ k. number A r < 2 ^ k) (sum_length ∙ sym la) (number-bound A r)

  word_bound : number A word < 2 ^ n
  word_bound = subst (λ k. number A word < 2 ^ k) word_length (number-bound A word)

  pub total_fits : (signed over fits : Bool) → over ≡ (if signed then differ d c else c) → fits ≡ not over → IsTrue fits ↔ InShape (length a) signed ((word_value A signed a +ℤ word_value A signed b) +ℤ pos ci)
  total_fits true over fits e f =
      let px = 2 ^ n * bit (is_true A x) in
      let py = 2 ^ n * bit (is_true A y) in
      as_shape (length a) true (((pos (number A (take n a)) -ℤ pos px) +ℤ (pos (number A (take n b)) -ℤ pos py)) +ℤ pos ci) ((word_value A true a +ℤ word_value A true b) +ℤ pos ci) (not (differ d c)) fits
      (ap (λ k. (k +ℤ word_value A true b) +ℤ pos ci) (word_value-signed A a n x la ax) ∙ ap (λ k. ((pos (number A (take n a)) -ℤ pos px) +ℤ k) +ℤ pos ci) (word_value-signed A b n y lb by))
      (f ∙ ap not e)
      (signed_fits d c (2 ^ n) px py (2 ^ n * bit (is_true A z)) (number A (take n a)) (number A (take n b)) (number A word) ci (2 ^ (length a - 1)) (2 ^ length a) (half A a n x la ax) (full A a n x la ax) word_bound (times_bit (2 ^ n) (is_true A z)) below_top (top_digit (2 ^ n) (bit (is_true A x)) (bit (is_true A y)) (bit (is_true A z)) (bit d) (bit c) top))
  total_fits false over fits e f =
      as_shape (length a) false ((pos (number A a) +ℤ pos (number A b)) +ℤ pos ci) ((word_value A false a +ℤ word_value A false b) +ℤ pos ci) (not c) fits
      (ap (λ k. (k +ℤ word_value A false b) +ℤ pos ci) (word_value-unsigned A a) ∙ ap (λ k. (pos (number A a) +ℤ k) +ℤ pos ci) (word_value-unsigned A b))
      (f ∙ ap not e)
      (unsigned_fits c (number A a) (number A b) (number A r) ci (2 ^ length a) bound (ap (λ k. number A r + 2 ^ k * bit c) la ∙ whole_sum))

-- ---- differences

turned_digit : (p q w na d x w2 na2 : ℕ) → q ≡ 2 * p → w2 ≡ w + p * d → na2 ≡ na + p * x → d + x ≡ 1 → w + na + 1 ≡ p → w2 + na2 + 1 ≡ q
turned_digit p q w na d x w2 na2 e1 e2 e3 e4 e5 = let t : p * (d + x) ≡ p * 1 = ap (λ z. p * z) e4 in omega arith

one_of : (b : Bool) → bit (not b) + bit b ≡ 1
one_of true = refl
one_of false = refl

-- one more complement
pub turned_more : (A : ℕ → Bool) (i : ℕ) (a word new : List ℕ) (x d : ℕ) → length word ≡ i → i < length a → new ≡ word ++ d ∷ [] → x ≡ get_or a i x → d ≡ complement_of x → number A word + number A (take i a) + 1 ≡ 2 ^ i → number A new + number A (take (i + 1) a) + 1 ≡ 2 ^ (i + 1)
turned_more A i a word new x d len h p q is before =
    turned_digit (2 ^ i) (2 ^ (i + 1)) (number A word) (number A (take i a)) (bit (is_true A d)) (bit (is_true A x)) (number A new) (number A (take (i + 1) a)) (pow_next i) (number-more A i word new d len p) (number-take A i a x h q)
    (ap (λ z. bit z + bit (is_true A x)) (ap (is_true A) is ∙ is_true-complement A x) ∙ one_of (is_true A x)) before

turned_multiple : (nt nb s : ℕ) (va vb vt k j : ℤ) → nt + nb + 1 ≡ s → pos nb ≡ vb +ℤ (k *ℤ pos s) → pos nt ≡ vt +ℤ (j *ℤ pos s) → (va +ℤ vt) +ℤ pos 1 ≡ (va -ℤ vb) +ℤ (((pos 1 -ℤ k) -ℤ j) *ℤ pos s)
turned_multiple nt nb s va vb vt k j e f g =
    let one : pos 1 *ℤ pos s ≡ pos s = one_times s in
    let t1 = times-add (pos 1 -ℤ k) (neg_ℤ j) (pos s) in
    let t2 = times-add (pos 1) (neg_ℤ k) (pos s) in
    let t3 = times-neg j (pos s) in
    let t4 = times-neg k (pos s) in
    let whole : pos nt +ℤ pos nb +ℤ pos 1 ≡ pos s = omega (arith, ints) in
    by nt nb s va vb vt (k *ℤ pos s) (j *ℤ pos s) (((pos 1 -ℤ k) -ℤ j) *ℤ pos s) e f g (t1 ∙ (ap (λ z. z +ℤ (neg_ℤ j *ℤ pos s)) (t2 ∙ ap (λ z. z +ℤ (neg_ℤ k *ℤ pos s)) one) ∙ (ap (λ z. (pos s +ℤ z) +ℤ (neg_ℤ j *ℤ pos s)) t4 ∙ ap (λ z. (pos s +ℤ neg_ℤ (k *ℤ pos s)) +ℤ z) t3)))
  where
    one_times : (s : ℕ) → pos 1 *ℤ pos s ≡ pos s
    one_times s = omega (arith, ints)

    by : (nt nb s : ℕ) (va vb vt ks js m : ℤ) → nt + nb + 1 ≡ s → pos nb ≡ vb +ℤ ks → pos nt ≡ vt +ℤ js → m ≡ (pos s +ℤ neg_ℤ ks) +ℤ neg_ℤ js → (va +ℤ vt) +ℤ pos 1 ≡ (va -ℤ vb) +ℤ m
    by nt nb s va vb vt ks js m e f g h = omega (arith, ints)

module _ (A : ℕ → Bool) (w : ℕ) (signed : Bool) (va : ℤ) (b t : List ℕ) (lb : length b ≡ w) (lt : length t ≡ w) (turned : number A t + number A b + 1 ≡ 2 ^ w) where
  value_congruent : (v : List ℕ) → length v ≡ w → (k : ℤ) × (pos (number A v) ≡ word_value A signed v +ℤ (k *ℤ pos (2 ^ w)))
  unfolding word_value
  value_congruent v l =
      let c = wrap_at_congruent w signed (pos (number A v)) in
      (c.0, c.1 ∙ ap (λ k. wrap_at k signed (pos (number A v)) +ℤ (c.0 *ℤ pos (2 ^ w))) (sym l))

  pub turned_value : wrap_at w signed ((va +ℤ word_value A signed t) +ℤ pos 1) ≡ wrap_at w signed (va -ℤ word_value A signed b)
  turned_value =
      let p = value_congruent b lb in
      let q = value_congruent t lt in
      wrap_at-congruent w signed ((va +ℤ word_value A signed t) +ℤ pos 1) (va -ℤ word_value A signed b) ((pos 1 -ℤ p.0) -ℤ q.0)
      (turned_multiple (number A t) (number A b) (2 ^ w) va (word_value A signed b) (word_value A signed t) p.0 q.0 turned p.1 q.1)

-- ---- sums with nothing and with one carried

pub plus_never : (w : ℕ) (signed b : Bool) (v x : ℤ) → b ≡ false → v ≡ wrap_at w signed (x +ℤ pos (bit b)) → v ≡ wrap_at w signed x
plus_never w signed b v x e f = f ∙ ap (wrap_at w signed) (ap (λ z. x +ℤ pos (bit z)) e ∙ plus_zero x)
  where
    plus_zero : (x : ℤ) → x +ℤ pos 0 ≡ x
    plus_zero x = omega (arith, ints)

pub same_shape : (w : ℕ) (signed : Bool) (f g : Bool) (x y : ℤ) → g ≡ f → x ≡ y → IsTrue f ↔ InShape w signed x → IsTrue g ↔ InShape w signed y
same_shape w signed f g x y e t is =
    let P : ℤ → Type 0 = λ z. InShape w signed z in
    (λ h. subst P t (is.0 (sym e ∙ h)), λ i. e ∙ is.1 (subst P (sym t) i))

pub fits_never : (w : ℕ) (signed b f : Bool) (x : ℤ) → b ≡ false → IsTrue f ↔ InShape w signed (x +ℤ pos (bit b)) → IsTrue f ↔ InShape w signed x
fits_never w signed b f x e is = same_shape w signed f f (x +ℤ pos (bit b)) x refl (ap (λ z. x +ℤ pos (bit z)) e ∙ plus_zero x) is
  where
    plus_zero : (x : ℤ) → x +ℤ pos 0 ≡ x
    plus_zero x = omega (arith, ints)

flip_multiple : (nt nb s : ℕ) (vb k : ℤ) → nt + nb + 1 ≡ s → pos nb ≡ vb +ℤ (k *ℤ pos s) → pos nt ≡ ((pos 0 -ℤ vb) -ℤ pos 1) +ℤ ((pos 1 -ℤ k) *ℤ pos s)
flip_multiple nt nb s vb k e f =
    by nt nb s vb (k *ℤ pos s) ((pos 1 -ℤ k) *ℤ pos s) e f (times-add (pos 1) (neg_ℤ k) (pos s) ∙ (ap (λ z. z +ℤ (neg_ℤ k *ℤ pos s)) (one_times s) ∙ ap (λ z. pos s +ℤ z) (times-neg k (pos s))))
  where
    one_times : (s : ℕ) → pos 1 *ℤ pos s ≡ pos s
    one_times s = omega (arith, ints)

    by : (nt nb s : ℕ) (vb ks m : ℤ) → nt + nb + 1 ≡ s → pos nb ≡ vb +ℤ ks → m ≡ pos s +ℤ neg_ℤ ks → pos nt ≡ ((pos 0 -ℤ vb) -ℤ pos 1) +ℤ m
    by nt nb s vb ks m e f g = omega (arith, ints)

flip_range : (v : ℤ) (h s : ℕ) → s ≡ 2 * h → pos 0 ≤ℤ (v +ℤ pos h) → (v +ℤ pos h) <ℤ pos s → Within ((pos 0 -ℤ v) -ℤ pos 1) h s
flip_range v h s e p q = (omega (arith, ints), omega (arith, ints))

difference : (va vb vt : ℤ) → vt ≡ (pos 0 -ℤ vb) -ℤ pos 1 → (va +ℤ vt) +ℤ pos 1 ≡ va -ℤ vb
difference va vb vt e = omega (arith, ints)

turned_over : (f g : Bool) (w na nb nt : ℕ) → na < 2 ^ w → nt + nb + 1 ≡ 2 ^ w → g ≡ not f → IsTrue f ↔ InShape w false ((pos na +ℤ pos nt) +ℤ pos 1) → IsTrue g ↔ InShape w false (pos na -ℤ pos nb)
turned_over true g w na nb nt h e q is =
    let s = is.0 refl in
    (λ t. absurd (true≢false (sym t ∙ q)), λ i. absurd (over na nb nt (2 ^ w) h e s.most i.least))
  where
    over : (na nb nt s : ℕ) → na < s → nt + nb + 1 ≡ s → (((pos na +ℤ pos nt) +ℤ pos 1) +ℤ pos 0) <ℤ pos s → pos 0 ≤ℤ ((pos na -ℤ pos nb) +ℤ pos 0) → ⊥
    over na nb nt s h e p q = omega (arith, ints)
turned_over false g w na nb nt h e q is =
    (λ t. by (cases_lt na nb), λ i. q)
  where
    big : (na nb nt s : ℕ) → na < nb → nt + nb + 1 ≡ s → Within ((pos na +ℤ pos nt) +ℤ pos 1) 0 s
    big na nb nt s h e = (omega (arith, ints), omega (arith, ints))

    fits : (na nb s : ℕ) → nb ≤ na → na < s → Within (pos na -ℤ pos nb) 0 s
    fits na nb s h k = (omega (arith, ints), omega (arith, ints))

    by : (na < nb) ⊎ (nb ≤ na) → InShape w false (pos na -ℤ pos nb)
    by (inl l) = let r = big na nb nt (2 ^ w) l e in absurd (true≢false (sym (is.1 (record { least = r.0; most = r.1 }))))
    by (inr l) = let r = fits na nb (2 ^ w) l h in record { least = r.0; most = r.1 }

module _ (A : ℕ → Bool) (w n : ℕ) (some : w ≡ n + 1) (a b t : List ℕ) (la : length a ≡ w) (lb : length b ≡ w) (lt : length t ≡ w) (turned : number A t + number A b + 1 ≡ 2 ^ w) where
  in_shape_of : (v : List ℕ) → length v ≡ w → InShape w true (word_value A true v)
  unfolding word_value
  in_shape_of v l = subst (λ k. InShape w true (wrap_at k true (pos (number A v)))) (sym l) (range-wrap_at w true (pos (number A v)))

  double : 2 ^ w ≡ 2 * 2 ^ (w - 1)
  double = let e : w - 1 ≡ n = omega arith in ap (λ k. 2 ^ k) some ∙ (pow_next n ∙ ap (λ k. 2 * 2 ^ k) (sym e))

  pub turned_signed : word_value A true t ≡ (pos 0 -ℤ word_value A true b) -ℤ pos 1
  unfolding word_value
  turned_signed =
      let c = value_congruent A w true (pos 0) b t lb lt turned b lb in
      let i = in_shape_of b lb in
      let r = flip_range (word_value A true b) (2 ^ (w - 1)) (2 ^ w) double i.least i.most in
      ap (λ k. wrap_at k true (pos (number A t))) lt ∙ sym (wrap_at_unique w true (pos (number A t)) ((pos 0 -ℤ word_value A true b) -ℤ pos 1) (pos 1 -ℤ c.0) (record { least = r.0; most = r.1 }) (flip_multiple (number A t) (number A b) (2 ^ w) (word_value A true b) c.0 turned c.1))

  number_below : number A a < 2 ^ w
  number_below = subst (λ k. number A a < 2 ^ k) la (number-bound A a)

  -- whether a difference fits, from whether the sum with each bit turned over and one carried does
  pub difference_fits : (signed one f g : Bool) → one ≡ true → g ≡ (if not signed then not f else f) → IsTrue f ↔ InShape w signed ((word_value A signed a +ℤ word_value A signed t) +ℤ pos (bit one)) → IsTrue g ↔ InShape w signed (word_value A signed a -ℤ word_value A signed b)
  difference_fits true one f g eo eg is =
      same_shape w true f g ((word_value A true a +ℤ word_value A true t) +ℤ pos (bit one)) (word_value A true a -ℤ word_value A true b) eg
      (ap (λ z. (word_value A true a +ℤ word_value A true t) +ℤ pos (bit z)) eo ∙ difference (word_value A true a) (word_value A true b) (word_value A true t) turned_signed) is
  difference_fits false one f g eo eg is =
      let ea = word_value-unsigned A a in
      let eb = word_value-unsigned A b in
      let et = word_value-unsigned A t in
      let e1 : (word_value A false a +ℤ word_value A false t) +ℤ pos (bit one) ≡ (pos (number A a) +ℤ pos (number A t)) +ℤ pos 1 =
      ap (λ z. (word_value A false a +ℤ word_value A false t) +ℤ pos (bit z)) eo ∙ (ap (λ z. (z +ℤ word_value A false t) +ℤ pos 1) ea ∙ ap (λ z. (pos (number A a) +ℤ z) +ℤ pos 1) et) in
      let e2 : pos (number A a) -ℤ pos (number A b) ≡ word_value A false a -ℤ word_value A false b =
      ap (λ z. z -ℤ pos (number A b)) (sym ea) ∙ ap (λ z. word_value A false a -ℤ z) (sym eb) in
      same_shape w false g g (pos (number A a) -ℤ pos (number A b)) (word_value A false a -ℤ word_value A false b) refl e2
      (turned_over f g w (number A a) (number A b) (number A t) number_below turned eg (same_shape w false f f ((word_value A false a +ℤ word_value A false t) +ℤ pos (bit one)) ((pos (number A a) +ℤ pos (number A t)) +ℤ pos 1) refl e1 is))

pub same_shape_at : (v w : ℕ) (signed : Bool) (f : Bool) (x y : ℤ) → v ≡ w → x ≡ y → IsTrue f ↔ InShape v signed x → IsTrue f ↔ InShape w signed y
same_shape_at v w signed f x y e t is = same_shape w signed f f x y refl t (subst (λ k. IsTrue f ↔ InShape k signed x) e is)
