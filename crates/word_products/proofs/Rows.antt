-- Products by rows.
use Rattle.std.proofs.Common.{ℕ, ◌≡◌, ◌<◌, ◌+◌, ◌*◌, ◌^◌, Bool, true, false, ◌&&◌, List, [], ◌∷◌, ◌++◌, length, take, drop, get_or, refl, sym, ap, ◌∙◌, arith}
use Rattle.sat_clause.specs.Literals.{is_true}
use Rattle.word_sums.specs.Words.{bit, number}
use Rattle.word_sums.proofs.Numbers.{number-more, number-take, pow_next}

masked_bit : (x y : Bool) → bit (x && y) ≡ bit x * bit y
masked_bit true true = refl
masked_bit true false = refl
masked_bit false true = refl
masked_bit false false = refl

masked_digit : (p w na d x y n na2 : ℕ) → n ≡ w + p * d → na2 ≡ na + p * x → d ≡ x * y → w ≡ na * y → n ≡ na2 * y
masked_digit p w na d x y n na2 e1 e2 e3 e4 =
    let t : p * d ≡ p * (x * y) = ap (λ z. p * z) e3 in
    let u : na2 * y ≡ (na + p * x) * y = ap (λ z. z * y) e2 in
    omega arith

-- one more digit of a masked word
pub masked_more : (A : ℕ → Bool) (i : ℕ) (t : Bool) (a word new : List ℕ) (x d : ℕ) → length word ≡ i → i < length a → new ≡ word ++ d ∷ [] → x ≡ get_or a i x
    → number A word ≡ number A (take i a) * bit t
    → is_true A d ≡ (is_true A x && t)
    → number A new ≡ number A (take (i + 1) a) * bit t
masked_more A i t a word new x d len h p q before digit =
    masked_digit (2 ^ i) (number A word) (number A (take i a)) (bit (is_true A d)) (bit (is_true A x)) (bit t) (number A new) (number A (take (i + 1) a))
    (number-more A i word new d len p) (number-take A i a x h q) (ap bit digit ∙ masked_bit (is_true A x) t) before

row_sum : (p q h r s c d u v : ℕ) → q ≡ 2 * p → s + q * c ≡ h + r → s ≡ d + 2 * u → v ≡ u + p * c → d + 2 * v ≡ h + r
row_sum p q h r s c d u v e1 e2 e3 e4 = let t : q * c ≡ 2 * p * c = ap (λ z. z * c) e1 in omega arith

-- a sum by its lowest digit and the rest, with what it carries on top
pub row_value : (A : ℕ → Bool) (h r : ℕ) (word rest : List ℕ) (n d c : ℕ) → length word ≡ n + 1 → rest ≡ drop 1 word ++ c ∷ [] → d ≡ get_or word 0 d → number A word + 2 ^ (n + 1) * bit (is_true A c) ≡ h + r → bit (is_true A d) + 2 * number A rest ≡ h + r
row_value A h r [] rest n d c len e is sum = absurd (omega (arith, len))
row_value A h r (x ∷ xs) rest n d c len e is sum =
    let lx : length xs ≡ n = omega (arith, len) in
    row_sum (2 ^ n) (2 ^ (n + 1)) h r (bit (is_true A x) + 2 * number A xs) (bit (is_true A c)) (bit (is_true A d)) (number A xs) (number A rest) (pow_next n) sum
    (ap (λ z. bit (is_true A z) + 2 * number A xs) (sym is))
    (number-more A n xs rest c lx e)

product_step : (p q l h na nb y d h2 l2 nb2 : ℕ) → q ≡ 2 * p → l + p * h ≡ na * nb → d + 2 * h2 ≡ h + na * y → l2 ≡ l + p * d → nb2 ≡ nb + p * y → l2 + q * h2 ≡ na * nb2
product_step p q l h na nb y d h2 l2 nb2 e1 e2 e3 e4 e5 =
    let f1 : p * (d + 2 * h2) ≡ p * (h + na * y) = ap (λ z. p * z) e3 in
    let f2 : q * h2 ≡ 2 * p * h2 = ap (λ z. z * h2) e1 in
    let f3 : na * nb2 ≡ na * (nb + p * y) = ap (λ z. na * z) e5 in
    omega arith

-- one more row of a product
pub product_more : (A : ℕ → Bool) (i : ℕ) (na : ℕ) (b low new : List ℕ) (h h2 : ℕ) (y d : ℕ) → length low ≡ i → i < length b → new ≡ low ++ d ∷ [] → y ≡ get_or b i y
    → number A low + 2 ^ i * h ≡ na * number A (take i b)
    → bit (is_true A d) + 2 * h2 ≡ h + na * bit (is_true A y)
    → number A new + 2 ^ (i + 1) * h2 ≡ na * number A (take (i + 1) b)
product_more A i na b low new h h2 y d len hb p q before row =
    product_step (2 ^ i) (2 ^ (i + 1)) (number A low) h na (number A (take i b)) (bit (is_true A y)) (bit (is_true A d)) h2 (number A new) (number A (take (i + 1) b)) (pow_next i) before row (number-more A i low new d len p) (number-take A i b y hb q)

-- no row of a product
pub product_none : (A : ℕ → Bool) (low b : List ℕ) (h na : ℕ) (t : Bool) → low ≡ [] → t ≡ false → h ≡ na * bit t → number A low + 2 ^ 0 * h ≡ na * number A (take 0 b)
product_none A low b h na t e f g =
    let z : h ≡ na * 0 = g ∙ ap (λ x. na * bit x) f in
    ap (λ x. number A x + 2 ^ 0 * h) e ∙ omega arith

pub row_total : (A : ℕ → Bool) (words word rows row : List ℕ) (h r m n : ℕ) (t c : Bool) → words ≡ word → rows ≡ row → m ≡ n → t ≡ false → number A row ≡ r → number A word + 2 ^ m * bit c ≡ h + number A rows + bit t → number A words + 2 ^ n * bit c ≡ h + r
row_total A words word rows row h r m n t c ew er em et value sum =
    let e1 : number A words + 2 ^ n * bit c ≡ number A word + 2 ^ m * bit c = ap (λ z. number A z + 2 ^ n * bit c) ew ∙ ap (λ z. number A word + 2 ^ z * bit c) (sym em) in
    let e2 : h + number A rows + bit t ≡ h + number A row + 0 = ap (λ z. h + number A z + bit t) er ∙ ap (λ z. h + number A row + bit z) et in
    e1 ∙ (sum ∙ (e2 ∙ omega arith))
