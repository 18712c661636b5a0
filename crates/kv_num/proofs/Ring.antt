-- Laws of sums and products of whole numbers.
use Rattle.std.proofs.Common.{arith, ◌≡◌, ◌+◌, ◌*◌, ℤ, neg_ℤ, ◌+ℤ◌, ◌-ℤ◌, ◌*ℤ◌, ap, sym, ◌∙◌}
use Rattle.std.proofs.lemmas.Int.{ints}
use borrow.Author.Differences.{up, down, same_in, same_out, sum_is_lem, neg_is, product_is}
use lib.IntN.{*ℤ_comm}

-- for `omega`, which then takes a product for an unknown
pub ruleset sums = (same_in, same_out, sum_is_lem, neg_is)

pub times-add : (j k s : ℤ) → (j +ℤ k) *ℤ s ≡ (j *ℤ s) +ℤ (k *ℤ s)
times-add j k s =
    let above : (up (j +ℤ k) + down j + down k) * up s ≡ (down (j +ℤ k) + up j + up k) * up s = ap (λ x. x * up s) (sum_is_lem j k) in
    let under : (up (j +ℤ k) + down j + down k) * down s ≡ (down (j +ℤ k) + up j + up k) * down s = ap (λ x. x * down s) (sum_is_lem j k) in
    omega (arith, ints)

pub times-neg : (k s : ℤ) → neg_ℤ k *ℤ s ≡ neg_ℤ (k *ℤ s)
times-neg k s =
    let n = neg_is k in
    let e1 : up (neg_ℤ k) * up s ≡ down k * up s = ap (λ x. x * up s) n.0 in
    let e2 : up (neg_ℤ k) * down s ≡ down k * down s = ap (λ x. x * down s) n.0 in
    let e3 : down (neg_ℤ k) * up s ≡ up k * up s = ap (λ x. x * up s) n.1 in
    let e4 : down (neg_ℤ k) * down s ≡ up k * down s = ap (λ x. x * down s) n.1 in
    omega (arith, ints)

pub times-times : (a b c : ℤ) → (a *ℤ b) *ℤ c ≡ a *ℤ (b *ℤ c)
times-times a b c =
    let l = product_is a b in
    let r = product_is b c in
    let e1 : up (a *ℤ b) * up c ≡ (up a * up b + down a * down b) * up c = ap (λ x. x * up c) l.0 in
    let e2 : up (a *ℤ b) * down c ≡ (up a * up b + down a * down b) * down c = ap (λ x. x * down c) l.0 in
    let e3 : down (a *ℤ b) * up c ≡ (up a * down b + down a * up b) * up c = ap (λ x. x * up c) l.1 in
    let e4 : down (a *ℤ b) * down c ≡ (up a * down b + down a * up b) * down c = ap (λ x. x * down c) l.1 in
    let f1 : up a * up (b *ℤ c) ≡ up a * (up b * up c + down b * down c) = ap (λ x. up a * x) r.0 in
    let f2 : down a * up (b *ℤ c) ≡ down a * (up b * up c + down b * down c) = ap (λ x. down a * x) r.0 in
    let f3 : up a * down (b *ℤ c) ≡ up a * (up b * down c + down b * up c) = ap (λ x. up a * x) r.1 in
    let f4 : down a * down (b *ℤ c) ≡ down a * (up b * down c + down b * up c) = ap (λ x. down a * x) r.1 in
    omega (arith, ints)

times-swap : (a b c : ℤ) → (a *ℤ b) *ℤ c ≡ (a *ℤ c) *ℤ b
times-swap a b c = times-times a b c ∙ (ap (λ x. a *ℤ x) (*ℤ_comm b c) ∙ sym (times-times a c b))

-- ---- numbers that differ by a multiple of s

pub more_multiple : (n m w j k s : ℤ) → n ≡ m +ℤ (k *ℤ s) → m ≡ w +ℤ (j *ℤ s) → n ≡ w +ℤ ((j +ℤ k) *ℤ s)
more_multiple n m w j k s p q = omega (arith, sums, times-add j k s)

pub sum_multiple : (a b v w j k s : ℤ) → a ≡ v +ℤ (j *ℤ s) → b ≡ w +ℤ (k *ℤ s) → a +ℤ b ≡ (v +ℤ w) +ℤ ((j +ℤ k) *ℤ s)
sum_multiple a b v w j k s p q = omega (arith, sums, times-add j k s)

pub difference_multiple : (a b v w j k s : ℤ) → a ≡ v +ℤ (j *ℤ s) → b ≡ w +ℤ (k *ℤ s) → a -ℤ b ≡ (v -ℤ w) +ℤ ((j +ℤ neg_ℤ k) *ℤ s)
difference_multiple a b v w j k s p q = omega (arith, sums, times-add j (neg_ℤ k) s, times-neg k s)

pub product_multiple : (a b v j s : ℤ) → a ≡ v +ℤ (j *ℤ s) → a *ℤ b ≡ (v *ℤ b) +ℤ ((j *ℤ b) *ℤ s)
product_multiple a b v j s p = ap (λ x. x *ℤ b) p ∙ (times-add v (j *ℤ s) b ∙ ap (λ x. (v *ℤ b) +ℤ x) (times-swap j s b))
