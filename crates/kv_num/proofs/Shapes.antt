-- Numbers of a width and a signedness: to wrap a number keeps it modulo 2 ^ width, and no other number of the shape
-- does.
use Rattle.std.proofs.Common.{refl, arith, ◌≡◌, ℕ, ◌+◌, ◌*◌, ◌<◌, ◌≤◌, ◌-◌, ◌%◌, ◌^◌, Bool, ℤ, pos, negsuc, neg_ℤ, ◌+ℤ◌, ◌-ℤ◌, ◌*ℤ◌, ◌≤ℤ◌, ◌<ℤ◌, sym, ap, subst, ◌∙◌}
use Rattle.std.proofs.lemmas.Int.{ints}
use Rattle.std.proofs.lemmas.Nat.{pow_pos, pow-add}
use Rattle.std.specs.Int.{int_rem_euclid}
use Rattle.kv_num.specs.Shape.{below_at, InShape, wrap_at}
use Rattle.kv_num.proofs.Congruence.{rem_congruent, one_number}
use Rattle.kv_num.proofs.Ring.{more_multiple, times-times, sum_multiple, difference_multiple, product_multiple}
use lib.IntN.{*ℤ_comm}

rem_small : (z : ℤ) (s : ℕ) → 0 < s → (r : ℕ) × (int_rem_euclid z (pos s) ≡ pos r) × (r < s)
rem_small (pos a) s p = (a % s, refl, omega arith)
rem_small (negsuc a) s p = (s - 1 - a % s, refl, omega arith)

low : (r b : ℕ) → pos 0 ≤ℤ ((pos r -ℤ pos b) +ℤ pos b)
low r b = omega (arith, ints)

high : (r b s : ℕ) → r < s → ((pos r -ℤ pos b) +ℤ pos b) <ℤ pos s
high r b s h = omega (arith, ints)

moved_back : (n r k : ℤ) (b : ℕ) → n +ℤ pos b ≡ r +ℤ k → n ≡ (r -ℤ pos b) +ℤ k
moved_back n r k b e = omega (arith, ints)

no_more : (n : ℤ) (s : ℕ) → n ≡ n +ℤ (pos 0 *ℤ pos s)
no_more n s = omega (arith, ints)

module _ (width : ℕ) (signed : Bool) where
  pub range-wrap_at : (n : ℤ) → InShape width signed (wrap_at width signed n)
  range-wrap_at n =
      let r = rem_small (n +ℤ pos (below_at width signed)) (2 ^ width) (pow_pos width) in
      let P : ℤ → Type 0 = λ m. InShape width signed (m -ℤ pos (below_at width signed)) in
      subst P (sym r.1) (record { least = low r.0 (below_at width signed); most = high r.0 (below_at width signed) (2 ^ width) r.2 })

  pub wrap_at_congruent : (n : ℤ) → (k : ℤ) × (n ≡ wrap_at width signed n +ℤ (k *ℤ pos (2 ^ width)))
  wrap_at_congruent n =
      let r = rem_congruent (n +ℤ pos (below_at width signed)) (2 ^ width) (pow_pos width) in
      (r.0, moved_back n (int_rem_euclid (n +ℤ pos (below_at width signed)) (pos (2 ^ width))) (r.0 *ℤ pos (2 ^ width)) (below_at width signed) r.1)

  pub wrap_at_unique : (n m k : ℤ) → InShape width signed m → n ≡ m +ℤ (k *ℤ pos (2 ^ width)) → m ≡ wrap_at width signed n
  wrap_at_unique n m k is e =
      let c = wrap_at_congruent n in
      let w = range-wrap_at n in
      one_number m (wrap_at width signed n) k c.0 (2 ^ width) (below_at width signed) is.least is.most w.least w.most (sym e ∙ c.1)

  -- a number of the shape is as wrapped
  pub wrap_at-in_shape : (n : ℤ) → InShape width signed n → wrap_at width signed n ≡ n
  wrap_at-in_shape n is = sym (wrap_at_unique n n (pos 0) is (no_more n (2 ^ width)))

  -- numbers that differ by a multiple of 2 ^ width are wrapped to one number
  pub wrap_at-congruent : (n m k : ℤ) → n ≡ m +ℤ (k *ℤ pos (2 ^ width)) → wrap_at width signed n ≡ wrap_at width signed m
  wrap_at-congruent n m k e =
      let c = wrap_at_congruent m in
      sym (wrap_at_unique n (wrap_at width signed m) (c.0 +ℤ k) (range-wrap_at m) (more_multiple n m (wrap_at width signed m) c.0 k (pos (2 ^ width)) e c.1))

  -- ---- to wrap the operands changes no wrapped result

  pub wrap_at-add : (a b : ℤ) → wrap_at width signed (wrap_at width signed a +ℤ wrap_at width signed b) ≡ wrap_at width signed (a +ℤ b)
  wrap_at-add a b =
      let p = wrap_at_congruent a in
      let q = wrap_at_congruent b in
      sym (wrap_at-congruent (a +ℤ b) (wrap_at width signed a +ℤ wrap_at width signed b) (p.0 +ℤ q.0) (sum_multiple a b (wrap_at width signed a) (wrap_at width signed b) p.0 q.0 (pos (2 ^ width)) p.1 q.1))

  pub wrap_at-sub : (a b : ℤ) → wrap_at width signed (wrap_at width signed a -ℤ wrap_at width signed b) ≡ wrap_at width signed (a -ℤ b)
  wrap_at-sub a b =
      let p = wrap_at_congruent a in
      let q = wrap_at_congruent b in
      sym (wrap_at-congruent (a -ℤ b) (wrap_at width signed a -ℤ wrap_at width signed b) (p.0 +ℤ neg_ℤ q.0) (difference_multiple a b (wrap_at width signed a) (wrap_at width signed b) p.0 q.0 (pos (2 ^ width)) p.1 q.1))

  pub wrap_at-mul_left : (a b : ℤ) → wrap_at width signed (wrap_at width signed a *ℤ b) ≡ wrap_at width signed (a *ℤ b)
  wrap_at-mul_left a b =
      let p = wrap_at_congruent a in
      sym (wrap_at-congruent (a *ℤ b) (wrap_at width signed a *ℤ b) (p.0 *ℤ b) (product_multiple a b (wrap_at width signed a) p.0 (pos (2 ^ width)) p.1))

  pub wrap_at-mul : (a b : ℤ) → wrap_at width signed (wrap_at width signed a *ℤ wrap_at width signed b) ≡ wrap_at width signed (a *ℤ b)
  wrap_at-mul a b =
      wrap_at-mul_left a (wrap_at width signed b) ∙ (ap (wrap_at width signed) (*ℤ_comm a (wrap_at width signed b)) ∙ (wrap_at-mul_left b a ∙ ap (wrap_at width signed) (*ℤ_comm b a)))

divides : (w v : ℕ) → w ≤ v → 2 ^ v ≡ 2 ^ (v - w) * 2 ^ w
divides w v h = ap (λ n. 2 ^ n) whole ∙ pow-add 2 (v - w) w
  where
    whole : v ≡ v - w + w
    whole = omega arith

-- to wrap into a wider range first changes nothing
pub wrap_at-wrap_at : (w v : ℕ) (s r : Bool) (n : ℤ) → w ≤ v → wrap_at w s (wrap_at v r n) ≡ wrap_at w s n
wrap_at-wrap_at w v s r n h =
    let c = wrap_at_congruent v r n in
    let m : ℤ = pos (2 ^ (v - w)) in
    let e : c.0 *ℤ pos (2 ^ v) ≡ (c.0 *ℤ m) *ℤ pos (2 ^ w) = ap (λ x. c.0 *ℤ x) (ap pos (divides w v h)) ∙ sym (times-times c.0 m (pos (2 ^ w))) in
    sym (wrap_at-congruent w s n (wrap_at v r n) (c.0 *ℤ m) (c.1 ∙ ap (λ x. wrap_at v r n +ℤ x) e))
