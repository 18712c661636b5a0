-- Laws of the measure of a trail.
use Rattle.std.proofs.Common.{ℕ, zero, suc, ◌≡◌, ◌-◌, ◌*◌, ◌^◌, ◌<◌, ◌≤◌, ◌++◌, List, [], ◌∷◌, length, Bool, true, false, ap, ◌∙◌, arith}
use Rattle.std.proofs.Math.Nat.{pow-suc}
use Rattle.sat_search.specs.Rank.{rank}

pow3 : (n : ℕ) → 3 ^ suc n ≡ 3 * 3 ^ n
pow3 n = omega (arith, pow-suc 3 n)

pow3-pos : (n : ℕ) → 0 < 3 ^ n
pow3-pos zero = omega arith
pow3-pos (suc n) = omega (arith, pow3 n, pow3-pos n)

pub rank-pos : (n : ℕ) (w : List Bool) → 0 < rank n w
rank-pos n [] = pow3-pos n
rank-pos n (true ∷ w) = omega (arith, rank-pos (n - 1) w)
rank-pos n (false ∷ w) = rank-pos (n - 1) w

step3 : (n : ℕ) → 0 < n → 3 ^ n ≡ 3 * 3 ^ (n - 1)
step3 n h = let e : n ≡ suc (n - 1) = omega arith in ap (λ (x : ℕ). 3 ^ x) e ∙ pow3 (n - 1)

pub rank-le : (n : ℕ) (w : List Bool) → length w ≤ n → rank n w ≤ 3 ^ n
rank-le n [] h = omega arith
rank-le n (true ∷ w) h = omega (arith, step3 n (omega arith), rank-le (n - 1) w (omega arith))
rank-le n (false ∷ w) h = omega (arith, step3 n (omega arith), rank-le (n - 1) w (omega arith))

-- a longer trail has a lower rank
pub rank-more : (n : ℕ) (w : List Bool) (x : Bool) (u : List Bool) → length (w ++ x ∷ u) ≤ n → rank n (w ++ x ∷ u) < rank n w
rank-more n [] true u h = omega (arith, step3 n (omega arith), rank-le (n - 1) u (omega arith), pow3-pos (n - 1))
rank-more n [] false u h = omega (arith, step3 n (omega arith), rank-le (n - 1) u (omega arith), pow3-pos (n - 1))
rank-more n (true ∷ w) x u h = omega (arith, rank-more (n - 1) w x u (omega arith))
rank-more n (false ∷ w) x u h = rank-more (n - 1) w x u (omega arith)

-- and so has one where a choice is given up for what follows
pub rank-flip : (n : ℕ) (w u v : List Bool) → length (w ++ false ∷ u) ≤ n → rank n (w ++ false ∷ u) < rank n (w ++ true ∷ v)
rank-flip n [] u v h = omega (arith, rank-le (n - 1) u (omega arith), rank-pos (n - 1) v)
rank-flip n (true ∷ w) u v h = omega (arith, rank-flip (n - 1) w u v (omega arith))
rank-flip n (false ∷ w) u v h = rank-flip (n - 1) w u v (omega arith)
