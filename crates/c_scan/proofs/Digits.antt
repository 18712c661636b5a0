-- Numbers that digits write only grow with each digit.
use Rattle.std.proofs.Common.{◌≡◌, ℕ, zero, suc, ◌+◌, ◌*◌, ◌<◌, ◌≤◌, List, [], ◌∷◌, length, take, get_or, fold, arith, refl}
use Rattle.std.proofs.Math.Nat.{mul-le-mul_left}
use Rattle.c_tokens.specs.Pieces.{digit_value, written}

abbrev step : ℕ → ℕ → ℕ → ℕ
step base value c = value * base + digit_value c

grows_once : (base v d : ℕ) → 1 ≤ base → v ≤ v * base + d
grows_once base v d h = omega (arith, mul-le-mul_left v h)

fold-grows : (base v : ℕ) (xs : List ℕ) → 1 ≤ base → v ≤ fold (step base) v xs
fold-grows base v [] h = omega arith
fold-grows base v (x ∷ xs) h = omega (arith, grows_once base v (digit_value x) h, fold-grows base (step base v x) xs h)

take-grows : (base v k : ℕ) (xs : List ℕ) → 1 ≤ base → fold (step base) v (take k xs) ≤ fold (step base) v xs
take-grows base v zero xs h = fold-grows base v xs h
take-grows base v (suc k) [] h = omega arith
take-grows base v (suc k) (x ∷ xs) h = take-grows base (step base v x) k xs h

next_digit : (base v k : ℕ) (xs : List ℕ) → k < length xs → fold (step base) v (take (suc k) xs) ≡ step base (fold (step base) v (take k xs)) (get_or xs k 0)
next_digit base v k [] h = absurd (omega arith)
next_digit base v zero (x ∷ xs) h = refl
next_digit base v (suc k) (x ∷ xs) h = next_digit base (step base v x) k xs (omega arith)

-- once the number of the digits so far and one more reaches a bound, so does that of all
pub stays_large : (base value k bound : ℕ) (xs : List ℕ) → 1 ≤ base → value ≡ written base (take k xs) → k < length xs → bound ≤ value * base + digit_value (get_or xs k 0) → bound ≤ written base xs
stays_large base value k bound xs h e within large =
    omega (arith, rw e at large, next_digit base 0 k xs within, take-grows base 0 (suc k) xs h)

pub large_product : (value b base d bound : ℕ) → b ≡ base → (value * b < bound → ⊥) → bound ≤ value * base + d
large_product value b base d bound e h = let large = rw e at h in omega arith

pub large_sum : (value b base scaled e d bound : ℕ) → b ≡ base → scaled ≡ value * b → e ≡ d → (scaled + e < bound → ⊥) → bound ≤ value * base + d
large_sum value b base scaled e d bound same product same_digit h =
    let is : scaled ≡ value * base = rw same at product in omega arith
