-- Lists that are repeated.
use Rattle.std.proofs.Common.{◌≡◌, ℕ, zero, suc, ◌+◌, ◌*◌, List, [], ◌∷◌, ◌++◌, refl, sym, ap, ◌∙◌, add-one, zero-add, arith}
use Rattle.std.proofs.lemmas.List.{append-nil, append_assoc}
use Rattle.std.proofs.Math.Nat.{zero-mul}
use Rattle.c_kinds.specs.Layouts.{repeated}

more : (n m : ℕ) → suc n + m ≡ suc (n + m)
more n m = omega arith

times_more : (n m : ℕ) → m + n * m ≡ suc n * m
times_more n m = grind arith

module _ {A : Type 0} where
  -- at the end as at the front
  turned : (n : ℕ) (xs : List A) → repeated n xs ++ xs ≡ xs ++ repeated n xs
  turned zero xs = sym (append-nil xs)
  turned (suc n) xs = append_assoc xs (repeated n xs) xs ∙ ap (λ ys. xs ++ ys) (turned n xs)

  pub once_more : (n : ℕ) (xs made : List A) → made ≡ repeated n xs → made ++ xs ≡ repeated (n + 1) xs
  once_more n xs made e = ap (λ ys. ys ++ xs) e ∙ (turned n xs ∙ ap (λ k. repeated k xs) (sym (add-one n)))

  -- n times, and m times further
  both : (n m : ℕ) (xs : List A) → repeated (n + m) xs ≡ repeated n xs ++ repeated m xs
  both zero m xs = ap (λ k. repeated k xs) (zero-add m)
  both (suc n) m xs = ap (λ k. repeated k xs) (more n m) ∙ (ap (λ ys. xs ++ ys) (both n m xs) ∙ sym (append_assoc xs (repeated n xs) (repeated m xs)))

  -- n times m times
  pub times : (n m : ℕ) (xs : List A) → repeated (n * m) xs ≡ repeated n (repeated m xs)
  times zero m xs = ap (λ k. repeated k xs) (zero-mul m)
  times (suc n) m xs = ap (λ k. repeated k xs) (sym (times_more n m)) ∙ (both m (n * m) xs ∙ ap (λ ys. repeated m xs ++ ys) (times n m xs))

  pub once : (xs : List A) → repeated 1 xs ≡ xs
  once xs = append-nil xs
