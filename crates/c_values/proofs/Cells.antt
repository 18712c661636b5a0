-- Cells that are written, and pointers in them that become wild.
use Rattle.std.proofs.Common.{arith, ◌≡◌, ◌≤◌, ◌<◌, Bool, ◌||◌, add-one, ℕ, zero, suc, ◌+◌, List, [], ◌∷◌, ◌++◌, length, map, take, drop, get_or, Some, true, false, refl, sym, ap, ◌∙◌}
use Rattle.std.proofs.lemmas.List.{set_past}
use Rattle.std.proofs.lemmas.List.Elements.{All-head, All-tail, All-set}
use Rattle.std.specs.Prelude.{slice_get, slice_set}
use Rattle.c_model.specs.declared.values.Scalar.{Scalar}
use Rattle.c_model.specs.declared.values.Scalar.TheVariants.{Inside}
use Rattle.c_model.specs.declared.values.Object.{Object}
use Rattle.c_model.specs.Store.{written, outlived, outlives}
use Rattle.c_values.specs.Pointing.{points, AreNoPointers}

-- past the last cell nothing is written
pub written_past : (v : List Scalar) (k : ℕ) (old : List Scalar) → length old ≤ k → written k v old ≡ old
written_past [] k old h = refl
written_past (s ∷ v) k old h = ap (λ xs. written (k + 1) v xs) (set_past old k s h) ∙ written_past v (k + 1) old (omega (arith, h))

-- the value that is left to be written begins with this scalar
pub written_on : (k : ℕ) (s : Scalar) (v rest old : List Scalar) → rest ≡ s ∷ v → written (k + 1) v (slice_set old k s) ≡ written k rest old
written_on k s v rest old e = ap (λ xs. written k xs old) (sym e)

-- without pointers written into cells without pointers there are none
pub written_points : (v : List Scalar) (k : ℕ) (old : List Scalar) → AreNoPointers v → AreNoPointers old → AreNoPointers (written k v old)
written_points [] k old h none = none
written_points (s ∷ v) k old h none =
    let P : Scalar → Type 0 = λ x. points x ≡ false in
    written_points v (k + 1) (slice_set old k s) (All-tail P s v h) (All-set P old k s (All-head P s v h) none)

-- cells without pointers stay as they are
same_outlived : (n : ℕ) (s : Scalar) → points s ≡ false → outlived n s ≡ s
same_outlived n (Inside object offset) h = cc
same_outlived n s h = refl

pub none_outlived : (n : ℕ) (cells : List Scalar) → AreNoPointers cells → map (outlived n) cells ≡ cells
none_outlived n [] h = refl
none_outlived n (s ∷ cells) h =
    let P : Scalar → Type 0 = λ x. points x ≡ false in
    ap (λ x. x ∷ map (outlived n) cells) (same_outlived n s (All-head P s cells h)) ∙ ap (λ xs. s ∷ xs) (none_outlived n cells (All-tail P s cells h))

-- a list that is mapped in place, from the front
module _ {A : Type 0} (f : A → A) where
  pub turned : (xs : List A) (at : ℕ) (s : A) → slice_get (map f (take at xs) ++ drop at xs) at ≡ Some s → slice_set (map f (take at xs) ++ drop at xs) at (f s) ≡ map f (take (suc at) xs) ++ drop (suc at) xs
  turned [] zero s e = cc
  turned [] (suc at) s e = cc
  turned (x ∷ xs) zero s e = let same : x ≡ s = cc in ap (λ y. f y ∷ xs) (sym same)
  turned (x ∷ xs) (suc at) s e = ap (λ ys. f x ∷ ys) (turned xs at s e)

  found_at : (xs : List A) (at : ℕ) → at < length xs → (s : A) × (slice_get (map f (take at xs) ++ drop at xs) at ≡ Some s)
  found_at [] at h = absurd (omega (arith, h))
  found_at (x ∷ xs) zero h = (x, refl)
  found_at (x ∷ xs) (suc at) h = found_at xs at (omega (arith, h))

  pub turned_on : (xs ys new : List A) (at : ℕ) → at < length xs → ys ≡ map f (take at xs) ++ drop at xs → ((s : A) → slice_get ys at ≡ Some s → new ≡ slice_set ys at (f s)) → new ≡ map f (take (at + 1) xs) ++ drop (at + 1) xs
  turned_on xs ys new at h e now =
      let found = found_at xs at h in
      let there = ap (λ zs. slice_get zs at) e ∙ found.1 in
      now found.0 there ∙ (ap (λ zs. slice_set zs at (f found.0)) e ∙ (turned xs at found.0 found.1 ∙ ap (λ n. map f (take n xs) ++ drop n xs) (sym (add-one at))))

  got : (xs : List A) (at : ℕ) (s d : A) → slice_get xs at ≡ Some s → get_or xs at d ≡ s
  got [] at s d e = cc
  got (x ∷ xs) zero s d e = cc
  got (x ∷ xs) (suc at) s d e = got xs at s d e

  -- the element there is replaced by what it is mapped to
  pub turned_there : (xs ys : List A) (at : ℕ) (d t : A) → at < length xs → ys ≡ map f (take at xs) ++ drop at xs → t ≡ f (get_or ys at d) → slice_set ys at t ≡ map f (take (at + 1) xs) ++ drop (at + 1) xs
  turned_there xs ys at d t h e g = turned_on xs ys (slice_set ys at t) at h e (λ s there. ap (slice_set ys at) (g ∙ ap f (got ys at s d there)))

-- ---- objects

pub none_outlives : (n number : ℕ) (cells : List Scalar) → AreNoPointers cells → (let o : Object = record { number = number; cells = cells } in o ≡ outlives n o)
none_outlives n number cells h = ap (λ v. record { number = number; cells = v }) (sym (none_outlived n cells h))

pub write_keeps : (may here : Bool) (v : List Scalar) (k : ℕ) (old : List Scalar) → (may ≡ false → AreNoPointers old) → (here ≡ false → AreNoPointers v) → (may || here) ≡ false → AreNoPointers (written k v old)
write_keeps true here v k old a b e = absurd (cc)
write_keeps false here v k old a b e = written_points v k old (b e) (a refl)
