-- Pointers that are moved by so many cells that they leave every object.
use Rattle.std.proofs.Common.{◌≡◌, ◌≢◌, ℕ, zero, suc, ◌*◌, ◌^◌, ◌<◌, ◌≤◌, ◌⊎◌, inl, inr, Bool, true, false, ◌||◌, if◌then◌else◌, refl, sym, ap, ◌∙◌, ⊎_elim, arith}
use Rattle.std.specs.Prelude.{ℤ, pos, negsuc, ◌+ℤ◌, ◌*ℤ◌, ◌<ℤ◌, ◌≤ℤ◌, neg_ℤ, int_lt, unsigned_abs}
use Rattle.std.proofs.lemmas.Int.{ints}
use Rattle.std.proofs.lemmas.Bool.{false≢true}
use Rattle.c_kinds.specs.declared.types.CType.{CType}
use Rattle.c_kinds.specs.declared.typed.Fixed.{Fixed}
use Rattle.c_kinds.specs.declared.typed.Fixed.TheVariants.{Varies, NoValue, Number, Null, At, Breaks}
use Rattle.c_kinds.specs.Layouts.{Layout, cell_count, object_cells}
use Rattle.c_kinds.specs.Addresses.{moved, moved_to}

-- a test of two numbers in order
in_order : (a b : ℤ) → a <ℤ b → int_lt a b ≡ true
in_order a b h = grind (arith, ints)

either : (a b : Bool) → (a ≡ true) ⊎ (b ≡ true) → (a || b) ≡ true
either true b h = refl
either false b (inl h) = absurd (false≢true h)
either false b (inr h) = h

outside : (l : Layout) (object : ℕ) (t : ℤ) → (t <ℤ pos 0) ⊎ (pos (object_cells l object) <ℤ t) → Breaks ≡ moved_to l object t
outside l object t out =
    let holds : (int_lt t (pos 0) || int_lt (pos (object_cells l object)) t) ≡ true =
    either (int_lt t (pos 0)) (int_lt (pos (object_cells l object)) t) (⊎_elim (λ (h : t <ℤ pos 0). inl (in_order t (pos 0) h)) (λ (h : pos (object_cells l object) <ℤ t). inr (in_order (pos (object_cells l object)) t h)) out) in
    sym (ap (λ b. if b then Breaks else At object (unsigned_abs t)) holds)

-- any number but 0 times so many cells
reaches : (n : ℤ) (c : ℕ) → 2 ^ 64 ≤ c → n ≢ pos 0 → (pos (2 ^ 64) ≤ℤ (n *ℤ pos c)) ⊎ ((n *ℤ pos c) ≤ℤ neg_ℤ (pos (2 ^ 64)))
reaches (pos zero) c h other = absurd (other refl)
reaches (pos (suc k)) c h other = let more : c ≤ suc k * c = grind arith in inl (omega (arith, ints))
reaches (negsuc k) c h other = let more : c ≤ suc k * c = grind arith in inr (omega (arith, ints))

pub leaves : (l : Layout) (object cell c : ℕ) (n : ℤ) → object_cells l object < 2 ^ 64 → cell < 2 ^ 64 → 2 ^ 64 ≤ c → n ≢ pos 0
    → Breaks ≡ moved_to l object (pos cell +ℤ n *ℤ pos c)
leaves l object cell c n end in_range h other =
    ⊎_elim (λ (up : pos (2 ^ 64) ≤ℤ (n *ℤ pos c)). outside l object (pos cell +ℤ n *ℤ pos c) (inr (omega (arith, ints))))
    (λ (down : (n *ℤ pos c) ≤ℤ neg_ℤ (pos (2 ^ 64))). outside l object (pos cell +ℤ n *ℤ pos c) (inl (omega (arith, ints))))
    (reaches n c h other)

-- the greatest number of elements leads as far as one more
far_at : (l : Layout) (object cell c : ℕ) → object_cells l object < 2 ^ 64
    → moved_to l object (pos cell +ℤ pos 170141183460469231731687303715884105727 *ℤ pos c) ≡ moved_to l object (pos cell +ℤ pos 170141183460469231731687303715884105728 *ℤ pos c)
far_at l object cell zero h = refl
far_at l object cell (suc k) h =
    sym (outside l object (pos cell +ℤ pos 170141183460469231731687303715884105727 *ℤ pos (suc k)) (inr (omega (arith, ints))))
    ∙ outside l object (pos cell +ℤ pos 170141183460469231731687303715884105728 *ℤ pos (suc k)) (inr (omega (arith, ints)))

pub far_as_far : (l : Layout) (pointee : CType) (p : Fixed) → ((object : ℕ) → object_cells l object < 2 ^ 64)
    → moved l pointee p (Number (pos 170141183460469231731687303715884105727)) ≡ moved l pointee p (Number (pos 170141183460469231731687303715884105728))
far_as_far l pointee (At object cell) fits = far_at l object cell (cell_count l.structs pointee) (fits object)
far_as_far l pointee Varies fits = refl
far_as_far l pointee NoValue fits = refl
far_as_far l pointee (Number n) fits = refl
far_as_far l pointee Null fits = refl
far_as_far l pointee Breaks fits = refl
