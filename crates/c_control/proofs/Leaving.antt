-- Blocks that end.
use Rattle.std.proofs.Common.{◌≡◌, ℕ, ◌+◌, ◌-◌, ◌<◌, ap, ◌∙◌, sym}
use Rattle.c_tree.specs.Places.{Place, leave}
use Rattle.c_control.specs.Chains.{leaves}
use Rattle.c_cursor.proofs.Lists.{one_further}

pub leaves_none : (n : ℕ) (p : Place) → n ≡ 0 → leaves n p ≡ p
leaves_none n p e = ap (λ m. leaves m p) e

pub leaves_one : (n i : ℕ) (p : Place) → i < n → leaves (n - i) p ≡ leaves (n - (i + 1)) (leave (leave p))
leaves_one n i p h = ap (λ m. leaves m p) (one_further n i h)

pub leaves_goes_on : (n i : ℕ) (p r : Place) → i < n → r ≡ leave (leave p) → leaves (n - i) p ≡ leaves (n - (i + 1)) r
leaves_goes_on n i p r h e = leaves_one n i p h ∙ ap (leaves (n - (i + 1))) (sym e)

pub leaves_begins : (n m : ℕ) (p : Place) → m ≡ n → leaves n p ≡ leaves m p
leaves_begins n m p e = ap (λ k. leaves k p) (sym e)
