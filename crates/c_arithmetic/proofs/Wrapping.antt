-- Products of wrapped numbers.
use Rattle.std.proofs.Common.{◌≡◌, ℕ, ◌*◌, Option, Some, None, refl, ap, sym, ◌∙◌}
use Rattle.std.specs.Prelude.{ℤ, pos, ◌*ℤ◌}
use Rattle.std.specs.Option.{option_map}
use lib.IntN.{*ℤ_comm}
use Rattle.kv_num.specs.declared.types.IntType.{IntType}
use Rattle.kv_num.specs.IntType.{width_of, signed_of, wrap_of}
use Rattle.kv_num.proofs.Shapes.{wrap_at-mul_left}
use Rattle.kv_num.proofs.Ring.{times-times}
use Rattle.c_kinds.specs.Layouts.{times}

pub wrapped_left : (t : IntType) (a b : ℤ) → wrap_of t (wrap_of t a *ℤ b) ≡ wrap_of t (a *ℤ b)
wrapped_left t a b = wrap_at-mul_left (width_of t) (signed_of t) a b

pub wrapped_right : (t : IntType) (a b : ℤ) → wrap_of t (a *ℤ wrap_of t b) ≡ wrap_of t (a *ℤ b)
wrapped_right t a b = ap (wrap_of t) (*ℤ_comm a (wrap_of t b)) ∙ (wrapped_left t b a ∙ ap (wrap_of t) (*ℤ_comm b a))

wrapped_product : (t : IntType) (count : ℤ) (n m : ℕ) → wrap_of t (wrap_of t (count *ℤ pos n) *ℤ pos m) ≡ wrap_of t (count *ℤ pos (n * m))
wrapped_product t count n m = wrapped_left t (count *ℤ pos n) (pos m) ∙ ap (wrap_of t) (times-times count (pos n) (pos m))

-- a step into an array of n elements
pub size_step : (t : IntType) (count : ℤ) (n : ℕ) (rest : Option ℕ)
    → option_map (λ bytes. wrap_of t (wrap_of t (count *ℤ pos n) *ℤ pos bytes)) rest ≡ option_map (λ bytes. wrap_of t (count *ℤ pos bytes)) (times n rest)
size_step t count n None = refl
size_step t count n (Some m) = ap Some (wrapped_product t count n m)
