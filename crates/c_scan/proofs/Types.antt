-- No type represents a number from 2 ^ 64 on.
use Rattle.std.proofs.Common.{◌≡◌, ℕ, ◌-◌, ◌<◌, ◌≤◌, false, nat_lt, cond, List, [], ◌∷◌, Some, None, arith, refl, ◌∙◌, ap, lit≤}
use Rattle.std.proofs.lemmas.Bool.Decides.{nat_tests}
use Rattle.kv_num.specs.declared.types.IntType.{IntType}
use Rattle.kv_num.specs.declared.types.IntType.TheVariants as kinds
use Rattle.kv_num.specs.IntType.{size_of, below_of}
use Rattle.c_tokens.specs.Constants.{first_for}

bounded : (t : IntType) → size_of t - below_of t ≤ 18446744073709551616
bounded kinds.Bool = lit≤ tt
bounded kinds.Char = lit≤ tt
bounded kinds.SChar = lit≤ tt
bounded kinds.UChar = lit≤ tt
bounded kinds.Short = lit≤ tt
bounded kinds.UShort = lit≤ tt
bounded kinds.Int = lit≤ tt
bounded kinds.UInt = lit≤ tt
bounded kinds.Long32 = lit≤ tt
bounded kinds.ULong32 = lit≤ tt
bounded kinds.Long = lit≤ tt
bounded kinds.ULong = lit≤ tt
bounded kinds.LongLong = lit≤ tt
bounded kinds.ULongLong = lit≤ tt

not_below : (a b : ℕ) → b ≤ 18446744073709551616 → (a < 18446744073709551616 → ⊥) → nat_lt a b ≡ false
not_below a b bound large = grind (arith, nat_tests)

pub too_large : (types : List IntType) (value : ℕ) → (value < 18446744073709551616 → ⊥) → first_for types value ≡ None
too_large [] value large = refl
too_large (t ∷ types) value large = ap (λ b. cond b (Some t) (first_for types value)) (not_below value (size_of t - below_of t) (bounded t) large) ∙ too_large types value large
