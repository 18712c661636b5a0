-- Equality of integer types and of bases, as it is derived and as it is defined.
use Rattle.std.proofs.Common.{◌≡◌, ℕ, Bool, eqb, refl}
use denote.Enum.Bare.{sameb}
use denote.Enum.Declared.{tag_of}
use Rattle.kv_num.specs.declared.types.IntType.{IntType}
use Rattle.kv_num.specs.declared.types.IntType.TheVariants.{Bool as B}
use Rattle.kv_num.specs.contracts.types.IntType as integer
use Rattle.c_kinds.specs.declared.types.Base.{Base}
use Rattle.c_kinds.specs.declared.types.Base.TheVariants as base
use Rattle.c_kinds.specs.contracts.types.BasePartialEq.TheImpl as derived_equality
use Rattle.c_kinds.specs.Types.{index_of, same_integer, same_base}

tag_is : (k : IntType) → tag_of integer.the_type k ≡ index_of k
tag_is B = refl
tag_is k = refl

pub same_integer_is : (k l : IntType) → sameb integer.the_type k l ≡ same_integer k l
same_integer_is k l = λ i. eqb (tag_is k i) (tag_is l i)

abbrev pub equal : Base → Base → Bool
equal = (derived_equality.ghosts).eq

pub same_base_is : (a b : Base) → equal a b ≡ same_base a b
same_base_is (base.Integer k) (base.Integer l) = same_integer_is k l
same_base_is base.Void base.Void = refl
same_base_is (base.Struct n) (base.Struct m) = refl
same_base_is (base.Function n) (base.Function m) = refl
same_base_is _ _ = refl
