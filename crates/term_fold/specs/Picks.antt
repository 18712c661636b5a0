-- What an operation comes to where something is known of its operands.
use Rattle.std.specs.Prelude.{◌≡◌, ◌-◌, ◌^◌, true, ℤ, pos, negsuc, IfSome, if◌then◌else◌}
use Rattle.term_core.specs.declared.term.Shape.{Shape}
use Rattle.term_core.specs.declared.term.BinaryOp.{BinaryOp}
use Rattle.term_core.specs.Shape.{IsShape, HasShape, one_bit}
use Rattle.term_core.specs.Term.{truth, binary_value, fits_value, result_shape, OperandsFit}
use Rattle.term_fold.specs.declared.operands.Operands.{Operands}
use Rattle.term_fold.specs.declared.operands.Pick.{Pick}
use Rattle.term_fold.specs.declared.operands.Pick.TheVariants.{Left, Right, Number, Neither}

-- what is known is true of a and b
pub record Knows (o : Operands) (a b : ℤ) : Type 0 where
  pub left_has : HasShape o.shape a
  pub right_has : HasShape o.other b
  pub left_is : IfSome o.left (λ n. a ≡ n)
  pub right_is : IfSome o.right (λ n. b ≡ n)
  pub same_is : o.same ≡ true → a ≡ b

-- the constants have their shapes, and the shapes fit the operation
pub record IsFor (op : BinaryOp) (o : Operands) : Type 0 where
  pub shape : IsShape o.shape
  pub fit : OperandsFit op o.shape o.other
  pub left_has : IfSome o.left (HasShape o.shape)
  pub right_has : IfSome o.right (HasShape o.other)

-- the number that is picked of a and b, where the operation gives v
abbrev pub picked : Pick → ℤ → ℤ → ℤ → ℤ
picked Left a b v = a
picked Right a b v = b
picked (Number n) a b v = n
picked Neither a b v = v

-- what is picked has shape z
abbrev pub PickHas : Operands → Shape → Pick → Type 0
PickHas o z Left = o.shape ≡ z
PickHas o z Right = o.other ≡ z
PickHas o z (Number n) = HasShape z n
PickHas o z Neither = Unit {0}

-- the operation f, whose results have shape z, gives what is picked
pub record IsPick (o : Operands) (z : Shape) (f : ℤ → ℤ → ℤ) (p : Pick) : Type 0 where
  pub has : PickHas o z p
  pub value : (a b : ℤ) → Knows o a b → picked p a b (f a b) ≡ f a b

abbrev pub IsPickOf : BinaryOp → Operands → Pick → Type 0
IsPickOf op o p = IsPick o (result_shape op o.shape) (binary_value o.shape o.other op) p

abbrev pub IsFitsPick : BinaryOp → Operands → Pick → Type 0
IsFitsPick op o p = IsPick o one_bit (λ a b. truth (fits_value o.shape o.other op a b)) p

-- the number of a shape whose bits are all set (6.2.6.2)
abbrev pub ones_of : Shape → ℤ
ones_of s = if s.signed then negsuc 0 else pos (2 ^ s.width - 1)
