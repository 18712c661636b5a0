-- Terms that tests add.
use Rattle.std.proofs.Common.{arith, ◌≡◌, ℕ, ◌<◌, ◌≤◌, ℤ, List, length, lit≤, refl, sym, ap, subst, ◌∙◌}
use Rattle.kv_num.specs.declared.types.IntType.{IntType}
use Rattle.kv_num.specs.IntType.{InRange}
use Rattle.kv_num.proofs.Range.{width_least, width_most}
use Rattle.term_core.specs.declared.term.Shape.{Shape}
use Rattle.term_core.specs.declared.term.Term.{Term}
use Rattle.term_core.specs.declared.term.TermId.{TermId}
use Rattle.term_core.specs.declared.term.BinaryOp.{BinaryOp}
use Rattle.term_core.specs.declared.term.BinaryOp.TheVariants.{ShiftLeft, ShiftRight, Less, Equal}
use Rattle.term_core.specs.declared.term.TermKind.TheVariants.{Constant, Variable, Binary, Fits}
use Rattle.term_core.specs.Shape.{IsShape, HasShape, shape_of, one_bit}
use Rattle.term_core.specs.Term.{result_shape, OperandsFit}
use Rattle.term_core.specs.Table.{shape_at, IsOperand, IsTermAt}

pub of_type : (t : IntType) (s : Shape) → s ≡ shape_of t → IsShape s
of_type t s e = let P : Shape → Type 0 = λ x. IsShape x in subst P (sym e) (omega (arith, width_least t), width_most t)

pub constant_fits : (ts : List Term) (t : IntType) (s : Shape) (n : ℤ) → s ≡ shape_of t → InRange t n → IsTermAt ts (length ts) (record { shape = s; kind = Constant n })
constant_fits ts t s n e is = let P : Shape → Type 0 = λ x. HasShape x n in (of_type t s e, subst P (sym e) is)

result_is_shape : (op : BinaryOp) (s : Shape) → IsShape s → IsShape (result_shape op s)
result_is_shape Less s is = (lit≤ tt, lit≤ tt)
result_is_shape Equal s is = (lit≤ tt, lit≤ tt)
result_is_shape _ s is = is

one_shape_fits : (op : BinaryOp) (s : Shape) → OperandsFit op s s
one_shape_fits ShiftLeft s = tt
one_shape_fits ShiftRight s = tt
one_shape_fits _ s = refl

operands_fit : (ts : List Term) (l r : TermId) (op : BinaryOp) (s : Shape) → shape_at ts l.0 ≡ s → shape_at ts r.0 ≡ s → OperandsFit op (shape_at ts l.0) (shape_at ts r.0)
operands_fit ts l r op s el er =
    let P : Shape → Type 0 = λ x. OperandsFit op x (shape_at ts r.0) in
    let Q : Shape → Type 0 = λ x. OperandsFit op s x in
    subst P (sym el) (subst Q (sym er) (one_shape_fits op s))

pub operation_fits : (ts : List Term) (l r : TermId) (op : BinaryOp) (s z : Shape) → IsShape s → IsOperand ts (length ts) s l → IsOperand ts (length ts) s r → z ≡ result_shape op s → IsTermAt ts (length ts) (record { shape = z; kind = Binary op l r })
operation_fits ts l r op s z is hl hr ez =
    let P : Shape → Type 0 = λ x. IsShape x in
    (subst P (sym ez) (result_is_shape op s is), (hl.0, hr.0, operands_fit ts l r op s hl.1 hr.1, ez ∙ ap (result_shape op) (sym hl.1)))

pub test_fits : (ts : List Term) (l r : TermId) (op : BinaryOp) (s z : Shape) → IsOperand ts (length ts) s l → IsOperand ts (length ts) s r → z ≡ one_bit → IsTermAt ts (length ts) (record { shape = z; kind = Fits op l r })
test_fits ts l r op s z hl hr ez =
    let P : Shape → Type 0 = λ x. IsShape x in
    (subst P (sym ez) (lit≤ tt, lit≤ tt), (hl.0, hr.0, operands_fit ts l r op s hl.1 hr.1, ez))
