-- The derived test of two terms.
use Rattle.std.proofs.Common.{rules, arith, ◌≡◌, ◌≢◌, ℕ, ◌<◌, true, false, List, length, sym, subst, ◌∙◌}
use Rattle.std.proofs.lemmas.Grind.{common_steps}
use Rattle.std.proofs.lemmas.Bool.{false≢true}
use Rattle.std.proofs.lemmas.List.Folds.{list_any_at}
use Rattle.std.specs.List.{list_any}
use Rattle.term_core.specs.declared.term.Shape.{Shape}
use Rattle.term_core.specs.declared.term.Term.{Term}
use Rattle.term_core.specs.declared.term.TermId.{TermId}
use Rattle.term_core.specs.declared.term.UnaryOp.{UnaryOp}
use Rattle.term_core.specs.declared.term.BinaryOp.{BinaryOp}
use Rattle.term_core.specs.declared.term.TermKind.{TermKind}
use Rattle.term_core.specs.contracts.term.TermPartialEq.TheImpl.{eq-value}
use Rattle.term_core.specs.contracts.term.TermEq.TheImpl.Laws as laws
use Rattle.term_core.specs.contracts.term.TermKindPartialEq.TheImpl as kind_eq
use Rattle.term_core.specs.contracts.term.ShapePartialEq.TheImpl as shape_eq
use Rattle.term_core.specs.contracts.term.TermIdPartialEq.TheImpl as id_eq
use Rattle.term_core.specs.contracts.term.UnaryOpPartialEq.TheImpl as unary_eq
use Rattle.term_core.specs.contracts.term.BinaryOpPartialEq.TheImpl as binary_eq
use Rattle.term_core.specs.contracts.term.BinaryOp as binary_op
use Rattle.term_core.specs.contracts.term.UnaryOp as unary_op
use denote.Enum.Bare.{same_true}
use Rattle.term_core.specs.Table.{term_at}

exact_id : (x y : TermId) → id_eq.eq-value.it x y ≡ true → x ≡ y
exact_id x y h = search rules

exact_shape : (x y : Shape) → shape_eq.eq-value.it x y ≡ true → x ≡ y
exact_shape x y h = search rules

exact_unary : (x y : UnaryOp) → unary_eq.eq-value.it x y ≡ true → x ≡ y
exact_unary x y h = same_true unary_op.the_type (search rules) x y h

exact_binary : (x y : BinaryOp) → binary_eq.eq-value.it x y ≡ true → x ≡ y
exact_binary x y h = same_true binary_op.the_type (search rules) x y h

exact_kind : (x y : TermKind) → kind_eq.eq-value.it x y ≡ true → x ≡ y
exact_kind x y h = search (rules, exact_id, exact_unary, exact_binary)

-- terms that pass the test are equal
pub exact : (x y : Term) → eq-value.it x y ≡ true → x ≡ y
exact x y h = grind (arith, common_steps, exact_kind, exact_shape)

-- and equal terms pass it
reflexive : (x y : Term) → x ≡ y → eq-value.it x y ≡ true
reflexive x y h = let P : Term → Type 0 = λ z. eq-value.it x z ≡ true in subst P h (laws.laws-law.refl x)

-- a term that no test finds is none of the list
pub absent : (ts : List Term) (t : Term) → list_any (eq-value.it t) ts ≡ false → (i : ℕ) → i < length ts → term_at ts i ≢ t
absent ts t none i small = λ e. false≢true (sym none ∙ list_any_at (eq-value.it t) ts i _ small (reflexive t (term_at ts i) (sym e)))
