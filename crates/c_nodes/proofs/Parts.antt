-- Parts of expressions whose values are used: what goes on with them follows from what they are.
use Rattle.std.proofs.Common.{◌≡◌, ℕ, ap, sym, refl, ◌∙◌}
use Rattle.c_kinds.specs.declared.typed.Typed.{Typed}
use Rattle.c_kinds.specs.declared.answer.Answer.{Answer}
use Rattle.c_kinds.specs.declared.answer.Answer.TheVariants.{Gives, Breaks, Nothing}
use Rattle.c_kinds.specs.Layouts.{Layout}
use Rattle.c_tree.specs.declared.expression.UnaryOperator.{UnaryOperator}
use Rattle.c_tree.specs.declared.expression.UnaryOperator.TheVariants as unary
use Rattle.c_kinds.specs.Operands.{unary_answer}
use Rattle.c_rules.specs.Typing.{unary_node}
use Rattle.c_kinds.specs.Values.{and_then, used, value}

then_is : (v : Answer) (f : Typed → Answer) → and_then v f ≡ and_then (and_then v (λ x. Gives x)) f
then_is (Gives x) f = refl
then_is (Breaks rule at) f = refl
then_is Nothing f = refl

pub used_then : (l : Layout) (p : Answer) (f : Typed → Answer) → used l p f ≡ and_then (used l p (λ v. Gives v)) f
used_then l (Gives x) f = then_is (value l x) f
used_then l (Breaks rule at) f = refl
used_then l Nothing f = refl

pub used_gives : (l : Layout) (p : Answer) (f : Typed → Answer) (v : Typed) → Gives v ≡ used l p (λ x. Gives x) → used l p f ≡ f v
used_gives l p f v h = used_then l p f ∙ sym (ap (λ a. and_then a f) h)

pub used_breaks : (l : Layout) (p : Answer) (f : Typed → Answer) (rule at : ℕ) → Breaks rule at ≡ used l p (λ x. Gives x) → used l p f ≡ Breaks rule at
used_breaks l p f rule at h = used_then l p f ∙ sym (ap (λ a. and_then a f) h)

pub used_nothing : (l : Layout) (p : Answer) (f : Typed → Answer) → Nothing ≡ used l p (λ x. Gives x) → used l p f ≡ Nothing
used_nothing l p f h = used_then l p f ∙ sym (ap (λ a. and_then a f) h)

-- an operator but `&` takes a value
pub node_of_value : (l : Layout) (operator : UnaryOperator) (at : ℕ) (x : Answer) → (operator ≡ unary.Address → ⊥)
    → used l x (λ v. unary_answer l operator at v) ≡ unary_node l operator at x
node_of_value l unary.Address at x other = absurd (other refl)
node_of_value l unary.Indirection at x other = refl
node_of_value l unary.Plus at x other = refl
node_of_value l unary.Minus at x other = refl
node_of_value l unary.Complement at x other = refl
node_of_value l unary.Not at x other = refl
