-- Expressions that break no rule have types, which stand in the program's table.
use Rattle.std.proofs.Common.{◌≡◌, ℕ, Bool, true, false, not, [], Some, refl, ap, sym, subst, ◌∙◌, slice_get}
use Rattle.c_tree.specs.declared.expression.Expression.{Expression, out-Expression}
use Rattle.c_tree.specs.declared.expression.Declarator.TheOpen.{Expression-F as e}
use Rattle.c_kinds.specs.declared.typed.Typed.{Typed}
use Rattle.c_kinds.specs.declared.answer.Answer.{Answer}
use Rattle.c_kinds.specs.declared.answer.Answer.TheVariants.{Gives, Breaks, Nothing}
use Rattle.c_kinds.specs.Layouts.{Layout, flat}
use Rattle.c_kinds.specs.Types.{void, is_rows}
use Rattle.c_kinds.specs.Values.{and_then, unless, part, used, value, converted_value}
use Rattle.c_rules.specs.declared.program.Program.{Program}
use Rattle.c_rules.specs.Accepted.{given_in, type_by}
use Rattle.c_rules.specs.Recursion.{of_expression}
use Rattle.c_rules.specs.Expressions.{has_type, broken_expression, in_expression, own_pairs, judging}
use Rattle.c_rules.specs.Found.{answering, token_of as token_found}
use Rattle.c_rules.specs.Typing.{answer_of}
use Rattle.c_rules.proofs.Clear.{expression_clear}
use Rattle.c_rules.proofs.Empty.{first_empty, second_empty}
use Rattle.c_rules.proofs.Judging.{expression_breaks}
use Rattle.c_rules.proofs.Recursion.{expression_beside, expression_is}
use Rattle.c_rules.proofs.Told.{Tell}
use Rattle.c_rules.proofs.Typed.{answer_beside, typed_part}
use Rattle.c_rules.proofs.Typings.{answer_is}
use Rattle.c_model.specs.Programs.{ExpressionNode, or_else, token_of, type_of}
use Rattle.c_sound.proofs.Tables.{AreTold, first_told, second_told}

-- an expression that is evaluated: it breaks no rule, and the table has its type and those of its parts
pub record IsRight (p : Program) (x : Expression) : Type 0 where
  pub clear : broken_expression (given_in p) x ≡ []
  pub told : AreTold p (of_expression (answering (given_in p)) x false)

-- ---- one layer

-- of its parts; what it breaks itself, but for its type
pub record NodeRight (p : Program) (l : ExpressionNode) : Type 0 where
  pub clear : in_expression (given_in p) (λ x. x.0) (λ x. x.1) (λ x. x.1) (expression_beside (judging (given_in p)) l) false ≡ []
  pub own : own_pairs (given_in p) (λ x. x.0) (expression_beside (judging (given_in p)) l) false ≡ []
  pub told : AreTold p (in_expression (given_in p) (λ x. x.0) (λ x. x.1) (λ x. x.1) (expression_beside (answering (given_in p)) l) false)

pub node_right : (p : Program) (x : Expression) → IsRight p x → NodeRight p (out-Expression x)
node_right p x h =
    let broken = sym (expression_breaks (given_in p) x false) ∙ h.clear in
    record {
      clear = first_empty _ _ (first_empty _ _ broken);
      own = second_empty (in_expression (given_in p) (λ x. x.0) (λ x. x.1) (λ x. x.1) (expression_beside (judging (given_in p)) (out-Expression x)) false) _ (first_empty _ _ broken);
      told = first_told p _ _ (subst (AreTold p) (ap (λ f. f false) (expression_is (answering (given_in p)) x)) h.told);
    }

-- ---- types

token_is : (p : Program) (l : ExpressionNode) → token_found (expression_beside (answering (given_in p)) l) ≡ elim l as (λ _. ℕ) [
  | e.«Expression::Name» name at ↦ at
  | e.Constant kind value at ↦ at
  | e.Text at ↦ at
  | e.Subscript array index at ↦ at
  | e.Call function arguments at ↦ at
  | e.Member object name at ↦ at
  | e.PointedMember pointer name at ↦ at
  | e.Postfix step operand at ↦ at
  | e.Prefix step operand at ↦ at
  | e.Unary operator operand at ↦ at
  | e.SizeofExpression operand at ↦ at
  | e.SizeofType type_name at ↦ at
  | e.Cast type_name operand at ↦ at
  | e.Binary operator left right at ↦ at
  | e.Conditional test first otherwise at ↦ at
  | e.Assign operator target value at ↦ at
  | e.Comma parts at ↦ at
]
token_is p (e.«Expression::Name» name at) = refl
token_is p (e.Constant kind value at) = refl
token_is p (e.Text at) = refl
token_is p (e.Subscript array index at) = refl
token_is p (e.Call function arguments at) = refl
token_is p (e.Member object name at) = refl
token_is p (e.PointedMember pointer name at) = refl
token_is p (e.Postfix step operand at) = refl
token_is p (e.Prefix step operand at) = refl
token_is p (e.Unary operator operand at) = refl
token_is p (e.SizeofExpression operand at) = refl
token_is p (e.SizeofType type_name at) = refl
token_is p (e.Cast type_name operand at) = refl
token_is p (e.Binary operator left right at) = refl
token_is p (e.Conditional test first otherwise at) = refl
token_is p (e.Assign operator target value at) = refl
token_is p (e.Comma parts at) = refl

-- the table has the type of its answer
entry : (p : Program) (x : Expression) → IsRight p x → slice_get p.types.expressions (token_of x) ≡ Some (type_by (answer_of (given_in p) x false))
entry p x h =
    let g = given_in p in
    let beside = expression_beside (answering g) (out-Expression x) in
    let mine = (second_told p (in_expression g (λ x. x.0) (λ x. x.1) (λ x. x.1) beside false) _ (subst (AreTold p) (ap (λ f. f false) (expression_is (answering g) x)) h.told)).each.0 in
    ap (λ n. slice_get p.types.expressions n) (sym (token_is p (out-Expression x))) ∙ mine ∙ ap (λ y. Some (type_by y)) (answer_beside g (answering g) false (out-Expression x) ∙ sym (answer_is g x false))

pub record HasType (p : Program) (x : Expression) : Type 0 where
  pub typed : Typed
  pub answer : answer_of (given_in p) x false ≡ Gives typed
  pub same : type_of p x ≡ typed.ctype

has_answer : (p : Program) (x : Expression) (y : Answer) → answer_of (given_in p) x false ≡ y → has_type y ≡ true → slice_get p.types.expressions (token_of x) ≡ Some (type_by y) → HasType p x
has_answer p x (Gives w) q h t = record { typed = w; answer = q; same = ap (λ m. or_else void (flat m)) t }
has_answer p x (Breaks rule at) q h t = absurd (cc)
has_answer p x Nothing q h t = absurd (cc)

pub has_its_type : (p : Program) → Tell p.names → (x : Expression) → IsRight p x → HasType p x
has_its_type p tells x h = has_answer p x (answer_of (given_in p) x false) refl (typed_part (given_in p) false x (expression_clear (given_in p) tells x false h.clear)) (entry p x h)

-- the one type that an expression has
pub type_is : (p : Program) (x : Expression) → IsRight p x → (w : Typed) → answer_of (given_in p) x false ≡ Gives w → type_of p x ≡ w.ctype
type_is p x h w q = ap (λ m. or_else void (flat m)) (entry p x h ∙ ap (λ y. Some (type_by y)) q)

-- ---- answers that give a type

pub record PartGives (x : Answer) (f : Typed → Answer) (v : Typed) : Type 0 where
  pub operand : Typed
  pub is : x ≡ Gives operand
  pub gives : f operand ≡ Gives v

pub part_gives : (x : Answer) (f : Typed → Answer) (v : Typed) → part x f ≡ Gives v → PartGives x f v
part_gives (Gives w) f v h = record { operand = w; is = refl; gives = h }
part_gives (Breaks rule at) f v h = absurd (cc)
part_gives Nothing f v h = absurd (cc)

pub then_gives : (x : Answer) (f : Typed → Answer) (v : Typed) → and_then x f ≡ Gives v → PartGives x f v
then_gives (Gives w) f v h = record { operand = w; is = refl; gives = h }
then_gives (Breaks rule at) f v h = absurd (cc)
then_gives Nothing f v h = absurd (cc)

pub record UnlessGives (broken : Bool) (x : Answer) (v : Typed) : Type 0 where
  pub holds : broken ≡ false
  pub gives : x ≡ Gives v

pub unless_gives : (broken : Bool) (rule at : ℕ) (x : Answer) (v : Typed) → unless broken rule at x ≡ Gives v → UnlessGives broken x v
unless_gives true rule at x v h = absurd (cc)
unless_gives false rule at x v h = record { holds = refl; gives = h }

-- an operand whose value is used
pub record UsedGives (l : Layout) (x : Answer) (f : Typed → Answer) (v : Typed) : Type 0 where
  pub operand : Typed
  pub is : x ≡ Gives operand
  pub valued : value l operand ≡ Gives (converted_value operand)
  pub no_rows : is_rows operand.ctype ≡ false
  pub gives : f (converted_value operand) ≡ Gives v

pub used_gives : (l : Layout) (x : Answer) (f : Typed → Answer) (v : Typed) → used l x f ≡ Gives v → UsedGives l x f v
used_gives l x f v h =
    let a = part_gives x _ v h in
    let b = then_gives (value l a.operand) f v a.gives in
    let c = unless_gives (is_rows a.operand.ctype) 9 a.operand.named_at _ b.operand b.is in
    let d = unless_gives _ 10 a.operand.named_at (Gives (converted_value a.operand)) b.operand c.gives in
    let same : converted_value a.operand ≡ b.operand = cc in
    record { operand = a.operand; is = a.is; valued = b.is ∙ ap Gives (sym same); no_rows = c.holds; gives = subst (λ w. f w ≡ Gives v) (sym same) b.gives }

-- the value of an operand
pub value_gives : (l : Layout) (w v : Typed) → value l w ≡ Gives v → converted_value w ≡ v
value_gives l w v h =
    let c = unless_gives (is_rows w.ctype) 9 w.named_at _ v h in
    let d = unless_gives _ 10 w.named_at (Gives (converted_value w)) v c.gives in
    let same : converted_value w ≡ v = cc in
    same

pub not_true : (b : Bool) → not b ≡ false → b ≡ true
not_true true h = refl
not_true false h = cc
