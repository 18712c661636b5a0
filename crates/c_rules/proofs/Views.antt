-- What is asked of the form of an expression.
use Rattle.std.proofs.Common.{◌≡◌, ℕ, ℤ, Bool, true, false, List, [], ◌++◌, ap}
use Rattle.kv_num.specs.declared.types.IntType.{IntType}
use Rattle.c_tree.specs.declared.expression.BaseWord.{BaseWord}
use Rattle.c_tree.specs.declared.expression.BinaryOperator.{BinaryOperator}
use Rattle.c_tree.specs.declared.expression.Expression.{Expression}
use Rattle.c_tree.specs.declared.expression.Specifier.TheVariants as specifier
use Rattle.c_tree.specs.declared.expression.Expression.TheVariants as tree
use Rattle.c_tree.specs.declared.expression.Declarator.TheOpen.{Expression-F as e, Specifier-F as s}
use Rattle.c_kinds.specs.declared.answer.Answer.{Answer}
use Rattle.c_kinds.specs.declared.answer.Answer.TheVariants.{Breaks}
use Rattle.c_kinds.specs.Values.{part}
use Rattle.c_rules.specs.declared.names.Names.{Names}
use Rattle.c_rules.specs.declared.names.Pair.{Pair}
use Rattle.c_rules.specs.Calls.{call_pairs}
use Rattle.c_rules.specs.Effects.{Effect, doing, joined, also, all_accesses, arguments_asked, named_call_effect, call_effect}
use Rattle.c_rules.specs.Expressions.{in_arguments, in_call, named_call_pairs}
use Rattle.c_rules.specs.Specifiers.{specifier_at}
use Rattle.c_rules.specs.Typing.{Given, layout_of, is_assert_fail, meaning_at, is_text, names_function, is_function_meaning, named_call, call_answer}

pub name_of_function : (names : Names) (text : List ℕ) (at : ℕ) → names_function names (tree.Name text at) ≡ is_function_meaning (meaning_at names at)
name_of_function names text at =
    ap (λ l. elim l as (λ _. Bool) [ e.«Expression::Name» name a ↦ is_function_meaning (meaning_at names a) | _ ↦ false ]) (tree.outs-Name text at)

pub name_is_called : (g : Given) (u : Bool) (text : List ℕ) (name : ℕ) (found : Answer) (arguments : Bool → Answer → Answer) (at : ℕ)
    → call_answer g u (tree.Name text name) found arguments at ≡ named_call g u arguments name at (meaning_at g.names name)
name_is_called g u text name found arguments at =
    ap (λ l. elim l as (λ _. Answer) [ e.«Expression::Name» t n ↦ named_call g u arguments n at (meaning_at g.names n) | _ ↦ part found (λ _. Breaks 12 at) ]) (tree.outs-Name text name)

pub text_is_text : (at : ℕ) → is_text (tree.Text at) ≡ true
text_is_text at = ap (λ l. elim l as (λ _. Bool) [ e.Text a ↦ true | _ ↦ false ]) (tree.outs-Text at)

module _ {X : Type 0} (g : Given) (u : Bool) where
  pub name_is_no_part : (text : List ℕ) (name : ℕ) (found : Bool → List X) (xs : List (Expression × (Bool → List X)))
      → in_call g (λ x. x.0) (λ x. x.1) (tree.Name text name, found) xs u ≡ in_arguments (λ x. x.0) (λ x. x.1) (is_assert_fail g.names (meaning_at g.names name)) u xs
  name_is_no_part text name found xs =
      ap (λ l. elim l as (λ _. List X) [
        | e.«Expression::Name» t n ↦ in_arguments {E = Expression × (Bool → List X)} (λ x. x.0) (λ x. x.1) (is_assert_fail g.names (meaning_at g.names n)) u xs
        | _ ↦ found u ++ in_arguments {E = Expression × (Bool → List X)} (λ x. x.0) (λ x. x.1) false u xs
      ]) (tree.outs-Name text name)

pub call_is_named : (g : Given) (text : List ℕ) (name : ℕ) (xs : List Answer) → named_call_pairs g (tree.Name text name) xs ≡ call_pairs (layout_of g) g.names name (meaning_at g.names name) xs
call_is_named g text name xs =
    ap (λ l. elim l as (λ _. List Pair) [ e.«Expression::Name» t n ↦ call_pairs (layout_of g) g.names n (meaning_at g.names n) xs | _ ↦ [] ]) (tree.outs-Name text name)

pub effect_is_named : (g : Given) (u : Bool) (text : List ℕ) (name : ℕ) (found : Bool → Effect) (xs : List (Expression × (Bool → Effect)))
    → call_effect g (λ x. x.1 u) (λ x. x.0) (tree.Name text name, found) xs ≡ named_call_effect g (λ (x : Expression × (Bool → Effect)). x.1 u) name xs (meaning_at g.names name)
effect_is_named g u text name found xs =
    ap (λ l. elim l as (λ _. Effect) [
      | e.«Expression::Name» t n ↦ named_call_effect g (λ (x : Expression × (Bool → Effect)). x.1 u) n xs (meaning_at g.names n)
      | _ ↦ doing (joined (all_accesses (λ (x : Expression × (Bool → Effect)). x.1 u) xs)) [] (also (found u).asked (arguments_asked (λ (x : Expression × (Bool → Effect)). x.1 u) xs))
    ]) (tree.outs-Name text name)

pub word_stands : (which : BaseWord) (at : ℕ) → specifier_at (specifier.Base which at) ≡ at
word_stands which at = ap (λ l. elim l as (λ _. ℕ) [
  | s.Storage w a ↦ a
  | s.«Specifier::Function» w a ↦ a
  | s.Qualified q a ↦ a
  | s.Base w a ↦ a
  | s.TypeWord k a ↦ a
  | s.Struct tag lines a ↦ a
  | s.StructTag tag a ↦ a
  | s.Enum tag constants a ↦ a
  | s.EnumTag tag a ↦ a
  | s.TypedefName name a ↦ a
]) (specifier.outs-Base which at)

pub constant_is_no_text : (kind : IntType) (n : ℤ) (at : ℕ) → is_text (tree.Constant kind n at) ≡ false
constant_is_no_text kind n at = ap (λ l. elim l as (λ _. Bool) [ e.Text a ↦ true | _ ↦ false ]) (tree.outs-Constant kind n at)

pub name_is_no_text : (text : List ℕ) (at : ℕ) → is_text (tree.Name text at) ≡ false
name_is_no_text text at = ap (λ l. elim l as (λ _. Bool) [ e.Text a ↦ true | _ ↦ false ]) (tree.outs-Name text at)

pub binary_is_no_text : (operator : BinaryOperator) (x y : Expression) (at : ℕ) → is_text (tree.Binary operator x y at) ≡ false
binary_is_no_text operator x y at = ap (λ l. elim l as (λ _. Bool) [ e.Text a ↦ true | _ ↦ false ]) (tree.outs-Binary operator x y at)

pub call_is_no_text : (x : Expression) (xs : List Expression) (at : ℕ) → is_text (tree.Call x xs at) ≡ false
call_is_no_text x xs at = ap (λ l. elim l as (λ _. Bool) [ e.Text a ↦ true | _ ↦ false ]) (tree.outs-Call x xs at)
