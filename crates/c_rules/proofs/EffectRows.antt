-- Each worked example of side effects and of recursion holds by computation.
use Rattle.std.proofs.Common.{◌≡◌, ℕ, List, [], ◌∷◌, refl}
use Rattle.std.specs.List.{flat_map}
use Rattle.c_tree.specs.declared.expression.Expression.TheVariants as tree
use Rattle.c_rules.specs.Sequencing.{reached}
use Rattle.c_rules.specs.WorkedEffects.{WorkedEffects}
use Rattle.c_rules.proofs.Typings.{answer_is}
use Rattle.c_rules.proofs.Views.{effect_is_named}
use Rattle.c_rules.proofs.Judging.{effect_is}

-- the functions that are reached in one step
reached_once : (next : ℕ → List ℕ) (f : ℕ) → reached 1 next f ≡ f ∷ flat_map (λ g. g ∷ []) (next f)
unfolding reached
reached_once next f = refl

reached_twice : (next : ℕ → List ℕ) (f : ℕ) → reached 2 next f ≡ f ∷ flat_map (λ g. g ∷ flat_map (λ h. h ∷ []) (next g)) (next f)
unfolding reached
reached_twice next f = refl

pub worked_effects : WorkedEffects
worked_effects = record {
  read_and_written = simp (effect_is, tree.outs-Binary, tree.outs-Name, tree.outs-Assign, tree.outs-Constant);
  written_after_a_test = simp (effect_is, tree.outs-Binary, tree.outs-Name, tree.outs-Assign, tree.outs-Constant);
  written_after_a_comma = simp (effect_is, tree.outs-Name, tree.outs-Assign, tree.outs-Constant, tree.outs-Comma);
  read_for_its_value = simp (effect_is, tree.outs-Binary, tree.outs-Name, tree.outs-Assign, tree.outs-Constant);
  stepped_and_assigned = simp (effect_is, tree.outs-Name, tree.outs-Assign, tree.outs-Postfix);
  assigned_twice = simp (effect_is, tree.outs-Name, tree.outs-Assign, tree.outs-Constant);
  compound = simp (effect_is, tree.outs-Name, tree.outs-Assign, tree.outs-Constant);
  read_through_a_pointer = simp (effect_is, answer_is, tree.outs-Binary, tree.outs-Name, tree.outs-Assign, tree.outs-Constant, tree.outs-Unary);
  read_elsewhere = simp (effect_is, answer_is, tree.outs-Binary, tree.outs-Name, tree.outs-Assign, tree.outs-Constant, tree.outs-Unary);
  written_in_an_argument = simp (effect_is, effect_is_named, tree.outs-Name, tree.outs-Assign, tree.outs-Constant, tree.outs-Call);
  read_in_an_argument = simp (effect_is, effect_is_named, tree.outs-Name, tree.outs-Constant, tree.outs-Call);
  written_by_a_call = simp (effect_is, effect_is_named, reached_once, tree.outs-Binary, tree.outs-Name, tree.outs-Constant, tree.outs-Call);
  written_elsewhere = simp (effect_is, effect_is_named, reached_once, tree.outs-Binary, tree.outs-Name, tree.outs-Constant, tree.outs-Call);
  calls_itself = simp (reached_once);
  call_each_other = simp (reached_twice);
  calls_another = simp (reached_twice);
}
