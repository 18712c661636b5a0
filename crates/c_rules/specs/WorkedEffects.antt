-- Worked examples: unsequenced side effects and recursion, each beside an expression or a call that breaks no rule.
use Rattle.std.specs.Prelude.{◌≡◌, ℕ, false, List, [], ◌∷◌, Some, None}
use Rattle.std.specs.List.{flat_map}
use Rattle.c_tree.specs.declared.expression.AssignOperator.TheVariants as assign
use Rattle.c_tree.specs.declared.expression.BinaryOperator.TheVariants as binary
use Rattle.c_tree.specs.declared.expression.Step.TheVariants as steps
use Rattle.c_tree.specs.declared.expression.UnaryOperator.TheVariants as unary
use Rattle.c_tree.specs.declared.expression.Expression.{Expression}
use Rattle.c_tree.specs.declared.expression.Expression.TheVariants as tree
use Rattle.c_rules.specs.declared.names.Pair.{Pair}
use Rattle.c_rules.specs.Broken.{pair}
use Rattle.c_rules.specs.Recursion.{of_expression}
use Rattle.c_rules.specs.Typing.{Given}
use Rattle.c_rules.specs.Effects.{Pointed, Access, Writes, Called, nothing_asked, tracing}
use Rattle.c_rules.specs.Sequencing.{DoneIn, Text, answered, leads_back}
use Rattle.c_rules.specs.Worked.{means, the_object, f_meant, x_at, number_at}

-- what a text does: a function with these accesses and calls
abbrev pub doing_in : ℕ → List Access → List Called → DoneIn
doing_in f accesses calls = record { function = Some f; done = record { asked = record nothing_asked { calls = calls }; accesses = accesses } }

-- where pointers may lead to these objects
abbrev pub text_with : Given → List DoneIn → List ℕ → Text
text_with g done taken = record { names = g.names; done = done; taken = taken }

-- what an expression in such a text breaks
abbrev pub unsequenced : Given → List DoneIn → List ℕ → Expression → List Pair
unsequenced g done taken x = flat_map (answered (text_with g done taken)) (of_expression (tracing g) x false).asked.questions

-- x at the tokens 0 and 2
abbrev pub both_x : Given
both_x = means (the_object 0) None (the_object 0)

-- `x = 1` with x at token 2 and the `=` at 3
abbrev pub assigns_x : Expression
assigns_x = tree.Assign assign.Plain (x_at 2) (number_at 1 4) 3

abbrev pub call_of : ℕ → ℕ → Called
call_of f at = record { callee = f; at = at }

pub record WorkedEffects : Type 0 where
  -- `x + (x = 1)`, `x && (x = 1)`, `(x, x = 1)`
  pub read_and_written : unsequenced both_x [] [] (tree.Binary binary.Add (x_at 0) assigns_x 1) ≡ pair 1 17 ∷ []
  pub written_after_a_test : unsequenced both_x [] [] (tree.Binary binary.LogicalAnd (x_at 0) assigns_x 1) ≡ []
  pub written_after_a_comma : unsequenced both_x [] [] (tree.Comma (x_at 0 ∷ assigns_x ∷ []) 1) ≡ []
  -- `x = x + 1`, `x = x++`, `x = (x = 1)`, `x += 1`
  pub read_for_its_value : unsequenced both_x [] [] (tree.Assign assign.Plain (x_at 0) (tree.Binary binary.Add (x_at 2) (number_at 1 4) 3) 1) ≡ []
  pub stepped_and_assigned : unsequenced both_x [] [] (tree.Assign assign.Plain (x_at 0) (tree.Postfix steps.Increment (x_at 2) 3) 1) ≡ pair 1 17 ∷ []
  pub assigned_twice : unsequenced both_x [] [] (tree.Assign assign.Plain (x_at 0) assigns_x 1) ≡ pair 1 17 ∷ []
  pub compound : unsequenced both_x [] [] (tree.Assign assign.Add (x_at 0) (number_at 1 2) 1) ≡ []
  -- `*p + (x = 1)` where some `&x` stands in the text, and where none does
  pub read_through_a_pointer : unsequenced (means (the_object 1) None (the_object 0)) [] (0 ∷ []) (tree.Binary binary.Add (tree.Unary unary.Indirection (x_at 0) 9) assigns_x 1) ≡ pair 1 17 ∷ []
  pub read_elsewhere : unsequenced (means (the_object 1) None (the_object 0)) [] [] (tree.Binary binary.Add (tree.Unary unary.Indirection (x_at 0) 9) assigns_x 1) ≡ []
  -- `f(x, x = 1)`, `f(x, 1)`
  pub written_in_an_argument : unsequenced (means f_meant None (the_object 0)) [] [] (tree.Call (x_at 0) (x_at 2 ∷ assigns_x ∷ []) 1) ≡ pair 0 17 ∷ []
  pub read_in_an_argument : unsequenced (means f_meant None (the_object 0)) [] [] (tree.Call (x_at 0) (x_at 2 ∷ number_at 1 4 ∷ []) 1) ≡ []
  -- `x + f(1)` where f writes through a pointer, and some `&x` stands in the text; where none does
  pub written_by_a_call : unsequenced (means (the_object 0) None f_meant) (doing_in 0 (Writes Pointed ∷ []) [] ∷ []) (0 ∷ []) (tree.Binary binary.Add (x_at 0) (tree.Call (x_at 2) (number_at 1 4 ∷ []) 3) 1) ≡ pair 1 17 ∷ []
  pub written_elsewhere : unsequenced (means (the_object 0) None f_meant) (doing_in 0 (Writes Pointed ∷ []) [] ∷ []) [] (tree.Binary binary.Add (x_at 0) (tree.Call (x_at 2) (number_at 1 4 ∷ []) 3) 1) ≡ []
  -- a function that calls itself, two that call each other, and one that calls another
  pub calls_itself : leads_back (text_with both_x (doing_in 0 [] (call_of 0 5 ∷ []) ∷ []) []) (Some 0) (call_of 0 5) ≡ pair 5 6 ∷ []
  pub call_each_other : leads_back (text_with both_x (doing_in 0 [] (call_of 1 5 ∷ []) ∷ doing_in 1 [] (call_of 0 9 ∷ []) ∷ []) []) (Some 0) (call_of 1 5) ≡ pair 5 6 ∷ []
  pub calls_another : leads_back (text_with both_x (doing_in 0 [] (call_of 1 5 ∷ []) ∷ doing_in 1 [] [] ∷ []) []) (Some 0) (call_of 1 5) ≡ []
