-- Each worked example of initialisers and full expressions holds by computation.
use Rattle.c_tree.specs.declared.expression.Expression.TheVariants as tree
use Rattle.c_tree.specs.declared.declaration.Initialiser.TheVariants as initialiser
use Rattle.c_rules.specs.WorkedInitialisers.{WorkedInitialisers}
use Rattle.c_rules.proofs.Typings.{answer_is}
use Rattle.c_rules.proofs.Views.{name_is_called, name_is_no_part, call_is_named, text_is_text, constant_is_no_text, name_is_no_text, binary_is_no_text, call_is_no_text}
use Rattle.c_rules.proofs.Judging.{initialiser_breaks, expression_breaks}

pub worked_initialisers : WorkedInitialisers
worked_initialisers = record {
  all_elements = simp (initialiser_breaks, expression_breaks, answer_is, constant_is_no_text, initialiser.outs-Value, initialiser.outs-Braces, tree.outs-Constant);
  too_many_elements = simp (initialiser_breaks, expression_breaks, answer_is, constant_is_no_text, initialiser.outs-Value, initialiser.outs-Braces, tree.outs-Constant);
  value_for_an_array = simp (initialiser_breaks, expression_breaks, answer_is, constant_is_no_text, initialiser.outs-Value, tree.outs-Constant);
  string_for_an_array = simp (initialiser_breaks, expression_breaks, answer_is, text_is_text, initialiser.outs-Value);
  braces_for_an_int = simp (initialiser_breaks, expression_breaks, answer_is, constant_is_no_text, initialiser.outs-Value, initialiser.outs-Braces, tree.outs-Constant);
  rows_in_braces = simp (initialiser_breaks, expression_breaks, answer_is, constant_is_no_text, initialiser.outs-Value, initialiser.outs-Braces, tree.outs-Constant);
  rows_without_braces = simp (initialiser_breaks, expression_breaks, answer_is, constant_is_no_text, initialiser.outs-Value, initialiser.outs-Braces, tree.outs-Constant);
  variable = simp (initialiser_breaks, expression_breaks, answer_is, name_is_no_text, initialiser.outs-Value, tree.outs-Name);
  static_variable = simp (initialiser_breaks, expression_breaks, answer_is, name_is_no_text, initialiser.outs-Value, tree.outs-Name);
  static_constant = simp (initialiser_breaks, expression_breaks, answer_is, constant_is_no_text, initialiser.outs-Value, tree.outs-Constant);
  static_without_a_value = simp (initialiser_breaks, expression_breaks, answer_is, binary_is_no_text, initialiser.outs-Value, tree.outs-Constant, tree.outs-Binary);
  pointer_for_an_int = simp (initialiser_breaks, expression_breaks, answer_is, name_is_no_text, initialiser.outs-Value, tree.outs-Name);
  pointer = simp (initialiser_breaks, expression_breaks, answer_is, name_is_no_text, initialiser.outs-Value, tree.outs-Name);
  null_pointer = simp (initialiser_breaks, expression_breaks, answer_is, constant_is_no_text, initialiser.outs-Value, tree.outs-Constant);
  int_for_a_pointer = simp (initialiser_breaks, expression_breaks, answer_is, constant_is_no_text, initialiser.outs-Value, tree.outs-Constant);
  void_for_an_int = simp (initialiser_breaks, expression_breaks, answer_is, name_is_called, name_is_no_part, call_is_named, text_is_text, call_is_no_text, initialiser.outs-Value, tree.outs-Name, tree.outs-Call, tree.outs-Text);
  undeclared = simp (initialiser_breaks, expression_breaks, answer_is, name_is_no_text, initialiser.outs-Value, tree.outs-Name);
  pointer_assigned = simp (expression_breaks, answer_is, tree.outs-Name, tree.outs-Assign);
  null_assigned = simp (expression_breaks, answer_is, tree.outs-Name, tree.outs-Constant, tree.outs-Assign);
  number_assigned = simp (expression_breaks, answer_is, tree.outs-Name, tree.outs-Constant, tree.outs-Assign);
  string_alone = simp (expression_breaks, tree.outs-Text);
  string_of_assert_fail = simp (expression_breaks, answer_is, name_is_called, name_is_no_part, call_is_named, text_is_text, tree.outs-Name, tree.outs-Call, tree.outs-Text);
  arms_of_void = simp (answer_is, name_is_called, text_is_text, tree.outs-Name, tree.outs-Constant, tree.outs-Call, tree.outs-Text, tree.outs-Conditional, tree.outs-Cast);
}
