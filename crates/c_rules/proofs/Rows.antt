-- Each worked example holds by computation.
use Rattle.c_tree.specs.declared.expression.Expression.TheVariants as tree
use Rattle.c_rules.specs.Worked.{WorkedAnswers}
use Rattle.c_rules.proofs.Typings.{answer_is}
use Rattle.c_rules.proofs.Views.{name_of_function, name_is_called, text_is_text}

pub worked_answers : WorkedAnswers
worked_answers = record {
  assignment = simp (answer_is, tree.outs-Assign, tree.outs-Name, tree.outs-Constant);
  assignment_of_rows = simp (answer_is, tree.outs-Assign, tree.outs-Name);
  undeclared = simp (answer_is, tree.outs-Name);
  undeclared_part = simp (answer_is, tree.outs-Binary, tree.outs-Name);
  undefined = simp (answer_is, tree.outs-Name);
  size_of_undefined = simp (answer_is, name_of_function, tree.outs-SizeofExpression, tree.outs-Name);
  function_as_a_value = simp (answer_is, tree.outs-Name);
  size_of_a_function = simp (answer_is, name_of_function, tree.outs-SizeofExpression);
  call = simp (answer_is, name_is_called, tree.outs-Call, tree.outs-Name);
  call_of_undeclared = simp (answer_is, name_is_called, tree.outs-Call, tree.outs-Name);
  call_of_an_object = simp (answer_is, name_is_called, tree.outs-Call, tree.outs-Name, tree.outs-Constant);
  object_on_undeclared = simp (answer_is, name_is_called, tree.outs-Call, tree.outs-Name);
  string_argument = simp (answer_is, name_is_called, text_is_text, tree.outs-Call, tree.outs-Name, tree.outs-Text);
  string = simp (answer_is, tree.outs-Text);
  member_of_incomplete = simp (answer_is, tree.outs-PointedMember, tree.outs-Name);
  pointer_to_incomplete = simp (answer_is, tree.outs-Binary, tree.outs-Name, tree.outs-Constant);
  choice_of_undeclared = simp (answer_is, tree.outs-Conditional, tree.outs-Name, tree.outs-Constant);
  sequence = simp (answer_is, tree.outs-Comma, tree.outs-Name, tree.outs-Constant);
}
