-- Each worked example of statements holds by computation.
use Rattle.c_tree.specs.declared.expression.Expression.TheVariants as tree
use Rattle.c_tree.specs.declared.expression.Specifier.TheVariants as specifier
use Rattle.c_tree.specs.declared.statement.Statement.TheVariants as statement
use Rattle.c_tree.specs.declared.statement.BlockItem.TheVariants as item
use Rattle.c_rules.specs.WorkedStatements.{WorkedStatements}
use Rattle.c_rules.proofs.Typings.{answer_is}
use Rattle.c_rules.proofs.Views.{name_is_called, name_is_no_part, call_is_named, text_is_text, word_stands}
use Rattle.c_rules.proofs.Labelling.{labels_of_item, labels_of_statement}
use Rattle.c_rules.proofs.Judging.{expression_breaks, specifier_breaks, item_breaks, item_labels, statement_breaks, statement_labels, statement_inside, branch_breaks}

pub worked_statements : WorkedStatements
worked_statements = record {
  break_outside = simp (item_breaks, statement_breaks, statement.outs-Break, item.outs-Run);
  break_in_a_loop = simp (item_breaks, statement_breaks, statement.outs-Break, statement.outs-While, item.outs-Run, expression_breaks, answer_is, tree.outs-Constant);
  continue_in_a_switch = simp (item_breaks, statement_breaks, statement_inside, statement.outs-Continue, statement.outs-Switch, item.outs-Run, expression_breaks, answer_is, tree.outs-Constant);
  break_in_a_switch = simp (item_breaks, statement_breaks, statement_inside, statement.outs-Break, statement.outs-Switch, item.outs-Run, expression_breaks, answer_is, tree.outs-Constant);
  case_outside = simp (item_breaks, statement_breaks, statement.outs-Case, statement.outs-Empty, item.outs-Run, expression_breaks, answer_is, tree.outs-Constant);
  cases = simp (item_breaks, item_labels, statement_breaks, statement_labels, statement_inside, statement.outs-Switch, statement.outs-Case, statement.outs-Empty, statement.outs-Block, item.outs-Run, expression_breaks, answer_is, tree.outs-Constant);
  case_twice = simp (item_breaks, item_labels, statement_breaks, statement_labels, statement_inside, statement.outs-Switch, statement.outs-Case, statement.outs-Empty, statement.outs-Block, item.outs-Run, expression_breaks, answer_is, tree.outs-Constant);
  case_twice_as_an_int = simp (item_breaks, item_labels, statement_breaks, statement_labels, statement_inside, statement.outs-Switch, statement.outs-Case, statement.outs-Empty, statement.outs-Block, item.outs-Run, expression_breaks, answer_is, tree.outs-Constant);
  case_value = simp (labels_of_item, labels_of_statement, statement.outs-Switch, statement.outs-Case, statement.outs-Empty, statement.outs-Block, item.outs-Run, answer_is, tree.outs-Constant);
  default_twice = simp (item_breaks, item_labels, statement_breaks, statement_labels, statement_inside, statement.outs-Switch, statement.outs-Default, statement.outs-Empty, statement.outs-Block, item.outs-Run, expression_breaks, answer_is, tree.outs-Constant);
  case_without_a_value = simp (item_breaks, item_labels, statement_breaks, statement_labels, statement_inside, statement.outs-Switch, statement.outs-Case, statement.outs-Empty, statement.outs-Block, item.outs-Run, expression_breaks, answer_is, tree.outs-Constant, tree.outs-Binary);
  case_that_varies = simp (item_breaks, item_labels, statement_breaks, statement_labels, statement_inside, statement.outs-Switch, statement.outs-Case, statement.outs-Empty, statement.outs-Block, item.outs-Run, expression_breaks, answer_is, tree.outs-Name, tree.outs-Constant);
  declared_in_a_switch = simp (item_breaks, item_labels, statement_breaks, statement_labels, statement_inside, statement.outs-Switch, statement.outs-Empty, statement.outs-Block, item.outs-Run, item.outs-Declared, expression_breaks, answer_is, specifier_breaks, word_stands, tree.outs-Constant, specifier.outs-Base);
  declared_in_a_block = simp (item_breaks, item_labels, statement_breaks, statement_labels, statement_inside, statement.outs-Switch, statement.outs-Empty, statement.outs-Block, item.outs-Run, item.outs-Declared, expression_breaks, answer_is, specifier_breaks, tree.outs-Constant, specifier.outs-Base);
  nothing_returned = simp (item_breaks, statement_breaks, statement.outs-Return, item.outs-Run);
  int_returned = simp (item_breaks, statement_breaks, statement.outs-Return, item.outs-Run, expression_breaks, answer_is, tree.outs-Constant);
  int_returned_from_void = simp (item_breaks, statement_breaks, statement.outs-Return, item.outs-Run, expression_breaks, answer_is, tree.outs-Constant);
  nothing_returned_from_void = simp (item_breaks, statement_breaks, statement.outs-Return, item.outs-Run);
  pointer_returned = simp (item_breaks, statement_breaks, statement.outs-Return, item.outs-Run, expression_breaks, answer_is, tree.outs-Name);
  void_as_a_test = simp (item_breaks, statement_breaks, branch_breaks, statement.outs-Empty, statement.outs-If, item.outs-Run, expression_breaks, answer_is, name_is_called, name_is_no_part, call_is_named, text_is_text, tree.outs-Name, tree.outs-Call, tree.outs-Text);
  pointer_as_a_test = simp (item_breaks, statement_breaks, branch_breaks, statement.outs-Empty, statement.outs-If, item.outs-Run, expression_breaks, answer_is, tree.outs-Name);
  pointer_is_switched = simp (item_breaks, statement_breaks, statement_inside, statement.outs-Switch, statement.outs-Empty, item.outs-Run, expression_breaks, answer_is, tree.outs-Name);
  undeclared_test = simp (item_breaks, statement_breaks, statement.outs-While, statement.outs-Empty, item.outs-Run, expression_breaks, answer_is, tree.outs-Name);
}
