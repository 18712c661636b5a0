-- The parts of loops.
use Rattle.std.specs.Prelude.{ℕ, List, [], Option}
use Rattle.c_tokens.specs.declared.token.TokenKind.{TokenKind}
use Rattle.c_tree.specs.declared.expression.Expression.{Expression}
use Rattle.c_tree.specs.declared.statement.Statement.{Statement}
use Rattle.c_tree.specs.declared.statement.Statement.TheVariants as statement_node
use Rattle.c_tree.specs.declared.statement.ForStart.{ForStart}
use Rattle.c_tree.specs.Places.{Place, enter, leave, next}
use Rattle.c_grammar.specs.Marks.{mark_at}
use Rattle.c_grammar.specs.ReadExpressions.{Outcome, Gives, and_then}
use Rattle.c_grammar.specs.ReadTypes.{where_closes}
use Rattle.c_grammar.specs.ReadStatements.{ReadsStatement}

-- a place with this number
abbrev pub at_number : ℕ → Place
at_number at = record { at = at; blocks = [] }

-- after the step of a `for`, whose place is p
abbrev pub for_body : List TokenKind → ReadsStatement → Place → ForStart → Option Expression → Option Expression → Place → Outcome Statement
for_body kinds st p first x y s =
    where_closes (mark_at kinds s) (and_then (st (enter (next s))) (λ body t. Gives (statement_node.For first x y body p.at) (leave (leave t))))
