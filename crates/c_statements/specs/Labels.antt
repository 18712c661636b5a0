-- Labels.
use Rattle.std.specs.Prelude.{ℕ, List}
use Rattle.c_tokens.specs.declared.token.TokenKind.{TokenKind}
use Rattle.c_tree.specs.declared.statement.Statement.{Statement}
use Rattle.c_tree.specs.declared.statement.Statement.TheVariants as statement_node
use Rattle.c_tree.specs.Places.{Place, next}
use Rattle.c_grammar.specs.ReadExpressions.{Outcome, Gives, and_then}
use Rattle.c_grammar.specs.ReadStatements.{ReadsStatement, labelled}

-- after a label's name
abbrev pub label_statement : List TokenKind → ReadsStatement → Place → List ℕ → Outcome Statement
label_statement kinds st p text = and_then (labelled kinds st (next (next p))) (λ body q. Gives (statement_node.Label text body p.at) q)
