-- Chains of `if` (6.8.4.1), as the functions that read them divide them.
use Rattle.std.specs.Prelude.{ℕ, zero, suc, List, length}
use Rattle.c_tokens.specs.declared.token.TokenKind.{TokenKind}
use Rattle.c_tree.specs.declared.statement.Statement.{Statement}
use Rattle.c_tree.specs.declared.statement.Statement.TheVariants as statement_node
use Rattle.c_tree.specs.declared.statement.Branch.{Branch}
use Rattle.c_tree.specs.Places.{Place, enter, leave, next}
use Rattle.c_grammar.specs.ReadExpressions.{Outcome, Gives, and_then, ReadsExpression}
use Rattle.c_grammar.specs.ReadStatements.{ReadsStatement, test}

-- `if (test) body`, whose blocks are still open
abbrev pub branch : List TokenKind → ReadsExpression → ReadsStatement → Place → Outcome Branch
branch kinds rd st p = and_then (test kinds rd (enter (next p))) (λ x q. and_then (st (enter q)) (λ body r. Gives (record { test = x; body = body; at = p.at }) r))

-- two blocks end, this many times
abbrev pub leaves : ℕ → Place → Place
leaves zero p = p
leaves (suc n) p = leaves n (leave (leave p))

-- after a last `else`, with the branches before it, whose blocks are still open
abbrev pub last_else : ReadsStatement → List Branch → Place → Outcome Statement
last_else st branches p = and_then (st p) (λ x q. Gives (statement_node.IfElse branches x) (leaves (length branches) q))
