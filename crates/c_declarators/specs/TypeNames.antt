-- The arrays of type names and declarators (6.7.6.2), as the functions that read them divide them.
use Rattle.std.specs.Prelude.{ℕ, List}
use Rattle.c_tokens.specs.declared.token.TokenKind.{TokenKind}
use Rattle.c_tree.specs.declared.expression.Expression.{Expression}
use Rattle.c_tree.specs.declared.expression.Declarator.{Declarator}
use Rattle.c_tree.specs.declared.expression.Declarator.TheVariants as declarator_node
use Rattle.c_tree.specs.Places.{Place, next}
use Rattle.c_grammar.specs.Marks.{mark_at}
use Rattle.c_grammar.specs.ReadExpressions.{Outcome, Gives, and_then}
use Rattle.c_grammar.specs.ReadTypes.{where_square_closes}
use Rattle.c_grammar.specs.Readers.{read}

-- the size of an array, and the `]` after it
abbrev pub closed_size : List TokenKind → ℕ → Place → Outcome Expression
closed_size kinds n p = and_then (read kinds n 2 p) (λ size r. where_square_closes (mark_at kinds r) (Gives size (next r)))

-- one array after this, from its `[` on
abbrev pub array_read : List TokenKind → ℕ → Declarator → Place → Outcome Declarator
array_read kinds n inner p = and_then (closed_size kinds n (next p)) (λ size r. Gives (declarator_node.Array inner size p.at) r)
