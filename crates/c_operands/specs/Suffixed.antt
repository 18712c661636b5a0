-- An operand with one suffix.
use Rattle.std.specs.Prelude.{ℕ, List}
use Rattle.c_tokens.specs.declared.token.TokenKind.{TokenKind}
use Rattle.c_tree.specs.declared.expression.Expression.{Expression}
use Rattle.c_tree.specs.declared.expression.Expression.TheVariants as tree
use Rattle.c_tree.specs.Places.{Place, next}
use Rattle.c_grammar.specs.declared.kinds.Suffix.{Suffix}
use Rattle.c_grammar.specs.Marks.{mark_at}
use Rattle.c_grammar.specs.ReadExpressions.{Outcome, Gives, and_then, where_closes, Continues, items, suffix_taken}
use Rattle.c_grammar.specs.Readers.{read}

-- an operand with this suffix, and nothing after it
abbrev pub stop : Continues
stop reached least x q = Gives x q

abbrev pub suffixed : List TokenKind → ℕ → Expression → Place → Suffix → Outcome Expression
suffixed kinds n x p s = suffix_taken kinds (read kinds n) (items kinds (read kinds n) n) stop 0 x p s

-- the arguments of a call, whose `(` stands at this number, and the `)` after them
abbrev pub call_with : List TokenKind → ℕ → Expression → ℕ → Place → Outcome Expression
call_with kinds n x at p = and_then (items kinds (read kinds n) n p) (λ xs r. where_closes (mark_at kinds r) (Gives (tree.Call x xs at) (next r)))
