-- What an expression begins with, part by part.
use Rattle.std.specs.Prelude.{ℕ, Bool, false, List}
use Rattle.c_tokens.specs.declared.token.TokenKind.{TokenKind}
use Rattle.c_tree.specs.declared.expression.Expression.{Expression}
use Rattle.c_tree.specs.declared.expression.Expression.TheVariants as tree
use Rattle.c_tree.specs.declared.expression.TypeName.{TypeName}
use Rattle.c_tree.specs.Places.{Place, next}
use Rattle.c_grammar.specs.Marks.{mark_at}
use Rattle.c_grammar.specs.Kinds.{kind_at, Prefix, Opens, prefix, begins_type}
use Rattle.c_grammar.specs.ReadExpressions.{Outcome, Gives, and_then, where_closes, prefix_taken}
use Rattle.c_grammar.specs.Readers.{read, more, types}

-- an expression that begins with this token
abbrev pub operand : List TokenKind → ℕ → ℕ → Place → Prefix → Outcome Expression
operand kinds n least p s = prefix_taken kinds (read kinds n) (types kinds n) (more kinds n) least p s

-- an expression, and the `)` after it
abbrev pub closed_expression : List TokenKind → ℕ → Place → Outcome Expression
closed_expression kinds n p = and_then (read kinds n 0 p) (λ x q. where_closes (mark_at kinds q) (Gives x (next q)))

-- a type name, and the `)` after it
abbrev pub closed_type : List TokenKind → ℕ → Place → Outcome TypeName
closed_type kinds n p = and_then (types kinds n p) (λ t q. where_closes (mark_at kinds q) (Gives t (next q)))

-- after the `(` of an expression in round brackets
abbrev pub grouped : List TokenKind → ℕ → ℕ → Place → Outcome Expression
grouped kinds n least p = and_then (closed_expression kinds n p) (λ x q. more kinds n 15 least x q)

-- after the `(` of a cast, which stands at this number
abbrev pub cast : List TokenKind → ℕ → ℕ → ℕ → Place → Outcome Expression
cast kinds n least at p = and_then (closed_type kinds n p) (λ t q. and_then (read kinds n 13 q) (λ x r. more kinds n 13 least (tree.Cast t x at) r))

-- after `sizeof`, which stands at this number: after the `(` of a type name, or before an operand
abbrev pub sized_type : List TokenKind → ℕ → ℕ → ℕ → Place → Outcome Expression
sized_type kinds n least at p = and_then (closed_type kinds n p) (λ t q. more kinds n 14 least (tree.SizeofType t at) q)

abbrev pub sized_operand : List TokenKind → ℕ → ℕ → ℕ → Place → Outcome Expression
sized_operand kinds n least at p = and_then (read kinds n 14 p) (λ x q. more kinds n 14 least (tree.SizeofExpression x at) q)

-- a `(` comes next and a type name may begin after it
abbrev pub opens_by : Bool → Prefix → Bool
opens_by begins Opens = begins
opens_by begins _ = false

abbrev pub opens_type : List TokenKind → Place → Bool
opens_type kinds p = opens_by (begins_type kinds (next p)) (prefix (kind_at kinds p))
