-- Initialisers (6.7.9), as the functions that read them divide them.
use Rattle.std.specs.Prelude.{ℕ, Bool, List}
use Rattle.c_tokens.specs.declared.token.TokenKind.{TokenKind}
use Rattle.c_tree.specs.declared.declaration.Declared.{Declared}
use Rattle.c_tree.specs.declared.declaration.Declared.TheVariants as declared_node
use Rattle.c_tree.specs.declared.declaration.Initialiser.{Initialiser}
use Rattle.c_tree.specs.declared.declaration.Initialiser.TheVariants as initialiser_node
use Rattle.c_tree.specs.Places.{Place, next, declare}
use Rattle.c_grammar.specs.ReadExpressions.{Outcome, Gives, and_then}
use Rattle.c_grammar.specs.Readers.{read}
use Rattle.c_grammar.specs.ReadTypes.{Titled, Titles}
use Rattle.c_grammar.specs.ReadStatements.{initialiser}

-- an expression
abbrev pub initial_value : List TokenKind → ℕ → Place → Outcome Initialiser
initial_value kinds n p = and_then (read kinds n 1 p) (λ x q. Gives (initialiser_node.Value x p.at) q)

-- after a declarator, from the `=` on
abbrev pub initialised : List TokenKind → ℕ → Bool → Titled → Place → Outcome Declared
initialised kinds n defines (Titles name parameters inner) q = and_then (initialiser kinds n (declare (next q) name defines)) (λ x r. Gives (declared_node.Initialised inner x q.at) r)

-- after a declarator without one
abbrev pub plain_declared : Bool → Titled → Place → Outcome Declared
plain_declared defines (Titles name parameters inner) q = Gives (declared_node.Plain inner) (declare q name defines)
