-- The parts of a declarator and of a parameter (6.7.6), as the functions that read them divide them.
use Rattle.std.specs.Prelude.{ℕ, List, [], None}
use Rattle.c_tokens.specs.declared.token.TokenKind.{TokenKind}
use Rattle.c_tree.specs.declared.expression.Declarator.TheVariants as declarator_node
use Rattle.c_tree.specs.declared.expression.Parameter.{Parameter}
use Rattle.c_tree.specs.Places.{Place, next, enter}
use Rattle.c_declarators.specs.declared.declarators.Parameters.{Parameters}
use Rattle.c_grammar.specs.Marks as sign
use Rattle.c_grammar.specs.Marks.{Mark, mark_at}
use Rattle.c_grammar.specs.ReadExpressions.{Outcome, Gives, Refuses, and_then}
use Rattle.c_grammar.specs.ReadTypes.{Titled, Titles, Suffixes, Takes, Taken, Perhaps, where_closes, attributes, parameter, parameters, array_by, function_by, with_parameters, suffixes_with, titled, perhaps_with}
use Rattle.c_grammar.specs.Readers.{read, specifiers, perhaps, declarator}

abbrev pub parameters_of : Parameters → Takes
parameters_of p = Taken p.list p.variadic

-- nothing goes on after it
abbrev pub alone : Suffixes
alone d q = Gives d q

abbrev pub parameter_at : List TokenKind → ℕ → Place → Outcome Parameter
parameter_at kinds n p = parameter (attributes kinds n) (specifiers kinds n) (perhaps kinds n) p

abbrev pub parameters_at : List TokenKind → ℕ → Place → Outcome Takes
parameters_at kinds n p = parameters kinds (parameter (attributes kinds n) (specifiers kinds n) (perhaps kinds n)) n p

-- `[]` or `[size]` after a declarator, from the `[` on (6.7.6.2)
abbrev pub array_suffix : List TokenKind → ℕ → Titled → Place → Outcome Titled
array_suffix kinds n d p = array_by kinds (read kinds n) alone d p (mark_at kinds (next p))

-- after the `(` of a function declarator, which stands at this number, where there are parameters (6.7.6.3)
abbrev pub function_parameters : List TokenKind → ℕ → Titled → ℕ → Place → Outcome Titled
function_parameters kinds n d at p = and_then (parameters_at kinds n (enter p)) (with_parameters kinds alone d (record { at = at; blocks = [] }))

-- `()` or `(parameters)` after a declarator, from the `(` on
abbrev pub function_suffix : List TokenKind → ℕ → Titled → Place → Outcome Titled
function_suffix kinds n d p = function_by kinds (parameters_at kinds n) alone d p (mark_at kinds (next p))

-- what follows a direct declarator
abbrev pub suffixes_at : List TokenKind → ℕ → Titled → Place → Outcome Titled
suffixes_at kinds n d p = suffixes_with kinds (read kinds n) (specifiers kinds n) (perhaps kinds n) n d p

abbrev pub titled_at : List TokenKind → ℕ → Titled → Place → Outcome Perhaps
titled_at kinds n d p = and_then (suffixes_at kinds n d p) titled

-- a declarator in round brackets, from the `(` on
abbrev pub inner_declarator : List TokenKind → ℕ → Place → Outcome Titled
inner_declarator kinds n p = and_then (declarator kinds n (next p)) (λ d q. where_closes (mark_at kinds q) (Gives d (next q)))

-- a name that is declared
abbrev pub declared_name : Place → Mark → Outcome Titled
declared_name p (sign.Name text) = Gives (Titles text None (declarator_node.Name text p.at)) (next p)
declared_name p _ = Refuses

abbrev pub perhaps_at : List TokenKind → ℕ → Place → Mark → Outcome Perhaps
perhaps_at kinds n p m = perhaps_with kinds (read kinds n) (specifiers kinds n) (perhaps kinds n) n p m
