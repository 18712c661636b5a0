-- What a function that reads ensures.
use Rattle.std.specs.Prelude.{◌≡◌, ℕ, List, Result, Ok, Err}
use Rattle.c_tokens.specs.declared.token.TokenKind.{TokenKind}
use Rattle.c_tree.specs.Places.{Place, next}
use Rattle.c_cursor.specs.declared.fault.Fault.{Fault}
use Rattle.c_cursor.specs.declared.fault.Fault.TheVariants.{Syntax, NoMemory}
use Rattle.c_cursor.specs.declared.parts.Specified.{Specified}
use Rattle.c_cursor.specs.declared.parts.Titled.{Titled}
use Rattle.c_cursor.specs.declared.parts.Perhaps.{Perhaps}
use Rattle.c_cursor.specs.declared.parts.Perhaps.TheVariants.{With, Without}
use Rattle.c_grammar.specs.declared.kinds.Suffix.{Suffix}
use Rattle.c_grammar.specs.declared.kinds.Suffix.TheVariants.{NoSuffix}
use Rattle.c_grammar.specs.Kinds.{kind_at, prefix}
use Rattle.c_grammar.specs.ReadExpressions.{Outcome, Gives, Refuses, where_name}
use Rattle.c_grammar.specs.ReadTypes as spec

-- the outcome, seen by a function, unless memory is refused
abbrev pub ReadsAs : {A B : Type 0} → (B → A) → Outcome A → Result B Fault → Place → Type 0
ReadsAs view outcome (Ok x) new = outcome ≡ Gives (view x) new
ReadsAs view outcome (Err (Syntax at)) new = outcome ≡ Refuses
ReadsAs view outcome (Err NoMemory) new = Unit {0}

-- the outcome, unless memory is refused
abbrev pub Reads : {A : Type 0} → Outcome A → Result A Fault → Place → Type 0
Reads outcome (Ok x) new = outcome ≡ Gives x new
Reads outcome (Err (Syntax at)) new = outcome ≡ Refuses
Reads outcome (Err NoMemory) new = Unit {0}

abbrev pub specified_of : Specified → spec.Specified
specified_of s = spec.Specifies s.defines s.list

abbrev pub titled_of : Titled → spec.Titled
titled_of d = spec.Titles d.name d.parameters d.inner

abbrev pub perhaps_of : Perhaps → spec.Perhaps
perhaps_of (With d) = spec.With (titled_of d)
perhaps_of (Without inner) = spec.Without inner

-- it is a suffix
abbrev pub IsSuffix : Suffix → Type 0
IsSuffix NoSuffix = ⊥
IsSuffix _ = Unit {0}

-- ---- single tokens

unfoldable pub name_read : List TokenKind → Place → Outcome (List ℕ)
name_read kinds p = where_name (prefix (kind_at kinds p)) (λ text. Gives text (next p))
