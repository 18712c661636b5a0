-- Chains of definitions: which names a name is replaced by, one after another (C11 6.10.3.4).
use Rattle.std.specs.Prelude.{◌≡◌, ℕ, zero, suc, ◌<◌, false, List, [], length, Option, Some, None, if◌then◌else◌, slice_index_or}
use Rattle.c_tokens.specs.declared.token.TokenKind.{TokenKind}
use Rattle.c_tokens.specs.declared.data_model.DataModel.{DataModel}
use Rattle.c_tokens.specs.Words.{lookup, words}
use Rattle.c_tokens.specs.Pieces.{begins_digit}
use Rattle.c_tokens.specs.Constants.{number_of}
use Rattle.c_tokens.specs.Reading.{Macros, given_or_name, number_kind}

-- defined names, each with the text that replaces it
abbrev pub Definitions : Type 0
Definitions = List (List ℕ × List ℕ)

abbrev pub name_at : Definitions → ℕ → List ℕ
name_at D i = (slice_index_or D i ([], [])).0

abbrev pub text_at : Definitions → ℕ → List ℕ
text_at D i = (slice_index_or D i ([], [])).1

abbrev pub IsNoWord : List ℕ → Type 0
IsNoWord name = lookup words name ≡ None

-- the name x is replaced by the name y
pub record Edge (D : Definitions) (x y : List ℕ) : Type 0 where
  pub no_word : IsNoWord x
  pub text : lookup D x ≡ Some y
  pub no_number : begins_digit y ≡ false

-- x is replaced by z in k steps
abbrev pub ReachesIn : Definitions → ℕ → List ℕ → List ℕ → Type 0
ReachesIn D zero x z = x ≡ z
ReachesIn D (suc k) x z = (y : List ℕ) × Edge D x y × ReachesIn D k y z

abbrev pub Reaches : Definitions → List ℕ → List ℕ → Type 0
Reaches D x z = (k : ℕ) × ReachesIn D k x z

-- what a name is that isn't replaced by a name
abbrev pub end_of : DataModel → Macros → List ℕ → Option TokenKind
end_of model macros x = elim (lookup words x) as (λ _. Option TokenKind) [
  | Some kind ↦ Some kind
  | None ↦ elim (lookup macros.defined x) as (λ _. Option TokenKind) [
    | Some text ↦ if begins_digit text then Some (number_kind (number_of model text)) else None
    | None ↦ Some (given_or_name model macros x)
  ]
]

-- x is replaced k times, and then is a token of this kind
abbrev pub Runs : DataModel → Macros → ℕ → List ℕ → TokenKind → Type 0
Runs model macros zero x kind = end_of model macros x ≡ Some kind
Runs model macros (suc k) x kind = (y : List ℕ) × Edge macros.defined x y × Runs model macros k y kind

abbrev pub Becomes : DataModel → Macros → List ℕ → TokenKind → Type 0
Becomes model macros x kind = (k : ℕ) × Runs model macros k x kind

-- the definition at i is the one of this name
pub record IsPlace (D : Definitions) (name : List ℕ) (i : ℕ) : Type 0 where
  pub within : i < length D
  pub named : name_at D i ≡ name
  pub text : lookup D name ≡ Some (text_at D i)

-- the definition at j is one that the one at i reaches, if names as that of i are replaced
pub record IsAhead (D : Definitions) (i j : ℕ) : Type 0 where
  pub within : j < length D
  pub reaches : IsNoWord (name_at D i) → Reaches D (name_at D i) (name_at D j)
  pub no_word : IsNoWord (name_at D i) → IsNoWord (name_at D j)

-- each name is defined once, and each definition has one ahead of it
pub record IsLinked (D : Definitions) (ahead : List ℕ) : Type 0 where
  pub count : length ahead ≡ length D
  pub texts : (i : ℕ) → i < length D → lookup D (name_at D i) ≡ Some (text_at D i)
  pub unique : (i j : ℕ) → i < length D → j < length D → name_at D i ≡ name_at D j → i ≡ j
  pub links : (i : ℕ) → i < length D → IsAhead D i (slice_index_or ahead i 0)
