-- Places in the tokens of a text, and what the names mean there. Sections are those of ISO/IEC 9899:2011.
use Rattle.std.specs.Prelude.{◌≡◌, ℕ, ◌+◌, Bool, true, false, List, [], ◌∷◌, Option, Some, None, slice_get, if◌then◌else◌}
use Rattle.std.specs.Str.{bytes_eq}
use Rattle.c_tokens.specs.declared.token.TokenKind.{TokenKind}
pub use Rattle.c_tree.specs.declared.scope.Entry.{Entry}

-- the number of the next token; and what is declared there, block by block, the innermost block and the newest
-- declaration first (6.2.1)
pub record Place : Type 0 where
  pub at : ℕ
  pub blocks : List (List Entry)

-- a token of this kind comes next
abbrev pub At : List TokenKind → Place → TokenKind → Type 0
At kinds p kind = slice_get kinds p.at ≡ Some kind

abbrev pub next : Place → Place
next p = record { at = p.at + 1; blocks = p.blocks }

-- the newest declaration of a name hides the others (6.2.1p4)
abbrev pub find_in : List Entry → List ℕ → Option Bool
find_in [] name = None
find_in (entry ∷ entries) name = if bytes_eq entry.name name then Some entry.is_type else find_in entries name

abbrev pub find_further : Option Bool → Bool → Bool
find_further (Some is_type) further = is_type
find_further None further = further

abbrev pub names_type : List (List Entry) → List ℕ → Bool
names_type [] name = false
names_type (block ∷ blocks) name = find_further (find_in block name) (names_type blocks name)

-- the name is a typedef name here
abbrev pub IsTypedefName : Place → List ℕ → Type 0
IsTypedefName p name = names_type p.blocks name ≡ true

-- the name is none here: it may name an object, a function or an enumeration constant, or nothing
abbrev pub IsOrdinary : Place → List ℕ → Type 0
IsOrdinary p name = names_type p.blocks name ≡ false

-- from here on the name is declared in the innermost block
abbrev pub declared_in : List (List Entry) → List ℕ → Bool → List (List Entry)
declared_in [] name is_type = (record { name = name; is_type = is_type } ∷ []) ∷ []
declared_in (block ∷ blocks) name is_type = (record { name = name; is_type = is_type } ∷ block) ∷ blocks

abbrev pub declare : Place → List ℕ → Bool → Place
declare p name is_type = record { at = p.at; blocks = declared_in p.blocks name is_type }

-- a block begins and ends (6.2.1p4, 6.8p3)
abbrev pub enter : Place → Place
enter p = record { at = p.at; blocks = [] ∷ p.blocks }

abbrev pub without_first : List (List Entry) → List (List Entry)
without_first [] = []
without_first (block ∷ blocks) = blocks

abbrev pub first_of : List (List Entry) → List Entry
first_of [] = []
first_of (block ∷ blocks) = block

abbrev pub leave : Place → Place
leave p = record { at = p.at; blocks = without_first p.blocks }

-- a function's body begins, with its parameters declared (6.9.1p9)
abbrev pub enter_with : Place → List Entry → Place
enter_with p parameters = record { at = p.at; blocks = parameters ∷ p.blocks }
