-- One replacement of a name.
use Rattle.std.proofs.Common.{◌≡◌, ℕ, suc, true, false, List, [], ◌∷◌, ◌++◌, Some, None}
use Rattle.std.specs.List.{list_any}
use Rattle.std.specs.Str.{bytes_eq}
use Rattle.c_tokens.specs.declared.token.TokenKind.{TokenKind}
use Rattle.c_tokens.specs.declared.token.TokenKind.TheVariants.{Name}
use Rattle.c_tokens.specs.declared.data_model.DataModel.{DataModel}
use Rattle.c_tokens.specs.Words.{lookup, words}
use Rattle.c_tokens.specs.Pieces.{begins_digit}
use Rattle.c_tokens.specs.Constants.{number_of}
use Rattle.c_tokens.specs.Reading.{Macros, replaced, given_or_name, number_kind}

module _ (n : ℕ) (model : DataModel) (macros : Macros) (met : List (List ℕ)) (name : List ℕ) where
  -- a word isn't replaced
  pub replaced_word : (kind : TokenKind) → lookup words name ≡ Some kind → replaced (suc n) model macros met name ≡ kind
  unfolding replaced words number_of
  replaced_word kind word = rw word

  -- a name that was met stays
  pub replaced_met : lookup words name ≡ None → list_any (bytes_eq name) met ≡ true → replaced (suc n) model macros met name ≡ Name name
  unfolding replaced words number_of
  replaced_met word again = rw (word, again)

  -- a name that isn't defined is what a header gives, or itself
  pub replaced_given : lookup words name ≡ None → list_any (bytes_eq name) met ≡ false → lookup macros.defined name ≡ None
      → replaced (suc n) model macros met name ≡ given_or_name model macros name
  unfolding replaced words number_of
  replaced_given word again defined = rw (word, again, defined)

  -- a number ends the chain
  pub replaced_number : (text : List ℕ) → lookup words name ≡ None → list_any (bytes_eq name) met ≡ false → lookup macros.defined name ≡ Some text → begins_digit text ≡ true
      → replaced (suc n) model macros met name ≡ number_kind (number_of model text)
  unfolding replaced words number_of
  replaced_number text word again defined digit = rw (word, again, defined, digit)

  -- a name goes on
  pub replaced_next : (text : List ℕ) → lookup words name ≡ None → list_any (bytes_eq name) met ≡ false → lookup macros.defined name ≡ Some text → begins_digit text ≡ false
      → replaced (suc n) model macros met name ≡ replaced n model macros (met ++ name ∷ []) text
  unfolding replaced words number_of
  replaced_next text word again defined digit = rw (word, again, defined, digit)
