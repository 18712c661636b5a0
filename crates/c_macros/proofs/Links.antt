-- How definitions are linked, and what a name is whose chain is known.
use Rattle.std.proofs.Common.{◌≡◌, ℕ, zero, suc, ◌+◌, ◌<◌, true, false, List, [], ◌∷◌, ◌++◌, length, Some, None, refl, sym, ap, ◌∙◌, arith, subst, get_or}
use Rattle.std.proofs.lemmas.Grind.{get_or_default_zero}
use Rattle.std.specs.Option.{is_some}
use Rattle.c_tokens.specs.declared.token.TokenKind.{TokenKind}
use Rattle.c_tokens.specs.declared.data_model.DataModel.{DataModel}
use Rattle.c_tokens.specs.Words.{lookup, words}
use Rattle.c_tokens.specs.Pieces.{begins_digit}
use Rattle.c_tokens.specs.Constants.{number_of}
use Rattle.c_tokens.specs.Headers.{Header, AssertHeader, LimitsHeader, StdboolHeader, StddefHeader, StdintHeader}
use Rattle.c_tokens.specs.Reading.{Macros, replaced, given, given_or_name, number_kind, kind_of_name, include_header, defined}
use Rattle.c_macros.specs.Chains.{Definitions, IsNoWord, Edge, Becomes, IsAhead, IsLinked, name_at}
use Rattle.c_macros.proofs.Replacing.{replaced_word, replaced_given}
use Rattle.c_macros.proofs.Chains.{becomes, reaches_join}

-- ---- links

-- the definition ahead of the one ahead is ahead
pub ahead_twice : (D : Definitions) (ahead : List ℕ) (i j k : ℕ) → IsLinked D ahead → i < length D → j ≡ get_or ahead i j → k ≡ get_or ahead j k → IsAhead D i k
ahead_twice D ahead i j k linked within first second =
    let count = linked.count in
    let inside : i < length ahead = omega arith in
    let a = subst (IsAhead D i) (sym (first ∙ get_or_default_zero ahead i j inside)) (linked.links i within) in
    let later = a.within in
    let further : j < length ahead = omega arith in
    let b = subst (IsAhead D j) (sym (second ∙ get_or_default_zero ahead j k further)) (linked.links j a.within) in
    record {
      within = b.within;
      reaches = λ no_word. reaches_join D (name_at D i) (name_at D j) (name_at D k) (a.reaches no_word) (b.reaches (a.no_word no_word));
      no_word = λ no_word. b.no_word (a.no_word no_word);
    }

-- a header defines no name
pub included_defined : (macros : Macros) (header : Header) → (include_header macros header).defined ≡ macros.defined
included_defined macros AssertHeader = refl
included_defined macros LimitsHeader = refl
included_defined macros StdboolHeader = refl
included_defined macros StddefHeader = refl
included_defined macros StdintHeader = refl

-- a name that no header gives and no other text replaces is defined
pub defined_new : (model : DataModel) (macros : Macros) (name text : List ℕ) → is_some (lookup (given model macros) name) ≡ false → lookup macros.defined name ≡ None
    → defined model macros name text ≡ Some (record macros { defined = macros.defined ++ (name, text) ∷ [] })
unfolding defined
defined_new model macros name text free new = rw (free, new)

-- ---- ends

module _ (model : DataModel) (macros : Macros) (x text : List ℕ) (no_word : IsNoWord x) (defined : lookup macros.defined x ≡ Some text) where
  pub becomes_number : begins_digit text ≡ true → Becomes model macros x (number_kind (number_of model text))
  unfolding words number_of
  becomes_number digit = (zero, rw (no_word, defined, digit))

  module _ (name : begins_digit text ≡ false) where
    pub edge : Edge macros.defined x text
    edge = record { no_word = no_word; text = defined; no_number = name }

    pub becomes_word : (kind : TokenKind) → lookup words text ≡ Some kind → Becomes model macros x kind
    unfolding words
    becomes_word kind word = (1, (text, edge, rw word))

    pub becomes_given : lookup words text ≡ None → lookup macros.defined text ≡ None → Becomes model macros x (given_or_name model macros text)
    unfolding words
    becomes_given other new = (1, (text, edge, rw (other, new)))

-- ---- names

module _ (model : DataModel) (macros : Macros) (name : List ℕ) where
  whole : kind_of_name model macros name ≡ replaced (suc (length macros.defined)) model macros [] name
  unfolding kind_of_name
  whole = let e : length macros.defined + 1 ≡ suc (length macros.defined) = omega arith in ap (λ n. replaced n model macros [] name) e

  pub kind_of_word : (kind : TokenKind) → lookup words name ≡ Some kind → kind_of_name model macros name ≡ kind
  kind_of_word kind word = whole ∙ replaced_word (length macros.defined) model macros [] name kind word

  pub kind_of_given : lookup words name ≡ None → lookup macros.defined name ≡ None → kind_of_name model macros name ≡ given_or_name model macros name
  kind_of_given word new = whole ∙ replaced_given (length macros.defined) model macros [] name word refl new

  pub kind_of_end : (kind : TokenKind) → Becomes model macros name kind → kind_of_name model macros name ≡ kind
  unfolding kind_of_name
  kind_of_end kind end = becomes model macros name kind end
