-- The words of a table's terms, and of variables.
use Rattle.std.specs.Prelude.{ℕ, ◌≡◌, ◌<◌, Bool, ℤ, pos, List, [], length, slice_index_or}
use Rattle.std.specs.List.{All}
use Rattle.gate_core.specs.declared.gate.Gate.{Gate}
use Rattle.term_core.specs.declared.term.Term.{Term}
use Rattle.term_core.specs.Table.{shape_at}
use Rattle.word_sums.specs.Words.{number, word_value, IsWordOf}

-- the word at a place, and past the end the empty one
abbrev pub word_at : List (List ℕ) → ℕ → List ℕ
word_at ws i = slice_index_or ws i []

-- the numbers of the variables: those of their words, without a sign
abbrev pub numbers : (ℕ → Bool) → List (List ℕ) → ℕ → ℤ
numbers A vs k = pos (number A (word_at vs k))

-- each word is one of the table's
abbrev pub AreWordsOf : List Gate → List (List ℕ) → Type 0
AreWordsOf gs ws = All (IsWordOf gs) ws

-- the words of the first terms are as wide as the terms
pub record AreWide (ts : List Term) (ws : List (List ℕ)) : Type 0 where
  pub at : (i : ℕ) → i < length ws → length (word_at ws i) ≡ (shape_at ts i).width

-- and give them the values V
pub record Give (A : ℕ → Bool) (ts : List Term) (ws : List (List ℕ)) (V : ℕ → ℤ) : Type 0 where
  pub at : (i : ℕ) → i < length ws → word_value A (shape_at ts i).signed (word_at ws i) ≡ V i
