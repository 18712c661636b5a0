-- What the code has read so far, and its answers, as the definition's.
use Rattle.std.specs.Prelude.{◌≡◌, ℕ, ◌+◌, ◌≤◌, List, [], ◌∷◌, Option, Some, None}
use Rattle.c_tokens.specs.Words.{words, punctuators}
use Rattle.c_tokens.specs.Reading.{State, Advance, Stops, NoToken, Directive, LongConstant, TooManyTokens, Reading, Fails, step}
use Rattle.c_tokens.specs.declared.data_model.DataModel.{DataModel}
use Rattle.c_lexer.specs.declared.lexer.LexFault.{LexFault}
use Rattle.c_lexer.specs.declared.lexer.LexFault.TheVariants as faults
use Rattle.c_lexer.specs.declared.lexer.Lexer.{Lexer}
use Rattle.c_scan.specs.declared.words.Vocabulary.{Vocabulary}
use Rattle.c_scan.specs.Rows.{rows, words_of}
use Rattle.c_macros.specs.Tables.{IsKnown, macros_view}

abbrev pub state_view : Lexer → State
state_view lexer = record {
  at = lexer.at;
  line = lexer.line;
  fresh = lexer.fresh;
  macros = macros_view lexer.macros;
  tokens = lexer.tokens.items;
}

-- the reader reads under this data model
pub record IsReady (model : DataModel) (lexer : Lexer) : Type 0 where
  pub model_is : lexer.model ≡ model
  pub macros_model : lexer.macros.model ≡ model
  pub known : IsKnown lexer.macros
  pub line_bound : lexer.line ≤ lexer.at + 1

-- the tables are those of the definition
pub record IsVocabulary (vocabulary : Vocabulary) : Type 0 where
  pub words_are : words_of vocabulary.words ≡ words
  pub punctuators_are : rows vocabulary.punctuators ≡ punctuators

-- the step stops with this fault, unless memory is wanting
abbrev pub IsStop : LexFault → Advance → Type 0
IsStop (faults.NoToken at) s = s ≡ Stops (NoToken at)
IsStop (faults.Directive at) s = s ≡ Stops (Directive at)
IsStop (faults.LongConstant at) s = s ≡ Stops (LongConstant at)
IsStop (faults.TooManyTokens at) s = s ≡ Stops (TooManyTokens at)
IsStop faults.NoMemory s = Unit {0}

-- the reading fails with this fault, unless memory is wanting
abbrev pub IsFault : LexFault → Reading → Type 0
IsFault (faults.NoToken at) r = r ≡ Fails (NoToken at)
IsFault (faults.Directive at) r = r ≡ Fails (Directive at)
IsFault (faults.LongConstant at) r = r ≡ Fails (LongConstant at)
IsFault (faults.TooManyTokens at) r = r ≡ Fails (TooManyTokens at)
IsFault faults.NoMemory r = Unit {0}

-- a step at the front of a text
abbrev pub step_at : DataModel → State → List ℕ → Advance
step_at model state [] = Stops (NoToken state.at)
step_at model state (c ∷ cs) = step model state c cs

-- where a fault is; nowhere where memory ran out
abbrev pub fault_place : LexFault → Option ℕ
fault_place (faults.NoToken at) = Some at
fault_place (faults.Directive at) = Some at
fault_place (faults.LongConstant at) = Some at
fault_place (faults.TooManyTokens at) = Some at
fault_place faults.NoMemory = None
