use Rattle.std.proofs.Common.{◌≡◌, ℕ, ◌+◌, ◌≤◌, length}
use Rattle.c_tokens.specs.declared.limits.TheConstants.{MAX_BYTES}
use Rattle.c_tokens.specs.Reading.{beginning, divided}
use Rattle.c_lexer.specs.States.{IsReady, IsVocabulary, state_view}
use Rattle.c_lexer.proofs.lexer.divide.Given as goal

-- the division of what is left completes that of the whole
abbrev pub invariant-loop-rest : goal.invariant-loop-rest
invariant-loop-rest l = record {
  ready : IsReady l.fn.model l.lexer;
  tables : IsVocabulary l.vocabulary;
  room : l.lexer.at + length l.rest ≤ MAX_BYTES;
  divides : (n : ℕ) × (length l.rest ≤ n) × (divided n l.fn.model (state_view l.lexer) l.rest ≡ divided (length l.bytes) l.fn.model beginning l.bytes);
}

abbrev pub decreases-loop-rest : goal.decreases-loop-rest
decreases-loop-rest l = length l.rest
