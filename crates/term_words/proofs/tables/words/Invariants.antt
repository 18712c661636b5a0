use Rattle.std.proofs.Common.{◌≡◌, ℕ, ℤ, Bool, length}
use Rattle.gate_core.specs.Table.{Agrees, Grows}
use Rattle.term_core.specs.Table.{Agrees as TermsAgree}
use Rattle.term_words.specs.Words.{numbers, AreWordsOf, AreWide, Give}
use Rattle.term_words.proofs.tables.words.Given as goal

abbrev pub invariant-loop-at : goal.invariant-loop-at
invariant-loop-at l = record {
  grows : Grows l.fn.gates l.gates;
  len : length l.made ≡ l.at;
  words : AreWordsOf l.gates l.made;
  wide : AreWide l.terms l.made;
  value : (A : ℕ → Bool) (V : ℕ → ℤ) → Agrees A l.gates → TermsAgree (numbers A l.vars) V l.terms → Give A l.terms l.made V;
}
