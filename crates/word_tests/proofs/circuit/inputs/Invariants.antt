use Rattle.std.proofs.Common.{◌≡◌, length}
use Rattle.gate_core.specs.Table.{Grows}
use Rattle.word_gates.specs.Words.{IsWordOf}
use Rattle.word_tests.proofs.circuit.inputs.Given as goal

abbrev pub invariant-loop-i : goal.invariant-loop-i
invariant-loop-i l = record {
  grows : Grows l.fn.gates l.gates;
  len : length l.word ≡ l._i;
  word : IsWordOf l.gates l.word;
}
