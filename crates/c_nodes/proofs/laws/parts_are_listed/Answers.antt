use Rattle.c_nodes.proofs.Listed.{answers_listed, arguments_listed, sequences_listed}
use Rattle.c_nodes.proofs.laws.parts_are_listed.Goals as goal

pub returns : goal.returns
returns c = record { of_arguments = arguments_listed; of_answers = answers_listed; of_sequences = sequences_listed }
