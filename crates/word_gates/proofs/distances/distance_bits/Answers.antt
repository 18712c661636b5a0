use Rattle.word_gates.proofs.Moves.{bits_least, bits_within}
use Rattle.word_gates.proofs.distances.distance_bits.Goals as goal

pub returns-in-Some-clause-least : goal.returns-in-Some-clause-least
returns-in-Some-clause-least c = λ i h. bits_least c.in-Some.top c.args.width i c.requires c.in-Some.ensures.power_le h

pub returns-in-Some-clause-within : goal.returns-in-Some-clause-within
returns-in-Some-clause-within c = bits_within c.in-Some.top c.args.width c.requires c.in-Some.ensures.power_le
