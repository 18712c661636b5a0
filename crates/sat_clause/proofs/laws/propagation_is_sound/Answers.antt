use Rattle.sat_clause.proofs.Truths.{true_each}
use Rattle.sat_clause.proofs.Propagation.{Follows-sound, Refuted-sound}
use Rattle.sat_clause.proofs.laws.propagation_is_sound.Goals as goal

pub returns : goal.returns
returns c = record {
  follows = λ A F k m f. Follows-sound A F k m f;
  refuted = λ A F ls m r t. Refuted-sound A F ls m (true_each A ls t) r;
}
