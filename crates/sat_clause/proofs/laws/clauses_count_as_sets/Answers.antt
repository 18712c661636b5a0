use Rattle.sat_clause.proofs.Propagation.{Follows-more, Refuted-more}
use Rattle.sat_clause.proofs.Sets.{IncludesNone-fewer}
use Rattle.sat_clause.proofs.laws.clauses_count_as_sets.Goals as goal

pub returns : goal.returns
returns c = record {
  follows = λ F G k sup f. Follows-more F G k sup f;
  refuted = λ F G ls sup r. Refuted-more F G ls ls sup (λ l h. h) r;
  fresh = λ F G k sup none. IncludesNone-fewer F G k sup none;
}
