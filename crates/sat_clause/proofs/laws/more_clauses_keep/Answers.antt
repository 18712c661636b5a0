use Rattle.std.proofs.Common.{◌++◌}
use Rattle.sat_clause.proofs.Propagation.{Follows-more, Refuted-more, HasAll-append}
use Rattle.sat_clause.proofs.laws.more_clauses_keep.Goals as goal

pub returns : goal.returns
returns c = record {
  follows = λ F G k f. Follows-more F (F ++ G) k (HasAll-append F G) f;
  refuted = λ F G ls r. Refuted-more F (F ++ G) ls ls (HasAll-append F G) (λ l h. h) r;
}
