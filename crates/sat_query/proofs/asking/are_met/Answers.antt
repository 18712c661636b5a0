use Rattle.std.proofs.Common.{ℕ, ◌<◌, List, [], length, Bool, true, false, MatchBool, IsTrue, arith, rules, tests, refl}
use Rattle.std.specs.List.{HoldsAt, AllWithin}
use Rattle.std.proofs.lemmas.Iterator.{cases_from_all, YieldsList-from_slice}
use Rattle.std.proofs.lemmas.Bool.{false≢true}
use Rattle.sat_clause.specs.Literals.{truths}
use Rattle.sat_clause.proofs.Truths.{met_at, met-from_each}
use Rattle.sat_query.specs.Asking.{IsClauseMet, IsMet}
use Rattle.sat_query.proofs.asking.are_met.Goals as goal

from_cases : (a : List Bool) (F : List (List ℕ)) (r : Bool) → MatchBool r (AllWithin (λ c. IsClauseMet c a) F 0 (length F)) ((k : ℕ) × (k < length F) × HoldsAt (λ c. IsClauseMet c a → ⊥) F k) → (IsTrue r → IsMet F a) × (IsMet F a → IsTrue r)
from_cases a F true h = (
  λ _. record {
    over = λ k d lt. (h k d (omega arith) lt).over;
    clauses = met-from_each (truths a) F (λ k lt. (h k [] (omega arith) lt).holds);
  },
  λ _. refl,
)
from_cases a F false w = (
  λ e. absurd (false≢true e),
  λ m. absurd (w.2 [] (record { over = m.over w.0 [] w.1; holds = met_at (truths a) F m.clauses w.0 w.1 })),
)

pub returns : goal.returns
returns c =
    let F : List (List ℕ) = c.args.clauses.now in
    let a : List Bool = c.args.assignment.now in
    let cases = cases_from_all _ _ _ (λ (x : List ℕ). IsClauseMet x a) (λ (x : List ℕ). IsClauseMet x a → ⊥) c.all.ensures.ran (YieldsList-from_slice F cc) (λ x q k. search (rules, tests)) (λ x q k. search (rules, tests)) in
    from_cases a F c.all.result cases
