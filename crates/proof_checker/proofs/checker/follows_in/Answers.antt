use Rattle.std.proofs.Common.{ℕ, ◌≡◌, ◌↔◌, List, map, Result, Ok, Err, IfOk, Bool, IsTrue, sym, ap, subst, ◌∙◌}
use Rattle.sat_clause.specs.Literals.{complement_of}
use Rattle.sat_clause.specs.Propagation.{Refuted, Follows}
use Rattle.proof_checker.proofs.Bases.{Follows-refuted, Refuted-follows}
use Rattle.proof_checker.proofs.checker.follows_in.Goals as goal

by_complements : {E : Type 0} (r : Result Bool E) (F : List (List ℕ)) (A c : List ℕ) → A ≡ map complement_of c → IfOk r (λ b. IsTrue b ↔ Refuted F A) → IfOk r (λ b. IsTrue b ↔ Follows F c)
by_complements (Ok b) F A c e h = ((λ t. Follows-refuted F c (subst (Refuted F) e (h.0 t))), (λ f. h.1 (subst (Refuted F) (sym e) (Refuted-follows F c f))))
by_complements (Err x) F A c e h = tt

pub returns-clause-exact : goal.returns-clause-exact
returns-clause-exact c =
    by_complements c.refuted_in.result c.args.parts.now.store c.as_slice-3.result.now c.args.clause.now
    (c.as_slice-3.ensures.value ∙ c.in_ok-asked.ensures ∙ ap (map complement_of) (c.as_slice-2.ensures.value ∙ c.in_ok-lits.ensures ∙ c.as_slice.ensures))
    c.refuted_in.ensures.exact
