use Rattle.std.proofs.Common.{ℕ, ◌≡◌, ◌+◌, ◌-◌, ◌<◌, ◌≤◌, ◌++◌, List, [], ◌∷◌, length, take, drop, append_assoc, ap, sym, ◌∙◌, arith}
use Rattle.std.proofs.lemmas.List.{take_more, get_or-drop, length-drop}
use Rattle.sat_clause.specs.Propagation.{clause_at}
use Rattle.sat_core.proofs.solver.log_from.Goals as goal

-- one clause more of those from a place on
one_more : (F : List (List ℕ)) (from n : ℕ) → from ≤ n → n < length F → take (n + 1 - from) (drop from F) ≡ take (n - from) (drop from F) ++ clause_at F n ∷ []
one_more F from n le lt =
    let e : n + 1 - from ≡ n - from + 1 = omega arith in
    let same : from + (n - from) ≡ n = omega arith in
    ap (λ (k : ℕ). take k (drop from F)) e
    ∙ take_more (drop from F) (n - from) [] (omega (arith, length-drop from F))
    ∙ ap (λ (c : List ℕ). take (n - from) (drop from F) ++ c ∷ []) (get_or-drop from F (n - from) [] ∙ ap (clause_at F) same)

pub loop-number-preserved : goal.loop-number-preserved
loop-number-preserved c =
    let F : List (List ℕ) = c.args.store.now in
    let n : ℕ = c.loop-number.number in
    let lt : n < length F = omega (arith, c.loop-number-test.true, c.len-number-end.ensures) in
    let le : c.args.from ≤ n = c.loop-number.auto.number in
    let clause : c.in_ok-clause_of.field-0 ≡ clause_at F n = c.in_ok-clause_of.ensures ∙ c.get.ensures in
    let front : List (List ℕ) = take (n - c.args.from) (drop c.args.from F) in
    c.in_ok-push.ensures.ok
    ∙ ap (λ (x : List (List ℕ)). x ++ c.in_ok-clause_of.field-0 ∷ []) c.loop-number.invariant
    ∙ append_assoc c.args.log.now front (c.in_ok-clause_of.field-0 ∷ [])
    ∙ ap (λ (x : List ℕ). c.args.log.now ++ (front ++ x ∷ [])) clause
    ∙ ap (λ (x : List (List ℕ)). c.args.log.now ++ x) (sym (one_more F c.args.from n le lt))
