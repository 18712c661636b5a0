use Rattle.std.proofs.Common.{ℕ, List, Bool, false, subst}
use Rattle.proof_checker.specs.Base.{IsBase, AreSet, AssumeSays}
use Rattle.proof_checker.proofs.Bases.{exact_from, IsBase-grow, set_grow}
use Rattle.proof_checker.proofs.refute.refute.Goals as goal

pub returns-clause-exact : goal.returns-clause-exact
returns-clause-exact c =
    let F : List (List ℕ) = c.args.store.now in
    let A : List ℕ = c.args.asked.now in
    let m = c.assume.new.trail in
    let n = c.close.new.trail in
    let h : AssumeSays F A c.args.trail.now.steps.items m.steps.items m.truth.items false = subst (λ (x : Bool). AssumeSays F A c.args.trail.now.steps.items m.steps.items m.truth.items x) c.if-clashes.false c.in_ok-clashes.ensures.0 in
    let g = c.in_ok-fails.ensures.grows in
    let base : IsBase F A n.steps.items = IsBase-grow F A m.steps.items n.steps.items g h.0 in
    let all : AreSet A n.truth.items = λ k w. set_grow F m.steps.items n.steps.items m.truth.items n.truth.items m.place.items n.place.items k m.ok n.ok g (h.1 k w) in
    exact_from F A n.steps.items n.truth.items n.place.items c.in_ok-fails.fails n.ok base all c.in_ok-fails.ensures.closes
