use Rattle.std.proofs.Common.{ℕ, ◌<◌, List, Bool, length, get_or, subst, arith}
use Rattle.sat_engine.specs.declared.trail.SetLiteral.{SetLiteral}
use Rattle.sat_engine.specs.Trail.{IsSet, IsTrail, Before}
use Rattle.sat_engine.proofs.Trails.{each_Contains}
use Rattle.sat_search.proofs.turn.next_assumption.Goals as goal

-- a literal that stands in the trail is true
set_before : (steps : List SetLiteral) (truth : List Bool) (place : List ℕ) (n l : ℕ) → IsTrail steps truth place → n < length steps → Before steps n l → IsSet truth l
set_before steps truth place n l t lt b = let h = b.1 in subst (λ (x : ℕ). IsSet truth x) b.2 (t.on b.0 (omega arith)).1

pub returns-then-is_free_at : goal.returns-then-is_free_at
returns-then-is_free_at c = λ a w.
    let t = c.args.trail.now in
    let free = c.is_free_at.ensures c.if-is_free_at.true in
    set_before t.steps.items t.truth.items t.place.items free.0 a t.ok free.1 (c.requires.state.free free.0 free.1 free.2 a w)

pub returns-in-None : goal.returns-in-None
returns-in-None c =
    let assumed : List ℕ = c.args.assumed.now in
    let truth : List Bool = c.args.trail.now.truth.items in
    each_Contains (λ a. IsSet truth a) assumed (λ i lt. subst (λ (x : List Bool). IsSet x (get_or assumed i 0)) c.deref-2.ensures.value (c.in-None.ensures i (omega arith) lt))
