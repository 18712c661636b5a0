use Rattle.std.proofs.Common.{rules, ◌≡◌, length, vec_len, subst, sym, ◌∙◌, ap}
use Rattle.c_values.specs.Pointing.{HasPlaces, without_place}
use Rattle.c_values.proofs.Places.{left_places}
use Rattle.c_values.proofs.store.Store.bury.Goals as goal

pub invariant_of-self : goal.invariant_of-self
invariant_of-self c =
    let xs = c.pop.new.self.items in
    let dead = c.in-Some.dead in
    let count : vec_len c.pop.new.self ≡ length xs = search rules in
    let now = subst (λ os. HasPlaces os c.self.inside.places.items) c.in-Some.ensures.items c.self.invariant in
    let places = c.leave.ensures ∙ (ap (λ n. without_place c.self.inside.places.items n c.len.result) c.number.ensures ∙ ap (without_place c.self.inside.places.items dead.number) (c.len.ensures ∙ count)) in
    subst (HasPlaces xs) (sym places) (left_places xs dead c.self.inside.places.items now)
