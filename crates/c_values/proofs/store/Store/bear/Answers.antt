use Rattle.std.proofs.Common.{rules, ◌≡◌, ◌++◌, [], ◌∷◌, length, vec_len, subst, sym, ◌∙◌, ap}
use Rattle.c_model.specs.declared.values.Object.{Object}
use Rattle.c_values.specs.Pointing.{HasPlaces, with_place}
use Rattle.c_values.proofs.Places.{entered_places}
use Rattle.c_values.proofs.store.Store.bear.Goals as goal

pub invariant_of-self-2 : goal.invariant_of-self-2
invariant_of-self-2 c =
    let xs = c.self.inside.objects.items in
    let count : vec_len c.self.inside.objects ≡ length xs = search rules in
    let born : Object = record { number = c.args.number; cells = c.args.cells } in
    let objects : c.push.new.self.items ≡ xs ++ born ∷ [] = c.in_ok-push.ensures.items ∙ ap (λ o. xs ++ o ∷ []) c.new.ensures in
    let places = c.enter.ensures ∙ ap (with_place c.make_room.new.places.items c.args.number) (c.len-object.ensures ∙ count) in
    subst (λ os. HasPlaces os c.enter.new.places.items) (sym objects) (subst (HasPlaces (xs ++ born ∷ [])) (sym places)
    (entered_places xs born c.make_room.new.places.items (λ n. c.make_room.ensures.same n ∙ c.self.invariant n) c.in_ok-make_room.ensures.room))
