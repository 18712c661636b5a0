use Rattle.std.proofs.Common.{rules, ap, sym, ◌∙◌, [], ◌∷◌, subst}
use Rattle.std.proofs.lemmas.Result.{on_ok_weaker}
use Rattle.std.specs.Option.{unwrap_or}
use Rattle.c_places.proofs.Changes.{places_added, Changes}
use Rattle.c_places.proofs.places.Places.add.Goals as goal

pub returns-in-Some : goal.returns-in-Some
returns-in-Some c =
    on_ok_weaker c.push.result
    (places_added c.args.self.now.by_name (c.get_mut.follows.lender c.push.new.self) c.args.name.now c.args.place _ _
    ((c.get_mut.follows.holds c.push.new.self).3 (search rules)) (ap (λ found. unwrap_or found []) (sym c.in-Some.ensures.value)))
    c.push.ensures.ok

pub returns : goal.returns
returns c =
    places_added c.args.self.now.by_name c.insert.new.self c.args.name.now c.args.place [] c.push-2.new.self
    (subst (λ old. Changes old c.insert.new.self c.args.name.now c.push-2.new.self) c.get_mut.follows.holds-at-none
    (subst (λ at. Changes c.get_mut.follows.lender-at-none c.insert.new.self at c.push-2.new.self) c.in_ok-key.ensures.items c.in_ok-insert.ensures.updates))
    (ap (λ found. unwrap_or found []) (sym c.in_default.ensures.value))
    (c.in_ok-push.ensures.ok ∙ ap (λ rest. c.args.place ∷ rest) c.new-places.ensures)
