use Rattle.std.proofs.Common.{[], rules, ap, sym}
use Rattle.std.specs.Option.{unwrap_or}
use Rattle.c_places.proofs.Changes.{places_removed}
use Rattle.c_places.proofs.places.Places.remove.Goals as goal

pub returns-in-Some : goal.returns-in-Some
returns-in-Some c =
    places_removed c.args.self.now.by_name (c.get_mut.follows.lender c.pop-newest.new.self) c.args.name.now _ _ c.pop-newest.result
    ((c.get_mut.follows.holds c.pop-newest.new.self).3 (search rules)) (ap (λ found. unwrap_or found []) (sym c.in-Some.ensures.value)) c.pop-newest.ensures
