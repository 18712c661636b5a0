use Rattle.std.proofs.Common.{[], ap, ◌∙◌, slice_get}
use Rattle.std.specs.Option.{unwrap_or}
use Rattle.c_places.proofs.Changes.{newest_is}
use Rattle.c_places.proofs.places.Places.newest.Goals as goal

pub returns-in-Some : goal.returns-in-Some
returns-in-Some c names had =
    c.copied.ensures ∙ c.top.ensures ∙ ap (λ said. slice_get said 0) (ap (λ found. unwrap_or found []) c.in-Some.ensures.value ∙ had c.args.name.now)
    ∙ newest_is names c.args.name.now

pub returns-in-None : goal.returns-in-None
returns-in-None c names had =
    ap (λ said. slice_get said 0) (ap (λ found. unwrap_or found []) c.in-None.ensures.value ∙ had c.args.name.now) ∙ newest_is names c.args.name.now
