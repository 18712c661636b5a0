use Rattle.std.proofs.Common.{[], ap, ◌∙◌, slice_get}
use Rattle.std.specs.Option.{unwrap_or}
use Rattle.c_cursor.proofs.Changes.{newest_is}
use Rattle.c_cursor.proofs.meanings.Meanings.newest.Goals as goal

pub returns-in-Some : goal.returns-in-Some
returns-in-Some c entries had =
    c.copied.ensures ∙ c.top.ensures ∙ ap (λ said. slice_get said 0) (ap (λ found. unwrap_or found []) c.in-Some.ensures.value ∙ had c.args.name.now)
    ∙ newest_is entries c.args.name.now

pub returns-in-None : goal.returns-in-None
returns-in-None c entries had =
    ap (λ said. slice_get said 0) (ap (λ found. unwrap_or found []) c.in-None.ensures.value ∙ had c.args.name.now) ∙ newest_is entries c.args.name.now
