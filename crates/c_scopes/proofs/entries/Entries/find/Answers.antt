use Rattle.std.proofs.Common.{reverse, slice_get, ap, sym, ◌∙◌, None, Some}
use Rattle.std.proofs.lemmas.List.{reverse-reverse}
use Rattle.c_rules.specs.Scopes.{find_in}
use Rattle.c_scopes.specs.Entries.{names_of}
use Rattle.c_scopes.proofs.Named.{found_in, got_at}
use Rattle.c_scopes.proofs.entries.Entries.find.Goals as goal

pub returns-in-Some : goal.returns-in-Some
returns-in-Some c =
    let items = c.self.inside.items in
    got_at c.as_slice.result.now c.in-Some.place c.get.result c.get.ensures.lookup ∙ ap (λ rows. slice_get rows c.in-Some.place) (sym (reverse-reverse c.as_slice.result.now) ∙ ap reverse c.as_slice.ensures)
    ∙ found_in items c.args.name.now (Some c.in-Some.place) (c.in-Some.ensures (names_of items) c.self.invariant)
    ∙ ap (λ entries. find_in entries c.args.name.now) c.self.view_is

pub returns-in-None : goal.returns-in-None
returns-in-None c =
    let items = c.self.inside.items in
    found_in items c.args.name.now None (c.in-None.ensures (names_of items) c.self.invariant) ∙ ap (λ entries. find_in entries c.args.name.now) c.self.view_is
