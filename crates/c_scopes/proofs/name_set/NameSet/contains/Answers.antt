use Rattle.std.proofs.Common.{reverse, ap, ◌∙◌, is_some}
use Rattle.c_places.proofs.Finding.{known_reversed}
use Rattle.c_rules.specs.Scopes.{is_among}
use Rattle.c_scopes.proofs.name_set.NameSet.contains.Goals as goal

pub returns : goal.returns
returns c =
    let names = c.self.inside.names in
    c.is_some.ensures ∙ ap is_some (c.newest.ensures (reverse names) c.self.invariant) ∙ known_reversed names c.args.name.now
    ∙ ap (is_among c.args.name.now) c.self.view_is
