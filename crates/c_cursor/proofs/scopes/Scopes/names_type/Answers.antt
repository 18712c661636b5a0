use Rattle.std.proofs.Common.{ap, ◌∙◌, false}
use Rattle.std.specs.Option.{unwrap_or}
use Rattle.c_tree.specs.Places.{names_type}
use Rattle.c_cursor.specs.Meanings.{entries_of}
use Rattle.c_cursor.proofs.Changes.{names_type_is}
use Rattle.c_cursor.proofs.scopes.Scopes.names_type.Goals as goal

pub returns : goal.returns
returns c =
    c.unwrap_or.ensures ∙ ap (λ found. unwrap_or found false) (c.newest.ensures (entries_of c.self.inside.blocks) c.self.invariant)
    ∙ names_type_is c.self.inside.blocks c.args.name.now ∙ ap (λ blocks. names_type blocks c.args.name.now) c.self.view_is
