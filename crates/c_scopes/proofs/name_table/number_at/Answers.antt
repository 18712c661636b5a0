use Rattle.std.proofs.Common.{Some, sym, ◌∙◌}
use Rattle.c_scopes.proofs.Keyed.{known_number}
use Rattle.c_scopes.proofs.Named.{got_at}
use Rattle.c_scopes.proofs.name_table.number_at.Goals as goal

pub returns-then-same_signature : goal.returns-then-same_signature
returns-then-same_signature c is =
    known_number c.args.signature.now c.args.signatures.now c.args.place c.in-Some.known.now is
    (sym (got_at c.args.signatures.now c.args.place (Some c.in-Some.known) c.in-Some.ensures.lookup)) (sym c.same_signature.ensures ∙ c.if-same_signature.true)
