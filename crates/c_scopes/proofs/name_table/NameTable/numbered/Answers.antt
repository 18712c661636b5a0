use Rattle.std.proofs.Common.{map, ap, sym, ◌∙◌}
use Rattle.c_kinds.specs.Types.{signature_number}
use Rattle.c_scopes.specs.Firsts.{first_place}
use Rattle.c_scopes.specs.Keys.{signature_key}
use Rattle.c_scopes.proofs.Keyed.{new_number}
use Rattle.c_scopes.proofs.name_table.NameTable.numbered.Goals as goal

pub returns-in-Some : goal.returns-in-Some
returns-in-Some c =
    let keys = map signature_key c.self.inside.names.signatures in
    let g = c.args.signature.now in
    c.number_at.ensures
    (c.in-Some.ensures keys c.self.invariant.1 ∙ ap (first_place keys) c.requires ∙ ap (λ fs. first_place (map signature_key fs) (signature_key g)) (sym c.as_slice.ensures))
    ∙ ap (λ fs. signature_number fs g) c.as_slice.ensures ∙ ap (λ names. signature_number names.signatures g) c.self.view_is

pub returns-in-None : goal.returns-in-None
returns-in-None c =
    let keys = map signature_key c.self.inside.names.signatures in
    let g = c.args.signature.now in
    c.len.ensures ∙ new_number g c.self.inside.names.signatures (c.in-None.ensures keys c.self.invariant.1 ∙ ap (first_place keys) c.requires)
    ∙ ap (λ names. signature_number names.signatures g) c.self.view_is
