use Rattle.std.proofs.Common.{ap, ◌∙◌, slice_get}
use Rattle.c_kinds.specs.Layouts.{member_in, members_of}
use Rattle.c_rules.specs.Calls.{is_some}
use Rattle.c_scopes.proofs.Members.{known_member, no_member}
use Rattle.c_scopes.proofs.name_table.NameTable.has_member.Goals as goal

pub returns-in-Some : goal.returns-in-Some
returns-in-Some c =
    let structs = c.self.inside.names.structs in
    c.contains.ensures ∙ known_member structs c.args.number c.in-Some.names.now c.args.name.now (c.in-Some.ensures.value ∙ ap (λ names. slice_get names c.args.number) c.self.invariant.0)
    ∙ ap (λ names. is_some (member_in (members_of names.structs c.args.number) c.args.name.now)) c.self.view_is

pub returns-in-None : goal.returns-in-None
returns-in-None c =
    no_member c.self.inside.names.structs c.args.number c.args.name.now (c.in-None.ensures.value ∙ ap (λ names. slice_get names c.args.number) c.self.invariant.0)
    ∙ ap (λ names. is_some (member_in (members_of names.structs c.args.number) c.args.name.now)) c.self.view_is
