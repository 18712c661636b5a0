use Rattle.std.proofs.Common.{◌≡◌, ◌<◌, length, ap, sym, ◌∙◌, arith}
use Rattle.c_scopes.specs.Tables.{member_names}
use Rattle.c_scopes.proofs.Members.{names_added}
use Rattle.c_scopes.proofs.name_table.NameTable.add_member.Goals as goal

pub invariant_of-self-2 : goal.invariant_of-self-2
invariant_of-self-2 c =
    let structs = c.replace-structs.result in
    let same : length structs ≡ length c.args.self.now.structs = ap length (c.replace-structs.ensures.value ∙ ap (λ names. names.structs) c.self.view_is) in
    let within : c.args.number < length structs = omega arith in
    let is = c.replace-members.ensures.value ∙ c.self.invariant.0 ∙ ap member_names (sym c.replace-structs.ensures.value) in (
      names_added structs c.in_ok-structs.structs c.replace-members.result c.in_ok-members.members c.args.number c.args.cells c.args.member c.in_ok-name.name c.args.has_const
          within is c.in_ok-name.ensures c.in_ok-structs.ensures c.in_ok-members.ensures,
      c.self.invariant.1,
    )
