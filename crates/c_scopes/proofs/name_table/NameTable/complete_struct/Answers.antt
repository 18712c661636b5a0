use Rattle.std.proofs.Common.{◌≡◌, ◌<◌, length, ap, sym, ◌∙◌, arith}
use Rattle.c_scopes.specs.Tables.{member_names}
use Rattle.c_scopes.proofs.Members.{names_kept}
use Rattle.c_scopes.proofs.name_table.NameTable.complete_struct.Goals as goal

pub invariant_of-self : goal.invariant_of-self
invariant_of-self c =
    let structs = c.replace-structs.result in
    let same : length structs ≡ length c.args.self.now.structs = ap length (c.replace-structs.ensures.value ∙ ap (λ names. names.structs) c.self.view_is) in
    let within : c.args.number < length structs = omega arith in (
      c.self.invariant.0 ∙ ap member_names (sym c.replace-structs.ensures.value)
          ∙ sym (names_kept structs c.completed.result c.args.number c.args.at within c.completed.ensures),
      c.self.invariant.1,
    )
