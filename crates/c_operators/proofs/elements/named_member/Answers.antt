use Rattle.std.proofs.Common.{◌≡◌, sym, ap, subst, ◌∙◌}
use Rattle.std.specs.Option.{option_copied}
use Rattle.c_kinds.specs.Layouts.{member_in, members_by, members_of, struct_cells}
use Rattle.std.specs.Prelude.{slice_get}
use Rattle.c_operators.specs.Told.{HasMemberRoom}
use Rattle.c_operators.proofs.Cells.{found_room}
use Rattle.c_operators.proofs.elements.named_member.Goals as goal

pub member_place-requires-clause-room : goal.member_place-requires-clause-room
member_place-requires-clause-room c =
    let structs = c.args.given.now.names.now.structs in
    let name = c.args.name.now in
    let place = c.args.object.now.fixed in
    let found : option_copied c.member_in-member.result ≡ member_in (members_of structs c.args.number) name =
    c.member_in-member.ensures ∙ ap (λ ms. member_in ms name) (c.members_by.ensures ∙ ap members_by c.get-found.ensures.value) in
    subst (λ m. HasMemberRoom m place) (sym found)
    (found_room structs (struct_cells (slice_get structs c.args.number)) place (members_of structs c.args.number) name (c.requires.counted.members_fit c.args.number) c.requires.room)
