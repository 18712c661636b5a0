use Rattle.std.proofs.Common.{sym, subst}
use Rattle.c_kinds.specs.Layouts.{cell_count}
use Rattle.c_kinds.specs.Types.{inner}
use Rattle.c_kinds.specs.declared.types.CType.{CType}
use Rattle.c_kinds.specs.declared.typed.Typed.{Typed}
use Rattle.c_arithmetic.specs.Places.{HasRoom}
use Rattle.c_operators.specs.Told.{layout_at}
use Rattle.c_operators.proofs.PlaceRooms.{pointed_room}
use Rattle.c_operators.proofs.elements.indirection.Goals as goal

pub returns-clause-room : goal.returns-clause-room
returns-clause-room c =
    let l = layout_at c.args.given.now in
    let p = c.args.p.now in
    let led = c.followed-place.ensures.room l (inner p.ctype) c.requires.counted c.requires.leads in
    let copied = subst (λ (t : CType). HasRoom (cell_count l.structs t) c.followed-place.result) (sym c.in_ok-ctype.ensures) led in
    let made = subst (λ (x : Typed). HasRoom (cell_count l.structs x.ctype) x.fixed) (sym c.place_typed-typed.ensures) copied in
    pointed_room l c.args.at p c.place_typed-typed.result c.needs_cells.result c.needs_cells.ensures made
