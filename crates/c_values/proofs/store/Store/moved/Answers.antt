use Rattle.std.proofs.Common.{sym, ap, ◌∙◌}
use Rattle.std.specs.Int.{w128}
use Rattle.std.specs.Prelude.{pos, ◌+ℤ◌, ◌*ℤ◌}
use Rattle.std.specs.Option.{option_copied}
use Rattle.std.proofs.lemmas.Int.{to_z-of_z}
use Rattle.c_model.specs.Store.{moved, moved_to}
use Rattle.c_values.proofs.store.Store.moved.Goals as goal

pub returns-in-Inside : goal.returns-in-Inside
returns-in-Inside c =
    let object = c.in-Inside.object in
    let offset = c.in-Inside.offset in
    c.moved_in.ensures
    ∙ (ap (λ x. moved_to object (pos offset +ℤ (x *ℤ pos c.args.size)) (option_copied c.find.result)) (to_z-of_z w128 c.args.n c.ranges.n)
    ∙ (ap (moved_to object (pos offset +ℤ (c.args.n *ℤ pos c.args.size))) c.find.ensures
    ∙ ap (λ p. moved c.args.size c.args.n p c.args.self.now) (sym c.in-Inside.is)))
