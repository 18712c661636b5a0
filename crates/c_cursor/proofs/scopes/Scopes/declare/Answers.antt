use Rattle.std.proofs.Common.{ap, ◌∙◌, subst, sym}
use Rattle.c_tree.specs.Places.{first_of, without_first}
use Rattle.c_cursor.specs.Meanings.{HasMeanings, entries_of}
use Rattle.c_cursor.proofs.Changes.{entries_of_declared}
use Rattle.c_cursor.proofs.scopes.Scopes.declare.Goals as goal

pub invariant_of-self-2 : goal.invariant_of-self-2
invariant_of-self-2 c =
    let blocks = c.replace-blocks.ensures.value in
    let declared = entries_of_declared c.self.inside.blocks c.push-2.new.self c.take_first-block.new.blocks c.take_first-block.result c.push.new.self (record { name = c.args.name; is_type = c.args.is_type })
    (c.take_first-block.ensures.block ∙ ap first_of blocks) (c.take_first-block.ensures.left ∙ ap without_first blocks) c.in_ok-push.ensures.ok c.in_ok-push-2.ensures.ok in
    subst (λ entries. HasMeanings entries c.add.new.self.by_name) declared
    (c.in_ok-add.ensures (entries_of c.self.inside.blocks)
    (subst (λ meanings. HasMeanings (entries_of c.self.inside.blocks) meanings.by_name) (sym c.replace-meanings.ensures.value) c.self.invariant))
