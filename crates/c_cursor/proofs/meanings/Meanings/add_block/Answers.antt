use Rattle.std.proofs.Common.{◌≡◌, ◌+◌, reverse, take, ◌∷◌, [], ◌++◌, ◌∙◌, ap, sym, subst, arith}
use Rattle.std.proofs.lemmas.Grind.{common_steps}
use Rattle.c_cursor.specs.Meanings.{HasMeanings}
use Rattle.c_cursor.proofs.Changes.{reverse_push}
use Rattle.c_cursor.proofs.meanings.Meanings.add_block.Goals as goal

pub loop-entry-preserved : goal.loop-entry-preserved
loop-entry-preserved c entries had =
    let older = take c.loop-entry.entry-index c.as_slice-entry-items.result.now in
    let now : take (c.loop-entry.entry-index + 1) c.as_slice-entry-items.result.now ≡ older ++ c.entry-item.result ∷ [] = grind (arith, common_steps) in
    subst (λ block. HasMeanings block c.add.new.self.by_name) (sym (reverse_push older c.entry-item.result entries) ∙ ap (λ block. reverse block ++ entries) (sym now))
    (c.in_ok-add.ensures (reverse older ++ entries) (c.loop-entry.invariant entries had))
