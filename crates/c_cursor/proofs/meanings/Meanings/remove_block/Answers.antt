use Rattle.std.proofs.Common.{reverse, ◌++◌, ap, subst, ◌∙◌}
use Rattle.std.proofs.lemmas.List.{nil_from_length}
use Rattle.c_cursor.specs.Meanings.{HasMeanings}
use Rattle.c_cursor.proofs.Changes.{reverse_push}
use Rattle.c_cursor.proofs.meanings.Meanings.remove_block.Goals as goal

pub loop-entry-preserved : goal.loop-entry-preserved
loop-entry-preserved c entries had =
    let older = c.next.new.self.iter.rest.now in
    c.remove.ensures (reverse older ++ entries)
    (subst (λ block. HasMeanings block c.loop-entry.self.by_name)
    (ap (λ block. reverse block ++ entries) c.in-Some.ensures.steps ∙ reverse_push older c.in-Some.entry.now entries) (c.loop-entry.invariant entries had))

pub returns : goal.returns
returns c entries had =
    subst (λ block. HasMeanings (reverse block ++ entries) c.loop-entry.self.by_name) (nil_from_length _ c.in-None.ensures.steps.0) (c.loop-entry.invariant entries had)
