use Rattle.std.proofs.Common.{◌∙◌, sym, arith}
use Rattle.c_tree.specs.SpellsText.{kinds_of}
use Rattle.c_declarators.proofs.DeclaratorSteps.{suffixes_array, suffixes_function, suffixes_moved}
use Rattle.c_declarators.proofs.declarators.Declarators.with_suffixes.Goals as goal
use Rattle.c_declarators.proofs.declarators.Declarators.with_suffixes.Goals.{in-SquareOpens+in_ok-whole-in-SquareOpens, in-RoundOpens+in_ok-whole-in-RoundOpens}

pub loop-turn-preserved : goal.loop-turn-preserved
loop-turn-preserved g c =
    let kinds = kinds_of c.args.self.now.tokens.now in
    let n = c.args.self.now.depth in
    elim c.match-mark_at.branch [
      | in-SquareOpens+in_ok-whole-in-SquareOpens w ↦
          c.loop-turn.invariant ∙ (suffixes_array kinds n n c.loop-turn._turn _ _ _ _ (omega arith) (sym w.in-SquareOpens.ensures.value) w.in_ok-whole-in-SquareOpens.ensures
          ∙ suffixes_moved kinds n _ _ _ _ _ w.whole-is w.place-is)
      | in-RoundOpens+in_ok-whole-in-RoundOpens w ↦
          c.loop-turn.invariant ∙ (suffixes_function kinds n n c.loop-turn._turn _ _ _ _ (omega arith) (sym w.in-RoundOpens.ensures.value) w.in_ok-whole-in-RoundOpens.ensures
          ∙ suffixes_moved kinds n _ _ _ _ _ w.whole-is w.place-is)
    ]
