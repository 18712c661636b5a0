use Rattle.std.proofs.Common.{arith, ◌≡◌, ◌+◌, ◌*◌, ◌∷◌, drop, ap, sym, ◌∙◌}
use Rattle.std.proofs.lemmas.Grind.{common_steps}
use Rattle.c_kinds.specs.declared.types.Derivation.TheVariants.{Array}
use Rattle.c_kinds.specs.Layouts.{repeated, cell_types_by}
use Rattle.c_cells.proofs.Repeats.{times}
use Rattle.c_cells.proofs.elements.elements.Goals as goal

pub loop-at-preserved : goal.loop-at-preserved
loop-at-preserved c = λ of_struct base is_const.
    let derived = c.args.derived.now in
    let at = c.loop-at.at in
    let length = c.in-Array.length in
    let rest = cell_types_by of_struct (drop (at + 1) derived) base is_const in
    let next : drop at derived ≡ Array length ∷ drop (at + 1) derived = grind (arith, common_steps) in
    ap (λ n. repeated n rest) c.in_ok-count-in-Array.ensures
    ∙ (times c.loop-at.count length rest
    ∙ (ap (λ ds. repeated c.loop-at.count (cell_types_by of_struct ds base is_const)) (sym next) ∙ c.loop-at.invariant of_struct base is_const))
