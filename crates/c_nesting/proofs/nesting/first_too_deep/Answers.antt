use Rattle.std.proofs.Common.{arith, ◌∙◌, ap}
use Rattle.std.proofs.lemmas.Option.{slice_get-get_or}
use Rattle.c_tree.specs.Nesting.{measure, depth_after}
use Rattle.c_tree.specs.SpellsText.{kinds_of}
use Rattle.c_nesting.proofs.Depths.{begins, counts_go_on, within_on, length-kinds_of}
use Rattle.c_nesting.proofs.nesting.first_too_deep.Goals as goal

pub loop-i-init : goal.loop-i-init
loop-i-init c = begins (kinds_of c.args.tokens.now) c.new.result c.new.ensures

pub returns-then-counts-gt-MAX_NESTING : goal.returns-then-counts-gt-MAX_NESTING
returns-then-counts-gt-MAX_NESTING c =
    let here = slice_get-get_or c.args.tokens.now c.loop-i.i c.index-tokens-i.result (omega arith) in
    let later = counts_go_on c.args.tokens.now c.loop-i.i _ _ _ _ here c.kind_at.ensures c.loop-i.invariant.1 c.in_ok-take.ensures.counts in
    let depth = c.in_ok-take.ensures.exact ∙ ap measure later in
    (omega (arith, length-kinds_of c.args.tokens.now), omega (arith, depth), c.loop-i.invariant.2)

pub loop-i-preserved : goal.loop-i-preserved
loop-i-preserved c =
    let here = slice_get-get_or c.args.tokens.now c.loop-i.i c.index-tokens-i.result (omega arith) in
    let later = counts_go_on c.args.tokens.now c.loop-i.i _ _ _ _ here c.kind_at.ensures c.loop-i.invariant.1 c.in_ok-take.ensures.counts in
    let depth = c.in_ok-take.ensures.exact ∙ ap measure later in
    (c.in_ok-take.ensures.exact, later, within_on (depth_after (kinds_of c.args.tokens.now)) 500 c.loop-i.i c.loop-i.invariant.2 (omega (arith, depth)))
