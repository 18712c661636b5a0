use Rattle.std.proofs.Common.{rules, arith}
use Rattle.c_tree.specs.SpellsText.{kinds_of}
use Rattle.c_grammar.specs.ReadText.{external, externals}
use Rattle.c_cursor.proofs.Faults.{refused, refuses}
use Rattle.c_parser.proofs.Texts.{externals_begin, externals_ends, externals_close, externals_fail, externals_go_on}
use Rattle.c_parser.proofs.externals.externals.Goals as goal

pub loop-turn-init : goal.loop-turn-init
loop-turn-init c = externals_begin (kinds_of c.args.tokens.now) c.args.depth c.args.count _ _ _ (omega arith) (search rules)

pub loop-turn-preserved : goal.loop-turn-preserved
loop-turn-preserved c =
    externals_go_on (kinds_of c.args.tokens.now) c.args.depth c.args.count c.loop-turn._turn _ _ _ _ _ _ c.loop-turn.invariant (omega arith) (search rules)
    c.in_ok-next.ensures (search rules)

pub returns-in_err-next : goal.returns-in_err-next
returns-in_err-next c =
    let kinds = kinds_of c.args.tokens.now in
    refused (external kinds c.args.depth c.loop-turn.place) (externals kinds c.args.depth c.args.count c.args.place.now) _ c.from_residual.result _ _ (search rules)
    (λ h. externals_fail kinds c.args.depth c.args.count c.loop-turn._turn _ _ _ c.loop-turn.invariant (omega arith) (search rules) h) c.in_err-next.ensures

pub returns : goal.returns
returns c = refuses _ _ _ _ c.refuse.ensures (externals_ends (kinds_of c.args.tokens.now) c.args.depth c.args.count c.loop-turn._turn _ _ _ c.loop-turn.invariant (omega arith))

pub returns-then-is_none : goal.returns-then-is_none
returns-then-is_none c =
    externals_close (kinds_of c.args.tokens.now) c.args.depth c.args.count c.loop-turn._turn _ _ _ c.loop-turn.invariant (omega arith) (search rules)
