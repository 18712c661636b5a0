use Rattle.std.proofs.Common.{◌-◌, rules, arith, sym, ◌∙◌}
use Rattle.c_tree.specs.SpellsText.{kinds_of}
use Rattle.c_grammar.specs.Marks.{mark_at}
use Rattle.c_grammar.specs.Readers.{declarator}
use Rattle.c_grammar.specs.ReadTypes.{separated, separated_after}
use Rattle.c_grammar.specs.ReadStatements.{initialiser, declared}
use Rattle.c_cursor.proofs.Faults.{refused, refuses}
use Rattle.c_declarations.proofs.Commas.{further_begins, further_stops, further_fails, further_goes_on, further_ends}
use Rattle.c_declarations.proofs.declarations.Declarations.further_names.Goals as goal

pub loop-turn-init : goal.loop-turn-init
loop-turn-init g c =
    let kinds = kinds_of c.args.self.now.tokens.now in
    let one = declared kinds (declarator kinds c.args.self.now.depth) (initialiser kinds c.args.self.now.depth) c.args.defines in
    further_begins kinds one c.args.count _ _ _ _ (omega arith) (search rules)

pub loop-turn-preserved : goal.loop-turn-preserved
loop-turn-preserved g c =
    let kinds = kinds_of c.args.self.now.tokens.now in
    let one = declared kinds (declarator kinds c.args.self.now.depth) (initialiser kinds c.args.self.now.depth) c.args.defines in
    further_goes_on kinds one c.args.count c.loop-turn._turn _ _ _ _ _ _ _ c.loop-turn.invariant (omega arith) (sym c.in-Comma.ensures.value) c.skip.ensures c.in_ok-next.ensures (search rules)

pub returns-in_err-next : goal.returns-in_err-next
returns-in_err-next g c =
    let kinds = kinds_of c.args.self.now.tokens.now in
    let one = declared kinds (declarator kinds c.args.self.now.depth) (initialiser kinds c.args.self.now.depth) c.args.defines in
    refused (one c.skip.new.self) (separated_after (separated kinds one c.args.count) c.args.first c.args.place.now (mark_at kinds c.args.place.now)) _ c.from_residual-in_err-next.result _ _ (search rules)
    (λ h. further_fails kinds one c.args.count c.loop-turn._turn _ _ _ _ c.loop-turn.invariant (omega arith) (sym c.in-Comma.ensures.value) c.skip.ensures h) c.in_err-next.ensures

pub returns-in_default : goal.returns-in_default
returns-in_default g c =
    let kinds = kinds_of c.args.self.now.tokens.now in
    let one = declared kinds (declarator kinds c.args.self.now.depth) (initialiser kinds c.args.self.now.depth) c.args.defines in
    further_stops kinds one (c.args.count - c.loop-turn._turn) _ _ _ c.loop-turn.invariant (λ h. c.in_default.not-Comma (c.mark_at.ensures.value ∙ h))

pub returns-in-Comma-mark_at : goal.returns-in-Comma-mark_at
returns-in-Comma-mark_at g c =
    let kinds = kinds_of c.args.self.now.tokens.now in
    let one = declared kinds (declarator kinds c.args.self.now.depth) (initialiser kinds c.args.self.now.depth) c.args.defines in
    refuses _ _ _ _ c.refuse.ensures (further_ends kinds one c.args.count c.loop-turn._turn _ _ _ c.loop-turn.invariant (omega arith) (sym c.in-Comma-mark_at.ensures.value))

pub returns-in_default-mark_at : goal.returns-in_default-mark_at
returns-in_default-mark_at g c =
    let kinds = kinds_of c.args.self.now.tokens.now in
    let one = declared kinds (declarator kinds c.args.self.now.depth) (initialiser kinds c.args.self.now.depth) c.args.defines in
    further_stops kinds one (c.args.count - c.loop-turn._turn) _ _ _ c.loop-turn.invariant (search rules)
