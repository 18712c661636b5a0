use Rattle.std.proofs.Common.{rules, arith, sym, ◌∙◌}
use Rattle.c_tree.specs.SpellsText.{kinds_of}
use Rattle.c_grammar.specs.ReadStatements.{declaration, statement, block, item}
use Rattle.c_cursor.proofs.Faults.{refused, refuses}
use Rattle.c_statements.proofs.Blocks.{block_begins, block_ends, block_closes, block_fails, block_goes_on}
use Rattle.c_statements.proofs.statements.Statements.items.Goals as goal

pub loop-turn-init : goal.loop-turn-init
loop-turn-init g c =
    let kinds = kinds_of c.args.self.now.inside.tokens.now in
    block_begins kinds (declaration kinds c.args.self.now.inside.depth) (statement kinds c.args.self.now.inside.depth) c.args.self.now.inside.steps _ _ _ (omega arith) (search rules)

pub loop-turn-preserved : goal.loop-turn-preserved
loop-turn-preserved g c =
    let kinds = kinds_of c.args.self.now.inside.tokens.now in
    block_goes_on kinds (declaration kinds c.args.self.now.inside.depth) (statement kinds c.args.self.now.inside.depth) c.args.self.now.inside.steps c.loop-turn._turn _ _ _ _ _ _
    c.loop-turn.invariant (omega arith) (λ h. c.in_default.not-CurlyCloses (c.mark_at.ensures.value ∙ h)) c.in_ok-item.ensures (search rules)

pub returns-in_err-item : goal.returns-in_err-item
returns-in_err-item g c =
    let kinds = kinds_of c.args.self.now.inside.tokens.now in
    let dn = declaration kinds c.args.self.now.inside.depth in
    let st = statement kinds c.args.self.now.inside.depth in
    refused (item kinds dn st c.loop-turn.place) (block kinds dn st c.args.self.now.inside.steps c.args.place.now) _ c.from_residual.result _ _ (search rules)
    (λ h. block_fails kinds dn st c.args.self.now.inside.steps c.loop-turn._turn _ _ _ c.loop-turn.invariant (omega arith)
    (λ h. c.in_default.not-CurlyCloses (c.mark_at.ensures.value ∙ h)) h) c.in_err-item.ensures

pub returns-in-CurlyCloses : goal.returns-in-CurlyCloses
returns-in-CurlyCloses g c =
    let kinds = kinds_of c.args.self.now.inside.tokens.now in
    block_closes kinds (declaration kinds c.args.self.now.inside.depth) (statement kinds c.args.self.now.inside.depth) c.args.self.now.inside.steps c.loop-turn._turn _ _ _
    c.loop-turn.invariant (omega arith) (sym c.in-CurlyCloses.ensures.value)

pub returns : goal.returns
returns g c =
    let kinds = kinds_of c.args.self.now.inside.tokens.now in
    refuses _ _ _ _ c.refuse.ensures
    (block_ends kinds (declaration kinds c.args.self.now.inside.depth) (statement kinds c.args.self.now.inside.depth) c.args.self.now.inside.steps c.loop-turn._turn _ _ _ c.loop-turn.invariant (omega arith))
