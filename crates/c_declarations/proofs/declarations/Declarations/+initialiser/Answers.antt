use Rattle.std.proofs.Common.{◌-◌, rules, arith, sym, ◌∙◌}
use Rattle.c_tree.specs.SpellsText.{kinds_of}
use Rattle.c_grammar.specs.Marks.{mark_at}
use Rattle.c_grammar.specs.ReadTypes.{listed}
use Rattle.c_grammar.specs.ReadStatements.{initialiser}
use Rattle.c_cursor.proofs.Faults.{refused, refuses}
use Rattle.c_cursor.proofs.Listed.{listed_begins, listed_refused, listed_none, listed_last, listed_comma_last, listed_next}
use Rattle.c_declarations.proofs.Initialisers.{initialiser_none, initialiser_deeper, initialiser_other}
use Rattle.c_declarations.proofs.declarations.Declarations.+initialiser.Goals as goal

pub initialiser-returns-then-depth-eq0 : goal.initialiser-returns-then-depth-eq0
initialiser-returns-then-depth-eq0 g t c = refuses _ _ _ _ c.refuse.ensures (initialiser_none (kinds_of c.args.self.now.tokens.now) c.args.depth c.args.place.now (omega arith))

pub initialiser-returns : goal.initialiser-returns
initialiser-returns g t c = rw (initialiser_deeper (kinds_of c.args.self.now.tokens.now) c.args.depth c.args.place.now (omega arith)) c.deeper_initialiser.ensures

pub deeper_initialiser-returns-in_default : goal.deeper_initialiser-returns-in_default
deeper_initialiser-returns-in_default g t c =
    let kinds = kinds_of c.args.self.now.tokens.now in
    rw (initialiser_other kinds c.args.depth (listed kinds (initialiser kinds (c.args.depth - 1)) (c.args.depth - 1)) c.args.place.now (mark_at kinds c.args.place.now)
    (λ h. c.in_default.not-CurlyOpens (c.mark_at.ensures.value ∙ h))) c.initial_value.ensures

pub initialisers-loop-turn-init : goal.initialisers-loop-turn-init
initialisers-loop-turn-init g t c =
    let kinds = kinds_of c.args.self.now.tokens.now in
    listed_begins kinds (initialiser kinds c.args.depth) _ _ _ _ (omega arith) (search rules)

pub initialisers-returns-in_err-part : goal.initialisers-returns-in_err-part
initialisers-returns-in_err-part g t c =
    let kinds = kinds_of c.args.self.now.tokens.now in
    let one = initialiser kinds c.args.depth in
    refused (one c.loop-turn.place) (listed kinds one c.args.depth c.args.place.now) _ c.from_residual.result _ _ (search rules)
    (λ h. c.loop-turn.invariant ∙ listed_refused kinds one c.args.depth c.loop-turn._turn _ _ (omega arith) h) c.in_err-part.ensures

pub initialisers-returns-in_default : goal.initialisers-returns-in_default
initialisers-returns-in_default g t c =
    let kinds = kinds_of c.args.self.now.tokens.now in
    listed_last kinds (initialiser kinds c.args.depth) c.args.depth c.loop-turn._turn _ _ _ _ _ _ c.loop-turn.invariant (omega arith)
    c.in_ok-part.ensures (search rules) (λ h. c.in_default.not-Comma (c.mark_at.ensures.value ∙ h))

pub initialisers-returns-in-CurlyCloses : goal.initialisers-returns-in-CurlyCloses
initialisers-returns-in-CurlyCloses g t c =
    let kinds = kinds_of c.args.self.now.tokens.now in
    listed_comma_last kinds (initialiser kinds c.args.depth) c.args.depth c.loop-turn._turn _ _ _ _ _ _ _ c.loop-turn.invariant (omega arith)
    c.in_ok-part.ensures (search rules) (sym c.in-Comma.ensures.value) c.skip.ensures (sym c.in-CurlyCloses.ensures.value)

pub initialisers-returns : goal.initialisers-returns
initialisers-returns g t c =
    let kinds = kinds_of c.args.self.now.tokens.now in
    refuses _ _ _ _ c.refuse.ensures
    (c.loop-turn.invariant ∙ listed_none kinds (initialiser kinds c.args.depth) c.args.depth c.loop-turn._turn _ _ (omega arith))

pub initialisers-loop-turn-preserved : goal.initialisers-loop-turn-preserved
initialisers-loop-turn-preserved g t c =
    let kinds = kinds_of c.args.self.now.tokens.now in
    listed_next kinds (initialiser kinds c.args.depth) c.args.depth c.loop-turn._turn _ _ _ _ _ _ _ c.loop-turn.invariant (omega arith)
    c.in_ok-part.ensures (search rules) (sym c.in-Comma.ensures.value) c.skip.ensures
    (λ h. c.in_default-mark_at.not-CurlyCloses (c.mark_at-in-loop-turn.ensures.value ∙ h))
