use Rattle.std.proofs.Common.{◌≡◌, ◌∙◌, sym, arith, rules}
use Rattle.c_tree.specs.SpellsText.{kinds_of}
use Rattle.c_grammar.specs.ReadExpressions.{Refuses, items}
use Rattle.c_grammar.specs.Readers.{read}
use Rattle.c_operands.proofs.Gathered.{items_begins, items_refused, items_none, items_last, items_next}
use Rattle.c_operands.proofs.suffixes.Suffixes.items.Goals as goal

pub loop-turn-init : goal.loop-turn-init
loop-turn-init g c = items_begins _ _ _ _ _ _ (omega arith) (search rules)

pub loop-turn-preserved : goal.loop-turn-preserved
loop-turn-preserved g c =
    let kinds = kinds_of c.args.self.now.tokens.now in
    items_next kinds (read kinds c.args.depth) c.args.depth c.loop-turn._turn _ _ _ _ _ _ _ c.loop-turn.invariant (omega arith) c.in_ok-part.ensures (search rules) (sym c.in-Commas.ensures.value) c.skip.ensures

pub returns-in_err-part : goal.returns-in_err-part
returns-in_err-part g c =
    let kinds = kinds_of c.args.self.now.tokens.now in
    let refuses : read kinds c.args.depth 1 c.loop-turn.place ≡ Refuses → items kinds (read kinds c.args.depth) c.args.depth c.args.place.now ≡ Refuses =
    λ h. c.loop-turn.invariant ∙ items_refused kinds (read kinds c.args.depth) c.args.depth c.loop-turn._turn _ _ (omega arith) h in
    first_of (search (rules, refuses), grind (arith, refuses))

pub returns-in_default : goal.returns-in_default
returns-in_default g c =
    let kinds = kinds_of c.args.self.now.tokens.now in
    items_last kinds (read kinds c.args.depth) c.args.depth c.loop-turn._turn _ _ _ _ _ _ c.loop-turn.invariant (omega arith) c.in_ok-part.ensures (search rules)
    (λ e. c.in_default.not-Commas (c.suffix.ensures.value ∙ e))

pub returns : goal.returns
returns g c =
    let kinds = kinds_of c.args.self.now.tokens.now in
    rw c.refuse.ensures (c.loop-turn.invariant ∙ items_none kinds (read kinds c.args.depth) c.args.depth c.loop-turn._turn _ _ (omega arith))
