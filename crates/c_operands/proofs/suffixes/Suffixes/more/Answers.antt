use Rattle.std.proofs.Common.{◌≡◌, ◌-◌, ◌∙◌, arith, rules}
use Rattle.c_tree.specs.SpellsText.{kinds_of}
use Rattle.c_grammar.specs.ReadExpressions.{Refuses}
use Rattle.c_grammar.specs.Readers.{more}
use Rattle.c_operands.specs.Suffixed.{suffixed}
use Rattle.c_operands.proofs.Gathered.{more_stops, more_none, more_goes, more_refused}
use Rattle.c_operands.proofs.suffixes.Suffixes.more.Goals as goal

pub loop-turn-preserved : goal.loop-turn-preserved
loop-turn-preserved g c =
    let kinds = kinds_of c.args.self.now.tokens.now in
    more_goes kinds c.args.self.now.depth c.loop-turn.turn (c.args.self.now.depth - c.loop-turn.turn - 1) _ _ _ _ _ _ _ _ c.suffix-next.result c.loop-turn.invariant (omega arith) (omega arith)
    c.suffix-next.ensures.value (search rules) c.in_ok-left.ensures (search rules)

pub returns-in_err-left : goal.returns-in_err-left
returns-in_err-left g c =
    let kinds = kinds_of c.args.self.now.tokens.now in
    let refuses : suffixed kinds (c.args.self.now.depth - c.loop-turn.turn - 1) c.loop-turn.left c.loop-turn.place c.suffix-next.result ≡ Refuses
    → more kinds c.args.self.now.depth c.args.reached c.args.least c.args.left c.args.place.now ≡ Refuses =
    λ h. c.loop-turn.invariant ∙ more_refused kinds c.args.self.now.depth c.loop-turn.turn (c.args.self.now.depth - c.loop-turn.turn - 1) _ _ _ _ c.suffix-next.result
    (omega arith) (omega arith) c.suffix-next.ensures.value (search rules) h in
    first_of (search (rules, refuses), grind (arith, refuses))

pub returns-then-not-goes_on : goal.returns-then-not-goes_on
returns-then-not-goes_on g c =
    let kinds = kinds_of c.args.self.now.tokens.now in
    c.loop-turn.invariant ∙ more_stops kinds _ _ _ _ _ c.suffix-next.result c.suffix-next.ensures.value (search rules)

pub returns-then-goes_on : goal.returns-then-goes_on
returns-then-goes_on g c =
    let kinds = kinds_of c.args.self.now.tokens.now in
    rw c.refuse.ensures (c.loop-turn.invariant ∙ more_none kinds (c.args.self.now.depth - c.loop-turn.turn) _ _ _ _ c.suffix.result (omega arith) c.suffix.ensures.value (search rules))

pub returns : goal.returns
returns g c =
    let kinds = kinds_of c.args.self.now.tokens.now in
    c.loop-turn.invariant ∙ more_stops kinds _ _ _ _ _ c.suffix.result c.suffix.ensures.value (search rules)
