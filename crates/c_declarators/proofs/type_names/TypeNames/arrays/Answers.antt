use Rattle.std.proofs.Common.{◌≡◌, sym, ◌∙◌, arith, rules}
use Rattle.c_tree.specs.SpellsText.{kinds_of}
use Rattle.c_grammar.specs.ReadExpressions.{Refuses}
use Rattle.c_grammar.specs.ReadTypes.{arrays}
use Rattle.c_grammar.specs.Readers.{read}
use Rattle.c_declarators.specs.TypeNames.{array_read}
use Rattle.c_declarators.proofs.Arrays.{arrays_next, arrays_refused, arrays_end, arrays_none}
use Rattle.c_declarators.proofs.type_names.TypeNames.arrays.Goals as goal

pub returns-in_err-whole-in-SquareOpens : goal.returns-in_err-whole-in-SquareOpens
returns-in_err-whole-in-SquareOpens g c =
    let kinds = kinds_of c.args.self.now.tokens.now in
    let d = c.args.self.now.depth in
    let refuses : array_read kinds d c.loop-turn.whole c.loop-turn.place ≡ Refuses → arrays kinds (read kinds d) c.args.limit c.args.inner c.args.place.now ≡ Refuses =
    λ h. c.loop-turn.invariant ∙ arrays_refused kinds d c.args.limit c.loop-turn._turn c.loop-turn.whole c.loop-turn.place (omega arith) (sym c.in-SquareOpens.ensures.value) h in
    first_of (search (rules, refuses), grind (arith, refuses))

pub returns-in_default : goal.returns-in_default
returns-in_default g c =
    let kinds = kinds_of c.args.self.now.tokens.now in
    c.loop-turn.invariant ∙ arrays_end kinds (read kinds c.args.self.now.depth) c.args.limit c.loop-turn._turn c.loop-turn.whole c.loop-turn.place (omega arith)
    (λ e. c.in_default.not-SquareOpens (c.mark_at.ensures.value ∙ e))

pub loop-turn-preserved : goal.loop-turn-preserved
loop-turn-preserved g c =
    let kinds = kinds_of c.args.self.now.tokens.now in
    c.loop-turn.invariant ∙ arrays_next kinds c.args.self.now.depth c.args.limit c.loop-turn._turn _ _ _ _ (omega arith) (sym c.in-SquareOpens.ensures.value) c.in_ok-whole-in-SquareOpens.ensures

pub returns : goal.returns
returns g c =
    let kinds = kinds_of c.args.self.now.tokens.now in
    rw c.refuse.ensures (c.loop-turn.invariant ∙ arrays_none kinds (read kinds c.args.self.now.depth) c.args.limit c.loop-turn._turn _ _ (omega arith))
