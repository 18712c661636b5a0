use Rattle.std.proofs.Common.{◌≡◌, ◌-◌, sym, ◌∙◌, arith, rules}
use Rattle.c_tree.specs.SpellsText.{kinds_of}
use Rattle.c_grammar.specs.ReadExpressions.{Refuses}
use Rattle.c_grammar.specs.ReadTypes.{qualifiers, unnamed}
use Rattle.c_grammar.specs.Readers.{read}
use Rattle.c_declarators.proofs.Unnamed.{unnamed_none, unnamed_arrays, unnamed_unread, unnamed_unqualified, unnamed_refused, unnamed_pointer}
use Rattle.c_declarators.proofs.type_names.TypeNames.+unnamed.Goals as goal

pub unnamed-returns-then-limit-eq0 : goal.unnamed-returns-then-limit-eq0
unnamed-returns-then-limit-eq0 g t c = rw c.refuse.ensures (unnamed_none _ _ _ _ c.if-limit-eq0.true)

pub unnamed-returns-in_default : goal.unnamed-returns-in_default
unnamed-returns-in_default g t c =
    let kinds = kinds_of c.args.self.now.tokens.now in
    rw (unnamed_arrays kinds (read kinds c.args.self.now.depth) c.args.limit c.args.place.now (omega arith) (λ e. c.in_default.not-Star (c.mark_at.ensures.value ∙ e))) (rw c.at-at.ensures at c.arrays.ensures)

pub unnamed-returns-in_err-qualifiers : goal.unnamed-returns-in_err-qualifiers
unnamed-returns-in_err-qualifiers g t c =
    let kinds = kinds_of c.args.self.now.tokens.now in
    let rd = read kinds c.args.self.now.depth in
    let refuses : qualifiers kinds (c.args.limit - 1) c.skip.new.self ≡ Refuses → unnamed kinds rd c.args.limit c.args.place.now ≡ Refuses =
    λ h. unnamed_unread kinds rd c.args.limit c.args.place.now c.skip.new.self (omega arith) (sym c.in-Star.ensures.value) c.skip.ensures h in
    first_of (search (rules, refuses), grind (arith, refuses))

pub unnamed-returns-then-not-may_qualify_type : goal.unnamed-returns-then-not-may_qualify_type
unnamed-returns-then-not-may_qualify_type g t c =
    let kinds = kinds_of c.args.self.now.tokens.now in
    rw c.refuse-then-not-may_qualify_type.ensures
    (unnamed_unqualified kinds (read kinds c.args.self.now.depth) c.args.limit c.args.place.now c.skip.new.self c.qualifiers.new.place c.in_ok-qualifiers.qualifiers (omega arith)
    (sym c.in-Star.ensures.value) c.skip.ensures c.in_ok-qualifiers.ensures cc)

pub unnamed-returns-in_err-pointed : goal.unnamed-returns-in_err-pointed
unnamed-returns-in_err-pointed g t c =
    let kinds = kinds_of c.args.self.now.tokens.now in
    let rd = read kinds c.args.self.now.depth in
    let refuses : unnamed kinds rd (c.args.limit - 1) c.qualifiers.new.place ≡ Refuses → unnamed kinds rd c.args.limit c.args.place.now ≡ Refuses =
    λ h. unnamed_refused kinds rd c.args.limit c.args.place.now c.skip.new.self c.qualifiers.new.place c.in_ok-qualifiers.qualifiers (omega arith)
    (sym c.in-Star.ensures.value) c.skip.ensures c.in_ok-qualifiers.ensures (cc) h in
    first_of (search (rules, refuses), grind (arith, refuses))

pub unnamed-returns : goal.unnamed-returns
unnamed-returns g t c =
    let kinds = kinds_of c.args.self.now.tokens.now in
    let whole = unnamed_pointer kinds (read kinds c.args.self.now.depth) c.args.limit c.args.place.now c.skip.new.self c.qualifiers.new.place c.pointed.new.place c.in_ok-qualifiers.qualifiers
    c.in_ok-pointed.field-0 (omega arith) (sym c.in-Star.ensures.value) c.skip.ensures c.in_ok-qualifiers.ensures (cc) c.in_ok-pointed.ensures in
    rw c.at-at.ensures (search (rules, whole))
