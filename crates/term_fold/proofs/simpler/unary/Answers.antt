use Rattle.std.proofs.Common.{rules, ◌≡◌, refl, ap, ◌∙◌}
use Rattle.std.proofs.lemmas.Int.{to_z-of_z}
use Rattle.std.specs.Int.{w128}
use Rattle.term_core.specs.declared.term.UnaryOp.{UnaryOp}
use Rattle.term_core.specs.declared.term.TermKind.TheVariants.{Unary}
use Rattle.term_core.specs.Term.{unary_value}
use Rattle.term_fold.proofs.Known.{unary_computed, unary_back}
use Rattle.term_fold.proofs.simpler.unary.Goals as goal

pub returns-in-Some : goal.returns-in-Some
returns-in-Some c =
    let n = c.in-Some.number in
    let held_number = to_z-of_z w128 n (search rules) in
    unary_computed c.args.terms.now c.args.shape c.args.shape c.args.op c.args.of n _ refl c.in-Some.ensures
    (to_z-of_z w128 c.unary.result (search rules) ∙ (c.unary.ensures ∙ ap (unary_value c.args.shape c.args.op) held_number))

pub returns-then-eq : goal.returns-then-eq
returns-then-eq c =
    let one : c.in-Unary.inner ≡ c.args.op = search rules in
    unary_back c.args.terms.now c.args.shape c.args.op c.args.of c.in-Unary.inside c.get.result c.values_are_fixed.ensures.shaped c.get.ensures.value (c.in-Unary.is ∙ ap (λ (op : UnaryOp). Unary op c.in-Unary.inside) one) c.get.ensures.placed c.requires.0 c.requires.1
