use Rattle.std.proofs.Common.{rules, ◌≡◌, sym, ap, ◌∙◌}
use Rattle.std.proofs.lemmas.Int.{to_z-of_z}
use Rattle.std.specs.Int.{w128}
use Rattle.term_core.specs.declared.term.Term.{Term}
use Rattle.term_core.specs.Shape.{wrap_to}
use Rattle.term_fold.proofs.Known.{convert_none, convert_computed, convert_twice}
use Rattle.term_fold.proofs.simpler.convert.Goals as goal

pub returns-then-eq : goal.returns-then-eq
returns-then-eq c =
    let e : c.get-term.result.shape ≡ c.args.shape = search rules in
    convert_none c.args.terms.now c.args.shape c.args.of c.values_are_fixed.ensures.shaped c.requires.kind (sym (ap (λ (t : Term). t.shape) c.get-term.ensures.value) ∙ e)

pub returns-in-Some : goal.returns-in-Some
returns-in-Some c =
    let held_number = to_z-of_z w128 c.in-Some.number (search rules) in
    convert_computed c.args.terms.now c.args.shape c.args.of c.in-Some.number _ c.in-Some.ensures
    (to_z-of_z w128 c.wrap_at.result (search rules) ∙ (c.wrap_at.ensures.value ∙ ap (wrap_to c.args.shape) held_number))

pub returns-then-shape-term : goal.returns-then-shape-term
returns-then-shape-term c = convert_twice c.args.terms.now c.args.shape c.args.of c.in-Convert.inside c.get-term.result c.converted.result c.get-term.ensures.value c.in-Convert.is c.requires.kind c.if-shape-term.true c.converted.ensures
