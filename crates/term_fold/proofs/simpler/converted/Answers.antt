use Rattle.std.proofs.Common.{rules, ◌≡◌, sym, ap, ◌∙◌}
use Rattle.term_core.specs.declared.term.Term.{Term}
use Rattle.term_fold.proofs.Known.{convert_none}
use Rattle.term_fold.proofs.simpler.converted.Goals as goal

pub returns-then-eq : goal.returns-then-eq
returns-then-eq c =
    let e : c.get.result.shape ≡ c.args.shape = search rules in
    convert_none c.args.terms.now c.args.shape c.args.of c.values_are_fixed.ensures.shaped c.requires (sym (ap (λ (t : Term). t.shape) c.get.ensures.value) ∙ e)
