use Rattle.std.proofs.Common.{◌∙◌, sym, ap}
use Rattle.c_tree.specs.SpellsText.{kinds_of}
use Rattle.c_tree.specs.declared.expression.EnumConstant.TheVariants as constant_node
use Rattle.c_grammar.specs.ReadExpressions.{Gives}
use Rattle.c_specifiers.proofs.ConstantSteps.{constant_next}
use Rattle.c_specifiers.proofs.constants.Constants.constant_after.Goals as goal

pub returns-in_ok-declared-in_default : goal.returns-in_ok-declared-in_default
returns-in_ok-declared-in_default g c =
    let kinds = kinds_of c.args.self.now.tokens.now in
    constant_next kinds c.args.self.now.depth c.args.name c.args.at c.args.place.now (λ e. c.in_default.not-Equals (c.mark_at.ensures.value ∙ e))
    ∙ ap (λ t. Gives (constant_node.Next c.args.name c.args.at) t) (sym c.in_ok-declared-in_default.ensures)
