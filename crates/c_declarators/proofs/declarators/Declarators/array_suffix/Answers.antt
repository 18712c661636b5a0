use Rattle.std.proofs.Common.{◌≡◌, ◌∙◌, rules}
use Rattle.c_tree.specs.SpellsText.{kinds_of}
use Rattle.c_tree.specs.declared.expression.Declarator.TheVariants as declarator_node
use Rattle.c_grammar.specs.ReadExpressions.{Gives}
use Rattle.c_grammar.specs.ReadTypes.{Titles}
use Rattle.c_declarators.specs.Declarators.{array_suffix}
use Rattle.c_declarators.specs.TypeNames.{closed_size}
use Rattle.c_cursor.specs.Reads.{titled_of}
use Rattle.c_declarators.proofs.DeclaratorSteps.{array_sized}
use Rattle.c_declarators.proofs.declarators.Declarators.array_suffix.Goals as goal

pub returns-in_default : goal.returns-in_default
returns-in_default g c =
    let kinds = kinds_of c.args.self.now.tokens.now in
    let size : closed_size kinds c.args.self.now.depth c.skip.new.self ≡ Gives c.in_ok-titled.size c.closed_size-size.new.place = search rules in
    let whole : array_suffix kinds c.args.self.now.depth (titled_of c.args.titled) c.args.place.now
    ≡ Gives (Titles c.args.titled.name c.args.titled.parameters (declarator_node.Array c.args.titled.inner c.in_ok-titled.size c.args.place.now.at)) c.closed_size-size.new.place =
    array_sized kinds c.args.self.now.depth c.args.titled.name c.args.titled.parameters c.args.titled.inner c.args.place.now c.skip.new.self c.closed_size-size.new.place c.in_ok-titled.size
    c.skip.ensures (λ e. c.in_default.not-SquareCloses (c.mark_at.ensures.value ∙ e)) size in
    let kept : c.in_ok-titled.titled ≡ c.args.titled = search rules in
    cc (whole, kept, c.in_ok-array.ensures, c.at-at.ensures)
