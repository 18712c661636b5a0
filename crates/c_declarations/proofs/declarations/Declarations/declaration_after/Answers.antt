use Rattle.std.proofs.Common.{rules}
use Rattle.c_tree.specs.SpellsText.{kinds_of}
use Rattle.c_grammar.specs.Marks.{mark_at}
use Rattle.c_cursor.specs.declared.marks.Mark.TheVariants as mark
use Rattle.c_grammar.specs.ReadStatements.{names_with, declaration_by}
use Rattle.c_cursor.proofs.Faults.{expected, refused}
use Rattle.c_declarations.proofs.DeclarationEnds.{declaration_ends, declaration_fails, declaration_refused}
use Rattle.c_declarations.proofs.declarations.Declarations.declaration_after.Goals as goal

pub returns-in_err-names : goal.returns-in_err-names
returns-in_err-names g c =
    let kinds = kinds_of c.args.self.now.tokens.now in
    let names = names_with kinds c.args.self.now.depth in
    refused (names c.args.specified.defines c.args.place.now)
    (declaration_by kinds names c.args.specified.defines c.args.specified.list c.args.place.now (mark_at kinds c.args.place.now)) _ c.from_residual.result _ _
    (search rules) (λ h. declaration_refused kinds names c.args.specified.defines c.args.specified.list c.args.place.now (search rules) h) c.in_err-names.ensures

pub returns-in_err-take : goal.returns-in_err-take
returns-in_err-take g c =
    let kinds = kinds_of c.args.self.now.tokens.now in
    let names = names_with kinds c.args.self.now.depth in
    expected kinds mark.Semicolon c.names.new.place _
    (declaration_by kinds names c.args.specified.defines c.args.specified.list c.args.place.now (mark_at kinds c.args.place.now)) _ c.from_residual-in_err-take.result _
    (search rules) (λ h. declaration_fails kinds names c.args.specified.defines c.args.specified.list c.args.place.now c.names.new.place _ (search rules) c.in_ok-names.ensures h)
    c.in_err-take.ensures

pub returns : goal.returns
returns g c =
    let kinds = kinds_of c.args.self.now.tokens.now in
    declaration_ends kinds (names_with kinds c.args.self.now.depth) c.args.specified.defines c.args.specified.list c.args.place.now c.names.new.place _ _ _
    (search rules) c.in_ok-names.ensures c.in_ok-take.ensures.0 c.in_ok-take.ensures.1 (search rules)
