use Rattle.std.proofs.Common.{rules, arith}
use Rattle.c_tree.specs.SpellsText.{kinds_of}
use Rattle.c_grammar.specs.ReadExpressions.{Refuses}
use Rattle.c_grammar.specs.Readers.{declarator}
use Rattle.c_grammar.specs.ReadTypes.{separated}
use Rattle.c_grammar.specs.ReadStatements.{initialiser, declared}
use Rattle.c_cursor.proofs.Faults.{refused, refuses}
use Rattle.c_declarations.proofs.Commas.{separated_none, separated_first}
use Rattle.c_declarations.proofs.declarations.Declarations.names.Goals as goal

pub returns-then-self-eq0 : goal.returns-then-self-eq0
returns-then-self-eq0 g c =
    let kinds = kinds_of c.args.self.now.tokens.now in
    let one = declared kinds (declarator kinds c.args.self.now.depth) (initialiser kinds c.args.self.now.depth) c.args.defines in
    refuses _ _ _ _ c.refuse.ensures (separated_none kinds one c.args.self.now.depth c.args.place.now (omega arith))

pub returns-in_err-first : goal.returns-in_err-first
returns-in_err-first g c =
    let kinds = kinds_of c.args.self.now.tokens.now in
    let one = declared kinds (declarator kinds c.args.self.now.depth) (initialiser kinds c.args.self.now.depth) c.args.defines in
    refused (one c.args.place.now) (separated kinds one c.args.self.now.depth c.args.place.now) _ c.from_residual.result _ _ (search rules)
    (λ h. separated_first kinds one c.args.self.now.depth c.args.place.now Refuses (omega arith) h) c.in_err-first.ensures

pub returns : goal.returns
returns g c =
    let kinds = kinds_of c.args.self.now.tokens.now in
    let one = declared kinds (declarator kinds c.args.self.now.depth) (initialiser kinds c.args.self.now.depth) c.args.defines in
    rw (separated_first kinds one c.args.self.now.depth c.args.place.now _ (omega arith) c.in_ok-first.ensures) c.further_names.ensures
