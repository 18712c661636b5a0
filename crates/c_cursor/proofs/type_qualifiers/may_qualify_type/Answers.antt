use Rattle.std.proofs.Common.{◌∙◌, rules, tests}
use Rattle.std.proofs.lemmas.Iterator.{YieldsList-from_slice}
use Rattle.std.proofs.lemmas.Iterator.Search.{all_from_yields_List}
use Rattle.c_tree.specs.Spells.{InTypeName, may_qualify}
use Rattle.c_cursor.proofs.Qualifies.{all_qualify}
use Rattle.c_cursor.proofs.type_qualifiers.may_qualify_type.Goals as goal

pub returns : goal.returns
returns c =
    all_from_yields_List (may_qualify InTypeName) _ _ _ c.all.ensures.ran (YieldsList-from_slice c.args.list.now cc) (λ x b q k. search (rules, tests))
    ∙ all_qualify InTypeName c.args.list.now
