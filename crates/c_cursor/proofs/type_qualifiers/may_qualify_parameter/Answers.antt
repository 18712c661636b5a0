use Rattle.std.proofs.Common.{◌∙◌, rules, tests}
use Rattle.std.proofs.lemmas.Iterator.{YieldsList-from_slice}
use Rattle.std.proofs.lemmas.Iterator.Search.{all_from_yields_List}
use Rattle.c_tree.specs.Spells.{InParameter, may_qualify}
use Rattle.c_cursor.proofs.Qualifies.{all_qualify}
use Rattle.c_cursor.proofs.type_qualifiers.may_qualify_parameter.Goals as goal

pub returns : goal.returns
returns c =
    all_from_yields_List (may_qualify InParameter) _ _ _ c.all.ensures.ran (YieldsList-from_slice c.args.list.now cc) (λ x b q k. search (rules, tests))
    ∙ all_qualify InParameter c.args.list.now
