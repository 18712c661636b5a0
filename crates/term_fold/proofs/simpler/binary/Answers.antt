use Rattle.std.proofs.Common.{sym, subst}
use Rattle.term_core.specs.declared.term.TermKind.TheVariants.{Binary}
use Rattle.term_fold.specs.declared.simpler.Simpler.{Simpler}
use Rattle.term_fold.specs.Folded.{IsSimpler}
use Rattle.term_fold.proofs.Known.{is_for, chosen_binary}
use Rattle.term_fold.proofs.simpler.binary.Goals as goal

pub picked-pick-requires : goal.picked-pick-requires
picked-pick-requires c = is_for c.args.terms.now c.args.op c.args.left c.args.right c.operands_of-operands.result c.operands_of-operands.ensures c.requires.2

pub returns : goal.returns
returns c =
    let P : Simpler → Type 0 = λ r. IsSimpler c.args.terms.now c.args.shape (Binary c.args.op c.args.left c.args.right) r in
    subst P (sym c.chosen.ensures) (chosen_binary c.args.terms.now c.args.left c.args.right c.operands_of-operands.result c.args.op c.picked-pick.result c.args.shape c.operands_of-operands.ensures c.requires c.picked-pick.ensures)
