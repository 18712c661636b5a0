use Rattle.std.proofs.Common.{sym, subst}
use Rattle.term_core.specs.declared.term.TermKind.TheVariants.{Fits}
use Rattle.term_fold.specs.declared.simpler.Simpler.{Simpler}
use Rattle.term_fold.specs.Folded.{IsSimpler}
use Rattle.term_fold.proofs.Known.{is_for, chosen_fits}
use Rattle.term_fold.proofs.simpler.fits.Goals as goal

pub fits_picked-pick-requires : goal.fits_picked-pick-requires
fits_picked-pick-requires c = is_for c.args.terms.now c.args.op c.args.left c.args.right c.operands_of-operands.result c.operands_of-operands.ensures c.requires.2

pub returns : goal.returns
returns c =
    let P : Simpler → Type 0 = λ r. IsSimpler c.args.terms.now c.args.shape (Fits c.args.op c.args.left c.args.right) r in
    subst P (sym c.chosen.ensures) (chosen_fits c.args.terms.now c.args.left c.args.right c.operands_of-operands.result c.args.op c.fits_picked-pick.result c.args.shape c.operands_of-operands.ensures c.requires c.fits_picked-pick.ensures)
