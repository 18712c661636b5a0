use Rattle.std.proofs.Common.{◌<◌, length}
use Rattle.std.specs.List.{All}
use Rattle.std.specs.Prelude.{nat_eq}
use Rattle.indexmap.specs.IndexMap.{get}
use Rattle.term_core.specs.Table.{Grows}
use Rattle.term_fold.specs.Folded.{AllSame}
use Rattle.term_fold.proofs.folding.fold.Given as goal

abbrev pub invariant-loop-visit : goal.invariant-loop-visit
invariant-loop-visit l = record {
  known : AllSame l.terms (get nat_eq l.folded);
  waiting : All (λ w. w.0 < length l.terms) l.waiting;
  kept : Grows l.fn.terms l.terms;
}
