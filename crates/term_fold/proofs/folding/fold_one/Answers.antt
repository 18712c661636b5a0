use Rattle.std.proofs.Common.{List, IfOk, subst}
use Rattle.std.proofs.lemmas.Result.{IfOk-weaker}
use Rattle.std.specs.Prelude.{nat_eq}
use Rattle.indexmap.specs.IndexMap.{get}
use Rattle.term_core.specs.declared.term.Term.{Term}
use Rattle.term_core.specs.declared.term.TermKind.{TermKind}
use Rattle.term_core.specs.Table.{kind_value}
use Rattle.term_fold.specs.Folded.{Replaces, IsSame, renamed_kind}
use Rattle.term_fold.proofs.Renamed.{folded_same}
use Rattle.term_fold.proofs.folding.fold_one.Goals as goal

pub returns-clause-same : goal.returns-clause-same
returns-clause-same c =
    let old : List Term = c.args.terms.now in
    let new : List Term = c.simplified.new.terms in
    let t : Term = c.get-term.result in
    let P : TermKind → Type 0 = λ k. IfOk c.simplified.result (Replaces new t.shape (λ E V. kind_value E V old t.shape k)) in
    IfOk-weaker c.simplified.result (Replaces new t.shape (λ E V. kind_value E V old t.shape (renamed_kind (get nat_eq c.args.folded.now) t.kind))) (IsSame new c.args.id.0)
    (λ x h. folded_same old new (get nat_eq c.args.folded.now) c.args.id.0 t x c.get-term.ensures.value c.requires.within c.get-term.ensures.placed c.requires.known c.simplified.ensures.kept h)
    (subst P c.with_folded-kind.ensures c.simplified.ensures.replaces)
