use Rattle.std.proofs.Common.{ap, ◌∙◌}
use Rattle.std.specs.Prelude.{nat_eq}
use Rattle.std.specs.Map.{lookup}
use Rattle.indexmap.specs.IndexMap.{get}
use Rattle.std.proofs.lemmas.List.Elements.{All-nil}
use Rattle.term_core.proofs.Tables.{grows_on}
use Rattle.term_fold.proofs.Renamed.{answer_same, kept_shape, grows_not_at_all, none_folded, one_less_waits, one_more_waits}
use Rattle.term_fold.proofs.folding.fold.Goals as goal

pub returns-clause-within : goal.returns-clause-within
returns-clause-within c = (answer_same c.args.terms.now c.loop-visit.terms (get nat_eq c.loop-visit.folded) c.args.id c.renamed.result c.requires c.loop-visit.invariant.kept c.loop-visit.invariant.known c.renamed.ensures).within

pub returns-clause-shape : goal.returns-clause-shape
returns-clause-shape c =
    (answer_same c.args.terms.now c.loop-visit.terms (get nat_eq c.loop-visit.folded) c.args.id c.renamed.result c.requires c.loop-visit.invariant.kept c.loop-visit.invariant.known c.renamed.ensures).shape
    ∙ kept_shape c.args.terms.now c.loop-visit.terms c.args.id.0 c.requires c.loop-visit.invariant.kept

pub returns-clause-value : goal.returns-clause-value
returns-clause-value c = (answer_same c.args.terms.now c.loop-visit.terms (get nat_eq c.loop-visit.folded) c.args.id c.renamed.result c.requires c.loop-visit.invariant.kept c.loop-visit.invariant.known c.renamed.ensures).value

pub returns-clause-kept : goal.returns-clause-kept
returns-clause-kept c = c.loop-visit.invariant.kept

pub visit-requires-clause-within : goal.visit-requires-clause-within
visit-requires-clause-within c = (one_less_waits _ c.in-Some.next c.pop.new.self c.loop-visit.waiting c.in-Some.ensures c.loop-visit.invariant.waiting).0

pub visit-requires-clause-known : goal.visit-requires-clause-known
visit-requires-clause-known c = c.loop-visit.invariant.known

pub visit-requires-clause-waiting : goal.visit-requires-clause-waiting
visit-requires-clause-waiting c = (one_less_waits _ c.in-Some.next c.pop.new.self c.loop-visit.waiting c.in-Some.ensures c.loop-visit.invariant.waiting).1

pub returns-in_err-visit-clause-kept : goal.returns-in_err-visit-clause-kept
returns-in_err-visit-clause-kept c = grows_on _ _ _ c.loop-visit.invariant.kept c.in_err-visit.ensures.kept

pub loop-visit-init : goal.loop-visit-init
loop-visit-init c = record {
  known = none_folded _ _ (λ i. ap (lookup (nat_eq i)) c.new-folded.ensures.empty);
  waiting = one_more_waits _ c.args.id c.new-waiting.result _ c.in_ok-push.ensures.ok c.requires (rw c.new-waiting.ensures (All-nil _));
  kept = grows_not_at_all _;
}

pub loop-visit-preserved : goal.loop-visit-preserved
loop-visit-preserved c = record {
  known = c.in_ok-visit.ensures.known;
  waiting = c.in_ok-visit.ensures.waiting;
  kept = grows_on _ _ _ c.loop-visit.invariant.kept c.in_ok-visit.ensures.kept;
}
