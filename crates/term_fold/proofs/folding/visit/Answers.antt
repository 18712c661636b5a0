use Rattle.std.proofs.Common.{arith, ◌<◌, length}
use Rattle.std.specs.Prelude.{nat_eq}
use Rattle.indexmap.specs.IndexMap.{get}
use Rattle.term_fold.proofs.Renamed.{all_grown, all_with, one_more_waits, names_below}
use Rattle.term_fold.proofs.folding.visit.Goals as goal

pub returns-in-Some-clause-waiting : goal.returns-in-Some-clause-waiting
returns-in-Some-clause-waiting c =
    let ts = c.args.terms.now in
    let n = length ts in
    one_more_waits n c.in-Some.operand c.push.new.self c.push-in-Some.new.self c.in_ok-push-2.ensures.ok
    (c.in-Some.ensures n (names_below ts c.args.id.0 n c.get-kind.result.shape c.get-kind.result.kind (omega (arith, c.requires.within)) c.get-kind.ensures.placed.1))
    (one_more_waits n c.args.id c.args.waiting.now c.push.new.self c.in_ok-push.ensures.ok c.requires.within c.requires.waiting)

pub returns-clause-known : goal.returns-clause-known
returns-clause-known c =
    let old = c.args.terms.now in
    let new = c.fold_one.new.terms in
    let grows = c.in_ok-made.ensures.kept in
    let low : c.args.id.0 < length new = omega (arith, c.requires.within, grows.longer) in
    all_with new (get nat_eq c.args.folded.now) (get nat_eq c.insert.new.self) c.args.id.0 c.in_ok-made.made (all_grown old new (get nat_eq c.args.folded.now) grows c.requires.known) low c.in_ok-made.ensures.same c.in_ok-insert.ensures.updates.0
