use Rattle.std.proofs.Common.{◌≡◌, ◌<◌, length, false, Some, None, sym, ap, ◌∙◌, arith, subst}
use Rattle.std.proofs.lemmas.List.{get_or_read}
use Rattle.std.specs.Option.{is_some}
use Rattle.c_macros.specs.Circles.{IsMarked, mark_at, is_marked}
use Rattle.c_macros.specs.Tables.{macros_view}
use Rattle.c_macros.proofs.Marks.{marked_lead}
use Rattle.c_macros.proofs.Known.{known_again}
use Rattle.c_macros.proofs.macros.Macros.mark_lead.Goals as goal

pub returns-clause-known : goal.returns-clause-known
returns-clause-known c =
    let D = (macros_view c.args.self.now).defined in
    let marks = c.args.self.now.returns.items in
    let count = c.requires.known.marked.are_returns.count in
    let place = c.requires.place in
    let after = c.requires.next in
    let first_inside : c.args.place < length marks = omega arith in
    let next_inside : c.args.next < length marks = omega arith in
    let unmarked : is_marked marks c.args.place ≡ false = sym (ap is_some (get_or_read marks _ _ first_inside c.index.ensures None)) ∙ sym c.if-is_some.ensures in
    let found : mark_at marks c.args.next ≡ Some c.in-Some.end = sym (get_or_read marks _ _ next_inside c.index-2.ensures None) ∙ c.in-Some.is in
    let marked = marked_lead D marks c.args.place c.args.next c.in-Some.end c.requires.known.marked c.requires.known.linked.unique place unmarked after found c.requires.edge in
    known_again c.args.self.now c.note_return.new.self c.requires.known c.note_return.ensures.others (subst (IsMarked D) (sym c.note_return.ensures.marks) marked)
