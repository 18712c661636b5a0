use Rattle.std.proofs.Common.{◌≡◌, ◌<◌, length, Some, None, sym, ap, ◌∙◌, arith}
use Rattle.std.proofs.lemmas.List.{get_or_read}
use Rattle.c_tokens.specs.declared.token.TokenKind.TheVariants.{Name}
use Rattle.c_macros.specs.Circles.{mark_at}
use Rattle.c_macros.specs.Tables.{macros_view}
use Rattle.c_macros.specs.Chains.{name_at}
use Rattle.c_macros.proofs.Circles.{kind_of_returning}
use Rattle.c_macros.proofs.macros.Macros.name_returned.Goals as goal

pub returns : goal.returns
returns c =
    let macros = macros_view c.args.self.now in
    let marks = c.args.self.now.returns.items in
    let count = c.requires.known.marked.are_returns.count in
    let place = c.requires.place in
    let inside : c.args.place < length marks = omega arith in
    let found : mark_at marks c.args.place ≡ Some c.in-Some.end = sym (get_or_read marks _ _ inside c.index.ensures None) ∙ c.in-Some.is in
    let back = c.requires.known.marked.are_returns.ends c.args.place c.in-Some.end place found in
    let text : c.in_ok-from_slice-in-Some.field-0 ≡ name_at macros.defined c.in-Some.end = c.in_ok-from_slice-in-Some.ensures ∙ c.name_at.ensures in
    ap Name text ∙ sym (kind_of_returning c.args.self.now.model macros (name_at macros.defined c.args.place) (name_at macros.defined c.in-Some.end) back.returns)
