use Rattle.std.proofs.Common.{◌≡◌, rules, Some, None, ◌∙◌, sym, ap, subst}
use Rattle.c_tokens.specs.Words.{lookup, words}
use Rattle.c_tokens.specs.Constants.{number_of}
use Rattle.c_tokens.specs.Reading.{number_kind}
use Rattle.c_scan.specs.Numbers.{number_view}
use Rattle.c_macros.specs.Chains.{Becomes, IsNoWord, Edge, name_at}
use Rattle.c_macros.specs.Tables.{macros_view}
use Rattle.c_macros.proofs.Known.{number_known, numbers_length}
use Rattle.c_macros.proofs.Links.{becomes_number, becomes_word, becomes_given, edge}
use Rattle.c_macros.proofs.macros.Macros.next.Goals as goal

pub returns-then-begins_digit : goal.returns-then-begins_digit
returns-then-begins_digit c =
    let macros = macros_view c.args.self.now in
    let x = name_at macros.defined c.args.place in
    let text = c.text_at-text.result.now in
    let defined : lookup macros.defined x ≡ Some text = c.requires.known.linked.texts c.args.place c.requires.place ∙ ap (λ t. Some t) (sym c.text_at-text.ensures) in
    let read : number_view c.index.result.now ≡ number_of c.args.self.now.model text =
    ap number_view c.index.ensures ∙ number_known c.args.self.now.model macros.defined c.args.self.now.numbers.items c.requires.known.numbered c.args.place c.index.result.now c.requires.place
    ∙ ap (number_of c.args.self.now.model) (sym c.text_at-text.ensures) in
    subst (Becomes c.args.self.now.model macros x) (sym (c.number_kind.ensures ∙ ap number_kind read))
    (becomes_number c.args.self.now.model macros x text c.requires.no_word defined (sym c.if-begins_digit.ensures))

pub returns-in-Some : goal.returns-in-Some
returns-in-Some c =
    let macros = macros_view c.args.self.now in
    let x = name_at macros.defined c.args.place in
    let text = c.text_at-text.result.now in
    let defined : lookup macros.defined x ≡ Some text = c.requires.known.linked.texts c.args.place c.requires.place ∙ ap (λ t. Some t) (sym c.text_at-text.ensures) in
    let word : lookup words text ≡ Some c.in-Some.kind = cc c.in_ok-kind.ensures in
    becomes_word c.args.self.now.model macros x text c.requires.no_word defined (sym c.if-begins_digit.ensures) c.in-Some.kind word

pub returns-in-Some-place_of : goal.returns-in-Some-place_of
returns-in-Some-place_of c =
    let macros = macros_view c.args.self.now in
    let x = name_at macros.defined c.args.place in
    let text = c.text_at-text.result.now in
    let defined : lookup macros.defined x ≡ Some text = c.requires.known.linked.texts c.args.place c.requires.place ∙ ap (λ t. Some t) (sym c.text_at-text.ensures) in
    let word : lookup words text ≡ None = cc c.in_ok-kind.ensures in
    let step = edge c.args.self.now.model macros x text c.requires.no_word defined (sym c.if-begins_digit.ensures) in
    let named : name_at macros.defined c.in-Some-place_of.place ≡ text = c.in-Some-place_of.ensures.named in
    (c.in-Some-place_of.ensures.within, subst IsNoWord (sym named) word, subst (Edge macros.defined x) (sym named) step)

pub returns-in_ok-given_or_name-in-None : goal.returns-in_ok-given_or_name-in-None
returns-in_ok-given_or_name-in-None c =
    let macros = macros_view c.args.self.now in
    let x = name_at macros.defined c.args.place in
    let text = c.text_at-text.result.now in
    let defined : lookup macros.defined x ≡ Some text = c.requires.known.linked.texts c.args.place c.requires.place ∙ ap (λ t. Some t) (sym c.text_at-text.ensures) in
    let word : lookup words text ≡ None = cc c.in_ok-kind.ensures in
    let new : lookup macros.defined text ≡ None = c.in-None.ensures in
    subst (Becomes c.args.self.now.model macros x) (sym c.in_ok-given_or_name-in-None.ensures)
    (becomes_given c.args.self.now.model macros x text c.requires.no_word defined (sym c.if-begins_digit.ensures) word new)

pub index-requires : goal.index-requires
index-requires c =
    let macros = macros_view c.args.self.now in
    let size = numbers_length c.args.self.now.model macros.defined c.args.self.now.numbers.items c.requires.known.numbered in
    let within = c.requires.place in
    search (rules, size)
