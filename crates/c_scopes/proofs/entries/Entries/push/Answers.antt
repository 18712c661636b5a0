use Rattle.std.proofs.Common.{◌≡◌, ◌∷◌, length, ap, sym, ◌∙◌, subst}
use Rattle.std.proofs.lemmas.List.{length-map}
use Rattle.c_places.specs.Standing.{HasPlaces}
use Rattle.c_scopes.specs.Entries.{names_of}
use Rattle.c_scopes.proofs.entries.Entries.push.Goals as goal

pub invariant_of-self-2 : goal.invariant_of-self-2
invariant_of-self-2 c =
    let items = c.self.inside.items in
    let had = subst (λ places. HasPlaces (names_of items) places) (sym c.replace-places.ensures.value) c.self.invariant in
    let counts : c.len.result ≡ length (names_of items) = c.len.ensures ∙ ap length c.replace-items.ensures.value ∙ sym (length-map items (λ entry. entry.name)) in
    let added = subst (λ name. HasPlaces (name ∷ names_of items) c.add.new.self) c.as_slice.ensures (c.in_ok-add.ensures (names_of items) had counts) in
    subst (λ list. HasPlaces (names_of list) c.add.new.self) (sym (c.in_ok-push.ensures.ok ∙ ap (λ rest. c.args.entry ∷ rest) c.replace-items.ensures.value)) added
